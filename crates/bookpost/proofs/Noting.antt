-- An account posted and noted, event by event, and the whole history.
use Prim.Native.Nat.{ℕ, suc, ◌≤◌, ◌<◌}
use mathlib.Core.Path.{◌≡◌, refl, sym, ap, ◌∙◌}
use mathlib.Core.Bool.{true, cond, ◌&&◌}
use mathlib.Core.List.{List, [], ◌∷◌, ◌++◌, map}
use native.Mathlib.Omega.{arith}
use borrow.Author.Tests.{leb-true}
use lib.Dec.{leb}
use lib.IntN.{ℤ}
use lib.ListN.{length, set, length-map}
use lib.Seq.{sets}
use Rattle.std.proofs.Common.{Err, None}
use Rattle.std.proofs.lemmas.Bool.{and_parts}
use Rattle.std.proofs.lemmas.List.{map-append}
use Rattle.basics.proofs.Cases.{on}
use Rattle.rules.specs.declared.refusals.Refusal.{Refusal}
use Rattle.rules.specs.declared.Event.{Event}
use Rattle.rules.specs.Refusals.{refusal_number, refusals}
use Rattle.rules.specs.History.{History}
use Rattle.rules.specs.Money.{owed}
use Rattle.rules.specs.Answer.{Answer, answered, number_of}
use Rattle.rules.specs.Accepted.{Lawful, offered, accepted, accepted_after, answer, answers_after, answers_by}
use Rattle.little.proofs.Stores.{sets_front, sets_then}
use Rattle.bookformat.specs.Lent.{after}
use Rattle.bookformat.specs.Book.{book_refusal}
use Rattle.bookformat.specs.Finding.{book_account}
use Rattle.bookformat.proofs.Told.{told, unchanged, or_zero, book_in_table, or_in_table}
use Rattle.rules.proofs.Lawful.{offered_lawful}
use Rattle.account.specs.State.{fresh_words, words_of, account_of}
use Rattle.account.specs.Post.{answer_to, words_after}
use Rattle.questions.specs.Questions.{owed_in}
use Rattle.questions.proofs.Laws.{laws}
use Rattle.questions.proofs.Told.{owed_is}
use Rattle.claim.specs.Run.{run}
use Rattle.claim.proofs.Compose.{run_same}
use Rattle.claim.proofs.Demand.{demand_3}
use Rattle.claim.proofs.Walk.{run_more}
use Rattle.bookpost.specs.BookHistory.{numbers_of, owed_from, history_refusal, ToldHistory}

-- one more event at the end
answers_more : (h : History) (es : List Event) (e : Event) → answers_after None h (es ++ (e ∷ [])) ≡ answers_after None h es ++ (answer None (accepted_after None h es) e ∷ [])
answers_more h [] e = refl
answers_more h (x ∷ es) e = ap (λ l. answer None h x ∷ l) (answers_more (offered None h x) es e)

owed_more : (h : History) (es : List Event) (e : Event)
    → owed_from h (es ++ (e ∷ [])) ≡ owed_from h es ++ (owed (accepted_after None h (es ++ (e ∷ []))) ∷ [])
owed_more h [] e = refl
owed_more h (x ∷ es) e = ap (λ l. owed (offered None h x) ∷ l) (owed_more (offered None h x) es e)

length_answers : (h : History) (es : List Event) → length (answers_after None h es) ≡ length es
length_answers h [] = refl
length_answers h (e ∷ es) = ap suc (length_answers (offered None h e) es)

length_numbers : (es : List Event) → length (numbers_of es) ≡ length es
length_numbers es = length-map (answers_by None es) number_of ∙ length_answers [] es

length_owed : (h : History) (es : List Event) → length (owed_from h es) ≡ length es
length_owed h [] = refl
length_owed h (e ∷ es) = ap suc (length_owed (offered None h e) es)

-- what is owed after each event of a list that is posted to the memory m
abbrev owed_run : List ℕ → List Event → List ℤ
owed_run m [] = []
owed_run m (e ∷ es) = owed_in (words_after m e) ∷ owed_run (words_after m e) es

-- from the account of any lawful history on, and not of a fresh one alone; for the reader
pub owed_run_lem : (h : History) (es : List Event) → Lawful None h → owed_run (words_of (account_of None h)) es ≡ owed_from h es
owed_run_lem h [] w = refl
owed_run_lem h (e ∷ es) w =
    let w2 = offered_lawful None h e w in
    let k = laws None tt (offered None h e) w2 in
    ap (λ m. owed_in m ∷ owed_run m es) (run_same None tt h (e ∷ []) w)
    ∙ (ap (λ x. x ∷ owed_run (words_of (account_of None (offered None h e))) es) (owed_is None (offered None h e) k) ∙ ap (λ l. owed (offered None h e) ∷ l) (owed_run_lem (offered None h e) es w2))

-- these events are posted and noted
pub record Noted (ns₀ : List ℕ) (os₀ : List ℤ) (es : List Event) (ns : List ℕ) (os : List ℤ) (m : List ℕ) : Type 0 where
  pub at : m ≡ run fresh_words es
  pub numbers : ns ≡ sets ns₀ 0 (numbers_of es)
  pub owing : os ≡ sets os₀ 0 (owed_from [] es)

module _ (ns₀ : List ℕ) (os₀ : List ℤ) (es : List Event) (ns : List ℕ) (os : List ℤ) (m : List ℕ) (t : Noted ns₀ os₀ es ns os m) where
  pub noted_more : (e : Event) (s : Answer) (k : List ℕ) (i x : ℕ) (y : ℤ) → i ≡ length es
      → s ≡ answer_to m e → k ≡ words_after m e → x ≡ number_of s → y ≡ owed_in k
      → Noted ns₀ os₀ (es ++ (e ∷ [])) (set ns i x) (set os i y) k
  noted_more e s k i x y l p q u v =
      let after : k ≡ run fresh_words (es ++ (e ∷ [])) = q ∙ ap (λ w. words_after w e) t.at ∙ sym (run_more fresh_words es e) in
      let n : x ≡ number_of (answer None (accepted None es) e) =
      u ∙ ap number_of p ∙ ap (λ w. number_of (answer_to w e)) t.at ∙ ap number_of ((demand_3 None es tt).would e) in
      let d : y ≡ owed (accepted None (es ++ (e ∷ []))) = v ∙ ap owed_in after ∙ (demand_3 None (es ++ (e ∷ [])) tt).owing in
      record {
        at = after;
        numbers = sets_then (numbers_of es) (x ∷ []) ns₀ ns 0 i t.numbers (omega (arith, length_numbers es))
            ∙ ap (sets ns₀ 0) (ap (λ k. numbers_of es ++ (k ∷ [])) n ∙ sym (ap (map number_of) (answers_more [] es e) ∙ map-append number_of (answers_by None es) (answer None (accepted None es) e ∷ [])));
        owing = sets_then (owed_from [] es) (y ∷ []) os₀ os 0 i t.owing (omega (arith, length_owed [] es))
            ∙ ap (sets os₀ 0) (ap (λ k. owed_from [] es ++ (k ∷ [])) d ∙ sym (owed_more [] es e));
      }

-- ---- the whole, where no number refuses

history_in_table : (b : List ℕ) (i n m : ℕ) → history_refusal b i n m < length refusals
history_in_table b i n m =
    let t = leb (length (book_account b i)) n && leb (length (book_account b i)) m in
    or_in_table (book_refusal b) (cond t 0 22) (book_in_table b) (on t (λ q. rw q (omega arith)) (λ q. rw q (omega arith)))

-- a history that is refused leaves both slices as they were
pub history_none : (b : List ℕ) (i : ℕ) (ns : List ℕ) (os : List ℤ) (r : Refusal) → Err r ≡ answered (history_refusal b i (length ns) (length os)) (tt {0})
    → ToldHistory b i ns ns os os (refusal_number r)
history_none b i ns os r e =
    let n = history_refusal b i (length ns) (length os) in
    let t = told n r (history_in_table b i _ _) e in
    record { answer = t.0; numbers = unchanged n _ ns t.1; owing = unchanged n _ os t.1 }

module _ (b : List ℕ) (i : ℕ) (ns : List ℕ) (os : List ℤ) (z : history_refusal b i (length ns) (length os) ≡ 0) where
  pub history_room : (book_refusal b ≡ 0) × (length (book_account b i) ≤ length ns) × (length (book_account b i) ≤ length os)
  history_room =
      let n = length (book_account b i) in
      let r = or_zero (book_refusal b) (cond (leb n (length ns) && leb n (length os)) 0 22) z in
      let t : (leb n (length ns) && leb n (length os)) ≡ true =
      on (leb n (length ns) && leb n (length os)) (λ q. q) (λ q. absurd (omega (arith, rw q at r.1))) in (
        r.0,
        leb-true n (length ns) (and_parts (leb n (length ns)) (leb n (length os)) t).0,
        leb-true n (length os) (and_parts (leb n (length ns)) (leb n (length os)) t).1,
      )

  pub history_told : (ns2 : List ℕ) (os2 : List ℤ) → ns2 ≡ sets ns 0 (numbers_of (book_account b i)) → os2 ≡ sets os 0 (owed_from [] (book_account b i))
      → ToldHistory b i ns ns2 os os2 0
  history_told ns2 os2 p q =
      let es = book_account b i in
      record {
        answer = sym z;
        numbers = p ∙ (sets_front (numbers_of es) ns (omega (arith, length_numbers es, history_room.1)) ∙ sym (ap (λ n. after n (numbers_of es) ns) z));
        owing = q ∙ (sets_front (owed_from [] es) os (omega (arith, length_owed [] es, history_room.2)) ∙ sym (ap (λ n. after n (owed_from [] es) os) z));
      }
