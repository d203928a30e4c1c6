-- An account that a program keeps: its receipts are far from wrapping, and demand 3 holds of every list posted to it.
use Prim.Native.Nat.{ℕ, ◌+◌, ◌≤◌}
use mathlib.Core.Path.{refl, sym, ap, ◌∙◌}
use mathlib.Core.List.{List, [], ◌∷◌, map}
use native.Mathlib.Omega.{arith}
use lib.Dec.{eqb}
use Rattle.basics.proofs.Cases.{on}
use Rattle.std.proofs.lemmas.Bool.{cond_both}
use Rattle.std.specs.Prelude.{Option}
use Rattle.rules.specs.declared.Event.{Event}
use Rattle.rules.specs.declared.Calendar.{Calendar}
use Rattle.rules.specs.Kinds.{payment}
use Rattle.rules.specs.History.{is}
use Rattle.rules.specs.Money.{arrears}
use Rattle.rules.specs.Limits.{limit}
use Rattle.rules.specs.Answer.{receipt_of}
use Rattle.rules.specs.Accepted.{accepted}
use Rattle.rules.proofs.Lawful.{accepted_lawful}
use Rattle.rules.proofs.Bounds.{arrears_charged, charged_limit}
use Rattle.receipts.specs.Receipts.{count_by}
use Rattle.account.specs.State.{State, begun_words, state_on, passes}
use Rattle.account.specs.Post.{refusal_at, answer_at, answer_to, words_after}
use Rattle.account.specs.Many.{account_at, has_account, answer_at_of}
use Rattle.account.proofs.Exits.{passed_fit}
use Rattle.claim.specs.Run.{run, answers, LeftBy}
use Rattle.claim.proofs.Demand.{demand_3, as_run}
use Rattle.hollupaq.specs.Library.{answer_word, count_word, Keeps, KeptClaim}
use Rattle.hollupaq.proofs.Told.{told_word, said_word}

-- ---- a receipt counts payments, of which there are no more than cents in the limit
receipt_at_lem : (s : State) (e : Event) → count_by s.receipts e.option ≤ limit → receipt_of (answer_at s e) ≤ limit + 1
unfolding answer_at
receipt_at_lem s e h =
    on (eqb (refusal_at s e) 0)
    (λ q. rw q (cond_both (is payment e) (count_by s.receipts e.option + 1) 0 (λ n. n ≤ limit + 1) (λ p. omega arith) (λ p. omega arith)))
    (λ q. rw q (omega arith))

pub receipt_small : (m : List ℕ) (e : Event) → receipt_of (answer_to m e) ≤ limit + 1
unfolding answer_to
receipt_small m e =
    on (passes m)
    (λ q. rw q (receipt_at_lem (state_on m) e ((passed_fit m q).fit.receipts_fit.count_le e.option)))
    (λ q. rw q (omega arith))

pub receipt_small_at : (i : ℕ) (all : List ℕ) (e : Event) → receipt_of (answer_at_of i all e) ≤ limit + 1
receipt_small_at i all e =
    on (has_account i all)
    (λ q. rw q (receipt_small (account_at i all) e))
    (λ q. rw q (omega arith))

-- ---- DEMAND 3
pub demand_3_kept : (c : Option Calendar) (es : List Event) (said : List ℕ) (z : List ℕ) → KeptClaim c es said z
demand_3_kept c es said z taken left =
    let t = as_run answer_word Keeps (λ m e s k v. (v.answer_is, v.words_are)) (begun_words c) es said z left in
    let d = demand_3 c es taken in
    let h = accepted c es in
    let small : (u : ℕ) → arrears h u ≤ limit = λ u. omega (arith, arrears_charged h u, charged_limit c h (accepted_lawful c es)) in
    record {
      answered = t.1 ∙ ap (map answer_word) d.answered;
      claim = rw (t.0, sym d.answered) d;
      dues = λ u. rw t.0 (told_word _ _ _ (small u) (d.dues u));
      arranged = λ u. rw t.0 (said_word _ _ _ (d.arranged u));
      noticed = λ u. rw t.0 (said_word _ _ _ (d.noticed u));
      would = λ e. rw t.0 (ap answer_word (d.would e));
      counted = λ n u. rw t.0 (ap count_word (d.counted n u));
      certificated = λ u. rw t.0 (said_word _ _ _ (d.certificated u));
    }

-- every list can be posted so. One lemma for this and `any_list` of claim, as `as_run` is one, was tried: it came out longer than the two
pub any_list_kept : (m : List ℕ) (es : List Event) → LeftBy Keeps m es (map answer_word (answers m es)) (run m es)
any_list_kept m [] = refl
any_list_kept m (e ∷ es) = (words_after m e, (record { answer_is = refl; words_are = refl }, any_list_kept (words_after m e) es))
