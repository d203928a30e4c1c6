-- What the proofs of an accepted event cite: what each step asks, and the account after the parts' spans came back.
use Prim.Native.Nat.{ℕ}
use mathlib.Core.Path.{◌≡◌, refl, sym, ap, subst, ◌∙◌}
use mathlib.Core.Bool.{cond}
use mathlib.Core.List.{List, [], ◌∷◌}
use native.Mathlib.Omega.{arith}
use Rattle.std.specs.Prelude.{Option, min}
use Rattle.std.specs.Bool.{then_some}
use Rattle.basics.specs.Machine.{largest}
use lib.ListN.{length, get_or, set}
use Rattle.basics.proofs.Cases.{on}
use Rattle.span.proofs.Law.{word_set}
use Rattle.span.proofs.Parts.{Parts, part, back, here, then}
use Rattle.rules.specs.declared.Event.{Event}
use Rattle.rules.specs.declared.View.{View}
use Rattle.rules.specs.Kinds.{payment, returned_payment, arrangement}
use Rattle.rules.specs.History.{is}
use Rattle.rules.specs.Money.{charges}
use Rattle.rules.specs.Range.{WellFormed}
use Rattle.rules.specs.Table.{charge_of, credit_of}
use Rattle.rules.proofs.Passed.{allowed}
use Rattle.rules.proofs.Room.{Room, room}
use Rattle.table.specs.Seen.{seen_of}
use Rattle.table.proofs.Seen.{charge_seen, credit_seen, debt_seen, payment_seen}
use Rattle.collection.specs.Collection.{collection_size, collection_on, collection_after, watched}
use Rattle.collection.proofs.Others.{collection_watched}
use Rattle.deposit.specs.Deposit.{deposit_size, deposit_on, deposit_after}
use Rattle.medical.specs.Medical.{medical_size, medical_on, medical_after}
use Rattle.arrangement.specs.declared.Arrangement.{Arrangement}
use Rattle.arrangement.specs.Arrangement.{arrangement_size, arrangement_on, arrangement_after}
use Rattle.receipts.specs.Receipts.{receipts_size, receipts_on, count_by, receipts_after}
use Rattle.receipts.proofs.Tills.{next_count}
use Rattle.ledger.specs.Ledger.{ledger_size, ledger_on, arrears_by, ledger_after, LedgerRoom}
use Rattle.ledger.proofs.Test.{ledger_room}
use Rattle.account.specs.State.{State, sizes, account_size, state_of, state_on, view, with_money, with_file, with_service, money_after, file_after, service_after, applied}
use Rattle.account.specs.Post.{receipt_at}
use Rattle.account.specs.Looks.{Became, Passing}
use Rattle.account.proofs.Words.{ringed_on}

-- the word of the day, set: span 1 came back
pub day_set : (t : ℕ) {m : List ℕ} {cs : List (List ℕ)} → Parts sizes m cs → Parts sizes (set m 1 t) (set cs 1 (t ∷ []))
day_set t {m} {cs} p = subst (λ k. Parts sizes k (set cs 1 (t ∷ []))) (sym (word_set 1 t m (omega (arith, p.words_are)))) (then sizes 1 (t ∷ []) (omega arith) refl p)

-- ---- an event that passes has room
module _ (m : List ℕ) (e : Event) (v : View) (item : Option ℕ) (p : Passing m e v item) where
  pub passing_room : Room v e
  unfolding view
  passing_room = room v e (allowed v e p.free) (rw p.looked p.fit.fit.ledger_fit.charged_le) (rw p.looked p.fit.fit.ledger_fit.credited_le)

  -- the charge is no more than the machine's largest number
  pub item_exact : item ≡ then_some (charges e) (charge_of v e)
  item_exact =
      let exact : min (charge_of v e) largest ≡ charge_of v e = omega (arith, passing_room.charged_room) in
      p.charged ∙ ap (then_some (charges e)) exact

  pub money_room : LedgerRoom (state_on m).ledger e (charges e) (charge_of v e) (credit_of v e)
  unfolding view
  money_room =
      ledger_room (state_on m).ledger v e p.fit.fit.ledger_fit passing_room (rw p.looked) (rw p.looked) (rw p.looked)

-- ---- the spans that come back
module _ (m : List ℕ) (l : length m ≡ account_size) (e : Event) where
  -- ledger, receipts and arrangement; a span that is lent later is as it was
  module _ (ws : List ℕ) (a : length ws ≡ ledger_size) where
    pub receipts_still : part sizes 6 (back sizes 7 ws m) ≡ part sizes 6 m
    receipts_still = ap (λ cs. get_or cs 6 []) (then sizes 7 ws (omega arith) a (here sizes m l)).cuts

    module _ (ys : List ℕ) (b : length ys ≡ receipts_size) where
      pub arrangement_still : part sizes 5 (back sizes 6 ys (back sizes 7 ws m)) ≡ part sizes 5 m
      arrangement_still = ap (λ cs. get_or cs 5 []) (then sizes 6 ys (omega arith) b (then sizes 7 ws (omega arith) a (here sizes m l))).cuts

      pub money_by : (zs : List ℕ) (v : View) → length zs ≡ arrangement_size
          → ledger_on ws ≡ ledger_after (state_on m).ledger e (charges e) (charge_of v e) (credit_of v e)
          → receipts_on ys ≡ receipts_after (receipts_on (part sizes 6 (back sizes 7 ws m))) e
          → arrangement_on zs ≡ arrangement_after (arrangement_on (part sizes 5 (back sizes 6 ys (back sizes 7 ws m)))) e v.arrears v.payment
          → Became (back sizes 5 zs (back sizes 6 ys (back sizes 7 ws m))) (money_after (state_on m) e v)
      money_by zs v c p q r =
          let t = then sizes 5 zs (omega arith) c (then sizes 6 ys (omega arith) b (then sizes 7 ws (omega arith) a (here sizes m l))) in
          let q2 = q ∙ ap (λ w. receipts_after (receipts_on w) e) receipts_still in
          let r2 = r ∙ ap (λ w. arrangement_after (arrangement_on w) e v.arrears v.payment) arrangement_still in
          record {
            words_are = t.words_are;
            state_is = ap state_of t.cuts ∙ (λ i. with_money (state_on m) (r2 i) (q2 i) (p i));
          }

  -- deposit and medical
  pub file_by : (ws ys : List ℕ) → length ws ≡ deposit_size → length ys ≡ medical_size
      → deposit_on ws ≡ deposit_after (state_on m).deposit e
      → medical_on ys ≡ medical_after (medical_on (part sizes 4 (back sizes 3 ws m))) e
      → Became (back sizes 4 ys (back sizes 3 ws m)) (file_after (state_on m) e)
  file_by ws ys a b p q =
      let s = then sizes 3 ws (omega arith) a (here sizes m l) in
      let t = then sizes 4 ys (omega arith) b s in
      let q2 = q ∙ ap (λ cs. medical_after (medical_on (get_or cs 4 [])) e) s.cuts in
      record {
        words_are = t.words_are;
        state_is = ap state_of t.cuts ∙ (λ i. with_file (state_on m) (p i) (q2 i));
      }

  -- collection and the day
  pub service_found : (ws : List ℕ) (due : ℕ) → length ws ≡ collection_size
      → due ≡ cond (watched (state_on m).collection e) (arrears_by (state_on m).ledger e.day) 0
      → collection_on ws ≡ collection_after (state_on m).collection e due
      → Became (set (back sizes 2 ws m) 1 e.day) (service_after (state_on m) e)
  service_found ws due a d p =
      let s = then sizes 2 ws (omega arith) a (here sizes m l) in
      let t = day_set e.day s in
      let p2 = p ∙ (ap (collection_after (state_on m).collection e) d ∙ collection_watched (state_on m).collection e (arrears_by (state_on m).ledger e.day)) in
      record {
        words_are = t.words_are;
        state_is = ap state_of t.cuts ∙ (λ i. with_service (state_on m) e.day (p2 i));
      }

-- ---- the three steps together
pub steps_are : (m a b c : List ℕ) (e : Event) (v : View)
    → Became a (money_after (state_on m) e v) → Became b (file_after (state_on a) e) → Became c (service_after (state_on b) e) → Became c (applied (state_on m) e v)
unfolding applied
steps_are m a b c e v p q r =
    record { words_are = r.words_are; state_is = r.state_is ∙ ap (λ s. service_after s e) (q.state_is ∙ ap (λ s. file_after s e) p.state_is) }

-- the receipt of a payment is how many there are then at its till
pub receipt_by : (m c : List ℕ) (e : Event) (v : View) (n : ℕ) → length m ≡ account_size → WellFormed e → Became c (applied (state_on m) e v)
    → n ≡ count_by (state_on c).receipts e.option
    → cond (is payment e) n 0 ≡ receipt_at (state_on m) e
unfolding applied
receipt_by m c e v n l w b q =
    let s = (state_on m).receipts in
    let z : n ≡ count_by (receipts_after s e) e.option = q ∙ ap (λ k. count_by k.receipts e.option) b.state_is in
    on (is payment e)
    (λ y. rw y (z ∙ next_count s e (ringed_on m l).receipts_counts w y))
    (λ y. rw y refl)

-- ---- what the event's kind looks at is enough to apply it
module _ (v : View) (e : Event) where
  arrangement_seen : (a : Arrangement) → arrangement_after a e (seen_of v e).arrears (seen_of v e).payment ≡ arrangement_after a e v.arrears v.payment
  arrangement_seen a =
      on (is arrangement e)
      (λ q. ap (λ n. arrangement_after a e n (seen_of v e).payment) (debt_seen v e q) ∙ rw q refl)
      (λ q. on (is returned_payment e)
      (λ p. ap (λ n. arrangement_after a e (seen_of v e).arrears n) (payment_seen v e p) ∙ rw q refl)
      (λ p. rw (q, p) refl))

  pub applied_seen : (s : State) → applied s e (seen_of v e) ≡ applied s e v
  unfolding applied
  applied_seen s =
      λ i.
      service_after (file_after (with_money s
      (arrangement_seen s.arrangement i)
      (receipts_after s.receipts e)
      (ledger_after s.ledger e (charges e) (charge_seen v e i) (credit_seen v e i))) e) e
