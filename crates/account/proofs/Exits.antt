-- What the proofs of posting cite: what the test tells, what an event that passes has room for, and the exits.
use Prim.Native.Nat.{ℕ}
use mathlib.Core.Path.{◌≡◌, refl, sym, ap, ◌∙◌}
use mathlib.Core.Bool.{Bool, true, false, cond, not, ◌&&◌}
use mathlib.Core.List.{List, [], ◌∷◌}
use native.Mathlib.Omega.{arith}
use lib.Dec.{ltb, eqb}
use lib.ListN.{length}
use borrow.Author.Tests.{eqb-true, eqb-false, eq-eqb, ne_eqb}
use Rattle.std.proofs.lemmas.Bool.{and_parts}
use Rattle.basics.proofs.Cases.{on, links}
use Rattle.rules.specs.declared.Event.{Event}
use Rattle.std.proofs.Common.{Ok, Err}
use Rattle.rules.specs.declared.refusals.Refusal.{Refusal}
use Rattle.rules.specs.declared.refusals.Refusal.TheVariants.{NoAccount}
use Rattle.rules.specs.Limits.{final_day}
use Rattle.rules.specs.Range.{in_range}
use Rattle.rules.specs.Table.{refusal_by}
use Rattle.rules.specs.Accepted.{day_rows}
use Rattle.rules.specs.Answer.{Answer, answered}
use Rattle.rules.proofs.Numbered.{answered_ok, answered_err}
use Rattle.table.specs.Seen.{looks_at_debt, seen_of}
use Rattle.table.proofs.Seen.{refusal_seen}
use Rattle.collection.specs.Collection.{service_by}
use Rattle.deposit.specs.Deposit.{deposit_ok}
use Rattle.deposit.proofs.Law.{deposit_fit}
use Rattle.medical.specs.Medical.{medical_ok}
use Rattle.arrangement.specs.Arrangement.{arrangement_ok}
use Rattle.arrangement.proofs.Law.{arrangement_fit}
use Rattle.receipts.specs.Receipts.{receipts_ok}
use Rattle.receipts.proofs.Law.{receipts_fit}
use Rattle.ledger.specs.Ledger.{ledger_ok}
use Rattle.ledger.proofs.Test.{ledger_fit}
use Rattle.account.specs.State.{State, account_size, state_on, words_of, service_ok, file_ok, money_ok, state_ok, passes, StateFit, Fit, view}
use Rattle.account.specs.Post.{refusal_at, receipt_at, answer_at, state_after, answer_to, words_after, Leaves, Judges}
use Rattle.account.specs.Looks.{debts_for, money_for, view_from, offer_of, Passing, Free, Applied}
use Rattle.account.proofs.Words.{account_whole}

-- ---- what the test tells
pub state_fit : (s : State) → state_ok s ≡ true → StateFit s
unfolding state_ok
state_fit s e =
    let b = (and_parts (service_ok s) (file_ok s && money_ok s) e).1 in
    let d = (and_parts (deposit_ok s.deposit) (medical_ok s.medical) (and_parts (file_ok s) (money_ok s) b).0).0 in
    let r = links (arrangement_ok s.arrangement) (receipts_ok s.receipts ∷ ledger_ok s.ledger ∷ []) (and_parts (file_ok s) (money_ok s) b).1 in
    record {
      deposit_fit = deposit_fit s.deposit d;
      arrangement_fit = arrangement_fit s.arrangement r.0;
      receipts_fit = receipts_fit s.receipts r.1.0;
      ledger_fit = ledger_fit s.ledger r.1.1.0;
    }

module _ (m : List ℕ) where
  pub passes_yes : length m ≡ account_size → state_ok (state_on m) ≡ passes m
  unfolding passes
  passes_yes l = rw (eq-eqb (length m) account_size l)

  pub passes_no : (length m ≡ account_size → ⊥) → false ≡ passes m
  unfolding passes
  passes_no f = rw (ne_eqb (length m) account_size f)

  pub passed_size : passes m ≡ true → length m ≡ account_size
  unfolding passes
  passed_size e = eqb-true (length m) account_size (and_parts (eqb (length m) account_size) (state_ok (state_on m)) e).0

  pub passed_fit : passes m ≡ true → Fit m
  unfolding passes
  passed_fit e = record { words_are = passed_size e; fit = state_fit (state_on m) (and_parts (eqb (length m) account_size) (state_ok (state_on m)) e).1 }

-- ---- what is read for an event is what its kind looks at
pub seen_is : (s : State) (e : Event) → view_from (service_by s.collection.service) (debts_for s e) (money_for s e) ≡ seen_of (view s e) e
unfolding view
seen_is s e = on (looks_at_debt e) (λ q. rw q) (λ q. rw q)

-- ---- the rows of the day and the fields, and those after them
-- the whole number, where rows 1 to 3 refuse, and where they do not
rows_first : (last t n : ℕ) (b : Bool) → (day_rows last t (cond (not b) 3 0) ≡ 0 → ⊥) → day_rows last t (cond (not b) 3 n) ≡ day_rows last t (cond (not b) 3 0)
rows_first last t n b h =
    on (ltb final_day t) (λ q. rw q)
    (λ q. on (ltb t last) (λ r. rw (q, r))
    (λ r. on b (λ w. absurd (h (rw (q, r, w)))) (λ w. rw (q, r, w))))

rows_rest : (last t n : ℕ) (b : Bool) → day_rows last t (cond (not b) 3 0) ≡ 0 → day_rows last t (cond (not b) 3 n) ≡ n
rows_rest last t n b h =
    on (ltb final_day t) (λ q. absurd (omega (arith, rw q at h)))
    (λ q. on (ltb t last) (λ r. absurd (omega (arith, rw (q, r) at h)))
    (λ r. on b (λ w. rw (q, r, w)) (λ w. absurd (omega (arith, rw (q, r, w) at h)))))

-- what a row that lets pass answers
abbrev done : Unit {0}
done = tt

module _ (s : State) (e : Event) where
  abbrev first : ℕ
  first = day_rows s.last e.day (cond (not (in_range e)) 3 0)

  -- rows 1 to 3 refuse: so is the event
  pub refused_first : {A : Type 0} (r : Refusal) (y : A) → Err r ≡ answered first done → Err r ≡ answered (refusal_at s e) y
  unfolding refusal_at
  refused_first r y h =
      let g = answered_err first r done y h in
      rw (rows_first s.last e.day (refusal_by (view s e) e) (in_range e) (eqb-false first 0 g.0)) g.1

  -- they do not: the rows after them refuse, or do not either
  pub refusal_rest : first ≡ 0 → refusal_by (view s e) e ≡ refusal_at s e
  unfolding refusal_at
  refusal_rest h = sym (rows_rest s.last e.day (refusal_by (view s e) e) (in_range e) h)

  pub refused_rest : {A B : Type 0} (r : Refusal) (x : A) (y : B) → first ≡ 0 → Err r ≡ answered (refusal_by (view s e) e) x → Err r ≡ answered (refusal_at s e) y
  refused_rest r x y h q = rw (← refusal_rest h) (answered_err (refusal_by (view s e) e) r x y q).1

  pub passed_rest : {A : Type 0} (x y : A) → first ≡ 0 → Ok x ≡ answered (refusal_by (view s e) e) y → refusal_at s e ≡ 0
  passed_rest x y h q = sym (refusal_rest h) ∙ (answered_ok (refusal_by (view s e) e) x y q).0

-- ---- what is known of an event that no row refuses
pub free_of : {A : Type 0} (m : List ℕ) (e : Event) (x y : A) → Fit m → Ok x ≡ answered (refusal_by (view (state_on m) e) e) y → Free m e
free_of m e x y f q = record { fit = f; free = (answered_ok (refusal_by (view (state_on m) e) e) x y q).0 }

pub passing_of : (m : List ℕ) (e : Event) → Fit m → refusal_by (view (state_on m) e) e ≡ 0
    → Passing m e (offer_of (state_on m) e).view (offer_of (state_on m) e).item
passing_of m e f z = record { fit = f; looked = refl; free = refusal_seen (view (state_on m) e) e ∙ z; charged = refl }

-- ---- the exits of a judging
module _ (m : List ℕ) (e : Event) where
  pub judges_refused : {A : Type 0} (r : Refusal) (y : A) → Err r ≡ answered (refusal_at (state_on m) e) y → Judges m e (Err r) m
  unfolding answer_at state_after
  judges_refused r y h =
      let g = answered_err (refusal_at (state_on m) e) r y (receipt_at (state_on m) e) h in
      record { answer_is = g.1; state_is = rw g.0 }

  -- by rows 1 to 3, and by those after them
  pub judges_first : (r : Refusal) → Err r ≡ answered (first (state_on m) e) done → Judges m e (Err r) m
  judges_first r h = judges_refused r (receipt_at (state_on m) e) (refused_first (state_on m) e r (receipt_at (state_on m) e) h)

  pub judges_rest : {A : Type 0} (r : Refusal) (x : A) → first (state_on m) e ≡ 0 → Err r ≡ answered (refusal_by (view (state_on m) e) e) x → Judges m e (Err r) m
  judges_rest r x h q = judges_refused r (receipt_at (state_on m) e) (refused_rest (state_on m) e r x (receipt_at (state_on m) e) h q)

  pub judges_accepted : (r : ℕ) (k : List ℕ) → refusal_at (state_on m) e ≡ 0 → Applied m e (view (state_on m) e) k r → Judges m e (Ok r) k
  unfolding answer_at state_after
  judges_accepted r k z a =
      let y : eqb (refusal_at (state_on m) e) 0 ≡ true = eq-eqb (refusal_at (state_on m) e) 0 z in
      record { answer_is = rw (y, a.receipt_is); state_is = a.became.state_is ∙ rw y }

-- ---- the answer in any memory
pub answers_passed : (m : List ℕ) (e : Event) → passes m ≡ true → answer_at (state_on m) e ≡ answer_to m e
unfolding answer_to
answers_passed m e q = rw q

pub answers_failed : (m : List ℕ) (e : Event) → passes m ≡ false → Err NoAccount ≡ answer_to m e
unfolding answer_to
answers_failed m e q = rw q

-- ---- the exits of a posting in any memory
pub leaves_judged : (m : List ℕ) (e : Event) (r : Answer) (k : List ℕ) → passes m ≡ true → length k ≡ length m → Judges m e r k → Leaves m e r k
unfolding words_after
leaves_judged m e r k q l j =
    record {
      answer_is = j.answer_is ∙ answers_passed m e q;
      words_are = sym (account_whole k (l ∙ passed_size m q)) ∙ (ap words_of j.state_is ∙ rw q);
    }

pub leaves_failed : (m : List ℕ) (e : Event) → passes m ≡ false → Leaves m e (Err NoAccount) m
unfolding words_after
leaves_failed m e q = record { answer_is = answers_failed m e q; words_are = rw q }
