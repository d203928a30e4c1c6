-- Laws of the sums: how each grows with one more event, and how they add up.
use Prim.Native.Nat.{ℕ, ◌+◌}
use mathlib.Core.Path.{◌≡◌, refl}
use mathlib.Core.Bool.{Bool, false, cond, ◌||◌}
use mathlib.Core.List.{[], ◌∷◌}
use native.Mathlib.Omega.{arith}
use lib.ListN.{length}
use Rattle.std.proofs.lemmas.Bool.{or_parts}
use Rattle.basics.proofs.Cases.{on, on_eq}
use Rattle.rules.specs.declared.Event.{Event}
use Rattle.rules.specs.Kinds.{bill, payment, returned_payment, fee, deposit_paid, final_notice, reconnection}
use Rattle.rules.specs.History.{History, is, count, since, amount_if, total, newest}
use Rattle.rules.specs.Receipts.{is_at, payments, named_payment}
use Rattle.rules.specs.Deposit.{moves, held, moved}
use Rattle.rules.specs.Money.{credited, credits, credit_by, charges, charge_by, charge, charged, items, sum_of}
use Rattle.rules.specs.Sums.{late_charges, fees_charged, returned_payments}
use Rattle.rules.proofs.Items.{sum_append}

-- ---- sums by kind
-- what a sum by kind comes to: nothing before the first event, and what it was with the amount of an event of the kind
abbrev pub grown : ℕ → History → ℕ
grown k [] = 0
grown k (e ∷ h) = total k h + amount_if k e

-- The one fact that sums by kind share (document 01's last sentence), stated over the kind. Bills, payments, deposits paid and
-- payouts are each this sum, and no proof about one of them has anything else to go by.
pub total_grows : (k : ℕ) (h : History) → total k h ≡ grown k h
unfolding total
total_grows k [] = refl
total_grows k (e ∷ h) = refl

-- by it, the sum since the newest event that passes p: held, and what was paid since an arrangement
pub total_since : (k : ℕ) (p : Event → Bool) (e : Event) (h : History)
    → total k (since p (e ∷ h)) ≡ cond (p e) 0 (total k (since p h) + amount_if k e)
total_since k p e h = on (p e) (λ q. rw q (total_grows k [])) (λ q. rw q (total_grows k (e ∷ since p h)))

-- ---- one more event
pub newest_since : (k : ℕ) (p : Event → Bool) (e : Event) (h : History)
    → newest k (since p (e ∷ h)) ≡ cond (p e) 0 (cond (is k e) e.amount (newest k (since p h)))
newest_since k p e h = on (p e) (λ q. rw q) (λ q. rw q)

pub credited_step : (e : Event) (h : History) → credited (e ∷ h) ≡ credited h + credit_by (held h) e
credited_step e h = omega (arith, total_grows payment (e ∷ h))

-- ---- how they add up
-- C: bills, late charges, fees and returned payments
pub charged_parts : (h : History)
    → charged h ≡ total bill h + late_charges h + fees_charged h + returned_payments h
charged_parts [] = omega (arith, total_grows bill [])
charged_parts (e ∷ h) = omega (arith, charged_parts h, total_grows bill (e ∷ h))

-- the deposits paid are held or were moved
pub deposits : (h : History) → moved h + held h ≡ total deposit_paid h
deposits [] = omega arith
deposits (e ∷ h) =
    let ih = deposits h in
    rw (total_since deposit_paid moves e h, total_grows deposit_paid (e ∷ h))
    (on_eq e.kind deposit_paid
    (λ q z. simp z (omega arith))
    (λ q z. on (moves e) (λ m. simp (q, m) (omega arith)) (λ m. simp (q, m) (omega arith))))

-- a receipt counts the accepted payments of its till
pub receipts : (till : ℕ) (h : History) → length (payments till h) ≡ count (is_at till payment) h
receipts till [] = refl
receipts till (e ∷ h) = let ih = receipts till h in on (is_at till payment e) (λ q. rw q (omega arith)) (λ q. rw q (omega arith))

-- ---- items
-- an event that makes no item charges nothing
pub no_charge : (c p r : ℕ) (e : Event) → charges e ≡ false → charge_by c p r e ≡ 0
no_charge c p r e q =
    let b = is bill e in
    let m = b || is returned_payment e in
    let f = m || is fee e in
    let n = f || is final_notice e in
    let qn = (or_parts n (is reconnection e) q).0 in
    let qf = (or_parts f (is final_notice e) qn).0 in
    let qm = (or_parts m (is fee e) qf).0 in
    simp (
      (or_parts b (is returned_payment e) qm).0,
      (or_parts b (is returned_payment e) qm).1,
      (or_parts m (is fee e) qf).1,
      (or_parts f (is final_notice e) qn).1,
      (or_parts n (is reconnection e) q).1,
    )

-- an event that is no payment and moves no deposit credits nothing
pub no_credit : (held : ℕ) (e : Event) → (is payment e || moves e) ≡ false → credit_by held e ≡ 0
no_credit held e q = simp ((or_parts (is payment e) (moves e) q).0, (or_parts (is payment e) (moves e) q).1)

-- C is the sum of the items' amounts
pub charged_items : (h : History) → sum_of (λ x. x.amount) (items h) ≡ charged h
charged_items [] = refl
charged_items (e ∷ h) =
    let ih = charged_items h in
    on (charges e)
    (λ q. rw (q, sum_append) (omega arith))
    (λ q. let z : charge h e ≡ 0 = no_charge (charged h) (credits h) (named_payment h e) e q in rw q (omega arith))
