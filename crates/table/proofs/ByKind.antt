-- The rows from 5 on, kind by kind; none concerns a kind that is not known.
use Rattle.std.proofs.Common.{ℕ, ◌≤◌, ◌≡◌, ◌-◌, true, false, cond, eqb, ltb, arith}
use lib.Dec.{leb}
use Rattle.std.proofs.Common.{min, inl, inr, ◌⊎◌}
use mathlib.Core.Bool.{or-false, not, ◌||◌}
use native.Mathlib.Nat.{zero-add, add-zero}
use borrow.Author.Tests.{ne_eqb, le-leb}
use Rattle.rules.specs.declared.Event.{Event}
use Rattle.rules.specs.declared.View.{View}
use Rattle.rules.specs.Kinds.{
  is_kind,
  bill,
  payment,
  returned_payment,
  fee,
  deposit_asked,
  deposit_paid,
  deposit_moved,
  payout,
  arrangement,
  final_notice,
  call,
  disconnection,
  reconnection,
  closing,
}
use Rattle.rules.specs.Service.{is_on}
use Rattle.rules.specs.Table.{charge_of}
use Rattle.basics.specs.Machine.{largest}
use Rattle.table.specs.ByKind.{from_row5, item_rows, credit_rows, returned_rows, moved_rows, notice_rows, cut_rows, reconnection_rows}
use Rattle.table.proofs.Equations.{passing}

-- it is none of the sixteen
other : (n k : ℕ) → is_kind n ≡ false → bill ≤ k → k ≤ closing → eqb n k ≡ false
other n k f l u = ne_eqb n k (λ z. let t : is_kind n ≡ true = rw (z, le-leb bill k l, le-leb k closing u) in cc)

pub of_unknown : (v : View) (e : Event) → is_kind e.kind ≡ false → from_row5 v e ≡ 0
unfolding from_row5
of_unknown v e f =
    let is_not = λ (k : ℕ) (l : bill ≤ k) (u : k ≤ closing). other e.kind k f l u in
    rw (
      is_not bill (omega arith) (omega arith),
      is_not payment (omega arith) (omega arith),
      is_not returned_payment (omega arith) (omega arith),
      is_not fee (omega arith) (omega arith),
      is_not deposit_asked (omega arith) (omega arith),
      is_not deposit_paid (omega arith) (omega arith),
      is_not deposit_moved (omega arith) (omega arith),
      is_not payout (omega arith) (omega arith),
      is_not arrangement (omega arith) (omega arith),
      is_not final_notice (omega arith) (omega arith),
      is_not call (omega arith) (omega arith),
      is_not disconnection (omega arith) (omega arith),
      is_not reconnection (omega arith) (omega arith),
      is_not closing (omega arith) (omega arith),
    )

-- for the reader: no row from 5 on concerns a certificate or an approval either
module _ (v : View) (e : Event) where
  abbrev Not : ℕ → Type 0
  Not k = e.kind ≡ k → ⊥

  pub of_none : ((e.kind ≡ bill) ⊎ (e.kind ≡ fee) → ⊥)
      → Not payment
      → Not returned_payment
      → Not deposit_asked
      → Not deposit_paid
      → Not deposit_moved
      → Not payout
      → Not arrangement
      → Not final_notice
      → Not call
      → Not disconnection
      → Not reconnection
      → Not closing
      → 0 ≡ from_row5 v e
  unfolding from_row5
  of_none n1 n2 n3 n5 n6 n7 n8 n11 n12 n13 n14 n15 n16 =
      rw (
        ne_eqb _ _ (λ z. n1 (inl z)),
        ne_eqb _ _ (λ z. n1 (inr z)),
        ne_eqb _ _ n2,
        ne_eqb _ _ n3,
        ne_eqb _ _ n5,
        ne_eqb _ _ n6,
        ne_eqb _ _ n7,
        ne_eqb _ _ n8,
        ne_eqb _ _ n11,
        ne_eqb _ _ n12,
        ne_eqb _ _ n13,
        ne_eqb _ _ n14,
        ne_eqb _ _ n15,
        ne_eqb _ _ n16,
      )

pub of_item : (v : View) (e : Event) (charge : ℕ) → charge ≡ min (charge_of v e) largest → (e.kind ≡ bill) ⊎ (e.kind ≡ fee)
    → item_rows v.open_count v.charged charge ≡ from_row5 v e
unfolding from_row5
of_item v e charge w (inl z) = rw (w, passing v.charged (charge_of v e)) (simp (z, or-false))
of_item v e charge w (inr z) = rw (w, passing v.charged (charge_of v e)) (simp (z, or-false))

-- ---- for the reader: the rows of each other kind, which the check of the code finds without them
pub of_payment : (v : View) (e : Event) → e.kind ≡ payment → credit_rows v.credited e.amount ≡ from_row5 v e
unfolding from_row5
of_payment v e z = simp (z, add-zero)

pub of_asked : (v : View) (e : Event) → e.kind ≡ deposit_asked → cond (leb e.amount v.held) 7 0 ≡ from_row5 v e
unfolding from_row5
of_asked v e z = simp (z, or-false)

pub of_paid : (v : View) (e : Event) → e.kind ≡ deposit_paid → cond (ltb (v.required - v.held) e.amount) 7 0 ≡ from_row5 v e
unfolding from_row5
of_paid v e z = simp (z, or-false)

pub of_moved : (v : View) (e : Event) → e.kind ≡ deposit_moved → moved_rows v ≡ from_row5 v e
unfolding from_row5
of_moved v e z = simp (z, zero-add)

pub of_payout : (v : View) (e : Event) → e.kind ≡ payout → cond (ltb (v.credits - v.charged) e.amount) 7 0 ≡ from_row5 v e
unfolding from_row5
of_payout v e z = simp (z, or-false)

pub of_arrangement : (v : View) (e : Event) → e.kind ≡ arrangement → cond (eqb v.arrears 0 || v.in_force) 9 0 ≡ from_row5 v e
unfolding from_row5
of_arrangement v e z = rw z

pub of_call : (v : View) (e : Event) → e.kind ≡ call → cond (not (is_on v.service)) 5 0 ≡ from_row5 v e
unfolding from_row5
of_call v e z = simp (z, or-false)

pub of_closing : (v : View) (e : Event) → e.kind ≡ closing → credit_rows v.credited v.held ≡ from_row5 v e
unfolding from_row5
of_closing v e z = simp (z, zero-add)

pub of_returned : (v : View) (e : Event) (charge : ℕ) → charge ≡ min (charge_of v e) largest → e.kind ≡ returned_payment
    → returned_rows v charge ≡ from_row5 v e
unfolding from_row5
of_returned v e charge w z = rw (w, passing v.charged (charge_of v e)) (simp (z, or-false))

pub of_notice : (v : View) (e : Event) (charge : ℕ) → charge ≡ min (charge_of v e) largest → e.kind ≡ final_notice
    → notice_rows v charge ≡ from_row5 v e
unfolding from_row5
of_notice v e charge w z = rw (w, passing v.charged (charge_of v e)) (simp (z, or-false))

pub of_disconnection : (v : View) (e : Event) → e.kind ≡ disconnection → cut_rows v ≡ from_row5 v e
unfolding from_row5
of_disconnection v e z = simp (z, or-false)

pub of_reconnection : (v : View) (e : Event) (charge : ℕ) → charge ≡ min (charge_of v e) largest → e.kind ≡ reconnection
    → reconnection_rows v charge ≡ from_row5 v e
unfolding from_row5
of_reconnection v e charge w z = rw (w, passing v.charged (charge_of v e)) (simp (z, or-false))
