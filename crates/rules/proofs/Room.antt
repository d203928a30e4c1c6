-- What the table leaves room for: an event that it lets pass keeps the sums within the limit.
use Prim.Native.Nat.{◌+◌, ◌-◌, ◌≤◌, zero-le}
use mathlib.Core.Path.{◌≡◌}
use mathlib.Core.Bool.{false, cond, ◌&&◌, ◌||◌, or-false}
use native.Mathlib.Omega.{arith}
use lib.Dec.{ltb}
use borrow.Author.Tests.{ltb-false}
use Rattle.std.proofs.lemmas.Bool.{or_parts}
use Rattle.basics.proofs.Cases.{on, on_eq}
use Rattle.rules.specs.declared.Event.{Event}
use Rattle.rules.specs.declared.View.{View}
use Rattle.rules.specs.Kinds.{payment, returned_payment, payout}
use Rattle.rules.specs.History.{is, amount_if}
use Rattle.rules.specs.Deposit.{moves}
use Rattle.rules.specs.Money.{charges}
use Rattle.rules.specs.Limits.{limit}
use Rattle.rules.specs.Table.{charge_of, credit_of, row7}
use Rattle.rules.proofs.Sums.{no_charge, no_credit}
use Rattle.rules.proofs.Passed.{Allowed}

pub record Room (v : View) (e : Event) : Type 0 where
  pub charged_room : v.charged + charge_of v e ≤ limit
  pub credited_room : v.credited + credit_of v e ≤ limit
  pub payout_room : amount_if payout e ≤ v.credits - v.charged
  pub payment_room : cond (is returned_payment e) v.payment 0 ≤ limit

-- a payout is at most P − C
pub payout_in : (v : View) (e : Event) → row7 v e ≡ false → amount_if payout e ≤ v.credits - v.charged
payout_in v e r =
    on_eq e.kind payout
    (λ q z. rw q (ltb-false (v.credits - v.charged) e.amount (simp (z, or-false) at r)))
    (λ q z. rw q zero-le)

pub room : (v : View) (e : Event) → Allowed v e → v.charged ≤ limit → v.credited ≤ limit → Room v e
room v e a c d =
    let owing = charges e && ltb limit (v.charged + charge_of v e) in
    let crediting = (is payment e || moves e) && ltb limit (v.credited + credit_of v e) in
    let r : v.charged + charge_of v e ≤ limit =
    on (charges e)
    (λ q. ltb-false limit (v.charged + charge_of v e) (rw q at (or_parts owing crediting a.r19).0))
    (λ q. let n = no_charge v.charged v.credits v.payment e q in omega arith) in
    record {
      charged_room = r;
      credited_room =
          on (is payment e || moves e)
          (λ q. ltb-false limit (v.credited + credit_of v e) (rw q at (or_parts owing crediting a.r19).1))
          (λ q. let n = no_credit v.held e q in omega arith);
      payout_room = payout_in v e a.r7;
      payment_room = omega arith;
    }
