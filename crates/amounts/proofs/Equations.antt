-- What is charged by an event of a kind that makes no item: nothing; and by any, as a number.
use Rattle.std.proofs.Common.{◌≡◌, min, inl, inr, ◌⊎◌}
use borrow.Author.Tests.{ne_eqb}
use Rattle.basics.specs.Machine.{largest}
use Rattle.rules.specs.declared.Event.{Event}
use Rattle.rules.specs.declared.View.{View}
use Rattle.rules.specs.Kinds.{bill, returned_payment, fee, final_notice, reconnection}
use Rattle.rules.specs.Table.{charge_of}
use Rattle.std.specs.Prelude.{unwrap_or}
use Rattle.std.specs.Bool.{then_some}
use Rattle.basics.proofs.Cases.{on}
use Rattle.rules.specs.Money.{charges}
use Rattle.rules.proofs.Sums.{no_charge}

pub charge_none : (v : View) (e : Event) → (e.kind ≡ bill → ⊥) → (e.kind ≡ returned_payment → ⊥)
    → ((e.kind ≡ fee) ⊎ ((e.kind ≡ final_notice) ⊎ (e.kind ≡ reconnection)) → ⊥)
    → 0 ≡ min (charge_of v e) largest
charge_none v e b r f =
    rw (
      ne_eqb e.kind bill b,
      ne_eqb e.kind returned_payment r,
      ne_eqb e.kind fee (λ z. f (inl z)),
      ne_eqb e.kind final_notice (λ z. f (inr (inl z))),
      ne_eqb e.kind reconnection (λ z. f (inr (inr z))),
    )

-- the amount of the item, 0 where there is none
pub item_amount : (v : View) (e : Event) → unwrap_or (then_some (charges e) (min (charge_of v e) largest)) 0 ≡ min (charge_of v e) largest
item_amount v e =
    on (charges e)
    (λ q. rw q)
    (λ q. let n = no_charge v.charged v.credits v.payment e q in rw (q, n))
