-- An event that is none of the deposit's leaves the part as it is.
use Prim.Native.Nat.{◌+◌}
use mathlib.Core.Path.{◌≡◌}
use mathlib.Core.Bool.{false}
use native.Mathlib.Omega.{arith}
use Rattle.rules.specs.declared.Event.{Event}
use Rattle.rules.specs.Kinds.{deposit_asked, deposit_paid, deposit_moved, final_notice, disconnection, closing}
use Rattle.rules.specs.History.{is}
use Rattle.deposit.specs.declared.Deposit.{Deposit}
use Rattle.deposit.specs.Deposit.{deposit_after, concerns}

-- of each kind, by what the test says of it
record Other (e : Event) : Type 0 where
  asked : is deposit_asked e ≡ false
  paid : is deposit_paid e ≡ false
  moved : is deposit_moved e ≡ false
  notice : is final_notice e ≡ false
  cut : is disconnection e ≡ false
  closed : is closing e ≡ false

other : (e : Event) → concerns e ≡ false → Other e
other e q =
    record {
      asked = grind arith;
      paid = grind arith;
      moved = grind arith;
      notice = grind arith;
      cut = grind arith;
      closed = grind arith;
    }

pub deposit_other : (d : Deposit) (e : Event) → concerns e ≡ false → deposit_after d e ≡ d
deposit_other d e q =
    let o = other e q in
    let z : d.held + 0 ≡ d.held = omega arith in
    rw (o.asked, o.paid, o.moved, o.notice, o.cut, o.closed, z)
