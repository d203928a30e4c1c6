-- The law of the late charge.
use Prim.Native.Nat.{ℕ, ◌*◌, ◌/◌}
use mathlib.Core.Path.{◌≡◌}
use native.Mathlib.Omega.{arith}
use Rattle.rules.specs.Money.{late_charge}

-- every account shows the cents that it showed when the late charge was 3 × owed, div 400
pub same_cents : (owed : ℕ) → late_charge owed ≡ 3 * owed / 400
same_cents owed = omega arith
