use Prim.Native.Nat.{◌*◌, ◌-◌, min}
use mathlib.Core.Path.{◌≡◌}
use Rattle.rules.specs.Workdays.{bit_in, how_many}
use Rattle.workdays.proofs.ones_from.Given as goal

-- what was counted are the days before word k
abbrev pub invariant-loop-k : goal.invariant-loop-k
invariant-loop-k l = l.count ≡ how_many (bit_in l.bits) l.lo (min l.hi (64 * l.k) - l.lo)
