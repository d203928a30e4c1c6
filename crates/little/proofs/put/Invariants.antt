use Prim.Native.Nat.{◌-◌}
use mathlib.Core.Path.{◌≡◌}
use mathlib.Core.List.{◌++◌}
use lib.ListN.{take}
use Rattle.little.specs.Little.{le}
use Rattle.little.proofs.put.Given as goal

abbrev pub invariant-loop-byte : goal.invariant-loop-byte
invariant-loop-byte l = take l.byte-index l.byte-items ++ le (l.w - l.byte-index) l.rest ≡ le l.w l.v
