use Prim.Native.Nat.{◌+◌}
use mathlib.Core.Path.{◌≡◌}
use lib.ListN.{drop}
use Rattle.rules.specs.Tariff.{lines_from, energy_of, energy_by}
use Rattle.tariff.proofs.Schedule.energy.Given as goal

-- the sum, with that of the lines that are left, is the whole
abbrev pub invariant-loop-i : goal.invariant-loop-i
invariant-loop-i l = l.sum + energy_of (drop l.i (lines_from 0 l.self.blocks l.usage)) ≡ energy_by l.self.blocks l.usage
