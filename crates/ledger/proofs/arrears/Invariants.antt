use Prim.Native.Nat.{◌+◌, ◌-◌, ◌≤◌, min}
use mathlib.Core.Path.{◌≡◌}
use lib.ListN.{drop}
use Rattle.basics.specs.Machine.{largest}
use Rattle.rules.specs.Money.{sum_of, due}
use Rattle.ledger.specs.Ring.{items_from}
use Rattle.ledger.specs.Ledger.{ledger_on, arrears_by}
use Rattle.ledger.proofs.arrears.Given as goal

-- the sum, with that of the items that are left, is the whole
abbrev pub invariant-loop-k : goal.invariant-loop-k
invariant-loop-k l =
    record {
      in_range : l.sum ≤ largest;
      whole : min (l.sum + sum_of (due l.p l.t) (items_from (l.made - l.k) l.k l.below (drop 6 l.w))) largest ≡ arrears_by (ledger_on l.w) l.t;
    }
