use Prim.Native.Nat.{◌-◌}
use mathlib.Core.Path.{◌≡◌}
use lib.ListN.{drop}
use Rattle.ledger.specs.Ring.{closed_from, below_from}
use Rattle.ledger.proofs.first_open.Given as goal

abbrev pub invariant-loop-k : goal.invariant-loop-k
invariant-loop-k l =
    record {
      at_k : l.mark.closed ≡ l.k;
      closed_is : closed_from (l.made - l.k) l.k l.p (drop 6 l.w) ≡ closed_from (l.made - l.initial.k) l.initial.k l.p (drop 6 l.w);
      below_is : below_from (l.made - l.k) l.k l.mark.below l.p (drop 6 l.w) ≡ below_from (l.made - l.initial.k) l.initial.k l.initial.mark.below l.p (drop 6 l.w);
    }
