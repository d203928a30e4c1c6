use Prim.Native.Nat.{◌+◌, ◌*◌, ◌≤◌}
use mathlib.Core.Path.{◌≡◌}
use lib.ListN.{length, drop}
use lib.Seq.{sets}
use Rattle.bookformat.specs.Book.{base, account_table}
use Rattle.bookwrite.proofs.put_table.Given as goal

abbrev pub invariant-loop-i : goal.invariant-loop-i
invariant-loop-i l =
    (sets l.out (base l.i) (account_table l.first (drop l.i l.counts)) ≡ sets l.initial.out 8 (account_table (base (length l.counts)) l.counts))
    × (l.first ≤ base (length l.counts) + 68719476736 * l.i)
