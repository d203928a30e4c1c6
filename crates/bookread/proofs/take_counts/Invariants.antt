use Prim.Native.Nat.{◌-◌}
use mathlib.Core.Path.{◌≡◌}
use mathlib.Core.List.{◌++◌}
use lib.ListN.{drop}
use lib.Seq.{sets}
use Rattle.bookformat.specs.Book.{accounts, base, counts_at}
use Rattle.bookread.proofs.take_counts.Given as goal

abbrev pub invariant-loop-i : goal.invariant-loop-i
invariant-loop-i l =
    let b = l.fn.book.bytes.now in
    let n = accounts b in
    sets (l.count-items ++ drop n l.fn.counts) l.i (counts_at (n - l.i) (base l.i) b) ≡ sets l.fn.counts 0 (counts_at n 8 b)
