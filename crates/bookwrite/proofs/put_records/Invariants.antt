use Prim.Native.Nat.{◌+◌, ◌*◌, ◌-◌}
use mathlib.Core.Path.{◌≡◌}
use lib.ListN.{length}
use lib.Seq.{sets}
use Rattle.bookformat.specs.Book.{body}
use Rattle.bookformat.specs.Lent.{lent}
use Rattle.bookwrite.specs.Lists.{columns_of}
use Rattle.bookwrite.proofs.put_records.Given as goal

abbrev pub invariant-loop-i : goal.invariant-loop-i
invariant-loop-i l =
    let s = l.list in
    let n = length s.kinds.now in
    sets l.out (l.p + 16 * l.i) (body (lent (n - l.i) l.i (columns_of s)))
    ≡ sets l.initial.out l.p (body (lent n 0 (columns_of s)))
