use Prim.Native.Nat.{◌*◌, ◌-◌, ◌≤◌}
use mathlib.Core.Path.{◌≡◌}
use Rattle.bookformat.specs.Book.{table_fine, base}
use Rattle.book.proofs.table_fine.Given as goal

abbrev pub invariant-loop-i : goal.invariant-loop-i
invariant-loop-i l =
    (table_fine (base l.a) l.r (l.a - l.i) (base l.i) l.sum l.b ≡ table_fine (base l.a) l.r l.a 8 0 l.b) × (l.sum ≤ 4294967296 * l.i)
