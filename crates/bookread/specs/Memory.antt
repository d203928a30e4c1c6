-- Lent memory: what it holds, and that it is the same before and after a call.
use Rattle.std.specs.Prelude.{◌≡◌}
use Rattle.bookformat.specs.Lent.{Columns}
use Rattle.bookread.specs.declared.LentMemory.{LentMemory}

-- what the five slices hold
abbrev pub columns_of : LentMemory → Columns
columns_of m =
    record { counts = m.counts.now; kinds = m.kinds.now; options = m.options.now; days = m.days.now; amounts = m.amounts.now }

-- each field still lends the slice that it lent before
pub record SameSlices (m n : LentMemory) : Type 0 where
  pub counts : n.counts.ghost_name ≡ m.counts.ghost_name
  pub kinds : n.kinds.ghost_name ≡ m.kinds.ghost_name
  pub options : n.options.ghost_name ≡ m.options.ghost_name
  pub days : n.days.ghost_name ≡ m.days.ghost_name
  pub amounts : n.amounts.ghost_name ≡ m.amounts.ghost_name
