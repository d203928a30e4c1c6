-- What the slices of a list hold.
use Rattle.bookformat.specs.Lent.{Columns}
use Rattle.bookwrite.specs.declared.LentList.{LentList}

abbrev pub columns_of : LentList → Columns
columns_of l =
    record { counts = l.counts.now; kinds = l.kinds.now; options = l.options.now; days = l.days.now; amounts = l.amounts.now }
