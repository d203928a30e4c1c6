use Rattle.std.proofs.Common.{◌∙◌}
use Rattle.rules.proofs.Numbered.{handed_on}
use Rattle.bookformat.proofs.Told.{book_first}
use Rattle.bookformat.proofs.Stored.{gave_none}
use Rattle.bookread.proofs.read.Goals as goal

pub returns-in_err-book-clause-gave : goal.returns-in_err-book-clause-gave
returns-in_err-book-clause-gave c =
    let left = handed_on _ c.from_residual.ensures.1 in
    rw left (gave_none _ _ _ (book_first _ _ _ c.in_err-book.ensures))

pub returns-in_err-book-clause-outcome : goal.returns-in_err-book-clause-outcome
returns-in_err-book-clause-outcome c = handed_on _ c.from_residual.ensures.1 ∙ book_first _ _ _ c.in_err-book.ensures

pub returns-in_err-check_room-clause-gave : goal.returns-in_err-check_room-clause-gave
returns-in_err-check_room-clause-gave c =
    let left = handed_on _ c.from_residual-in_err-check_room.ensures.1 in
    rw left (gave_none _ _ _ (rw c.in_ok-book.ensures at c.in_err-check_room.ensures))
