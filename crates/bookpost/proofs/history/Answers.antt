use Rattle.std.proofs.Common.{◌∙◌, length}
use Rattle.rules.proofs.Numbered.{answered_ok, handed_on}
use Rattle.bookformat.proofs.Told.{book_first}
use Rattle.bookpost.proofs.Noting.{history_told, history_none}
use Rattle.bookpost.specs.BookHistory.{history_refusal}
use Rattle.bookpost.proofs.history.Goals as goal

pub returns-in_err-book-clause-told_history : goal.returns-in_err-book-clause-told_history
returns-in_err-book-clause-told_history c =
    let left = handed_on _ c.from_residual.ensures.1 in
    rw left (history_none _ _ _ _ _ (book_first _ _ _ c.in_err-book.ensures))

pub returns-in_err-book-clause-outcome : goal.returns-in_err-book-clause-outcome
returns-in_err-book-clause-outcome c = handed_on _ c.from_residual.ensures.1 ∙ book_first _ _ _ c.in_err-book.ensures

pub returns-clause-told_history : goal.returns-clause-told_history
returns-clause-told_history c =
    let a = c.args in
    let b = c.in_ok-book.book.bytes.now in
    let e = (answered_ok (history_refusal b a.i (length a.numbers.now) (length a.owed.now)) _ _ c.in_ok-check_history.ensures).0 in
    rw (← c.in_ok-book.ensures) (history_told b a.i a.numbers.now a.owed.now e _ _ c.note_account.ensures.numbers_after c.note_account.ensures.owed_after)
