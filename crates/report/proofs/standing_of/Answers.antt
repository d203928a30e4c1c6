use Rattle.bookformat.specs.Finding.{book_account}
use Rattle.report.proofs.Lines.{standing_is}
use Rattle.report.proofs.standing_of.Goals as goal

pub returns : goal.returns
returns c =
    rw c.standing_in.ensures (standing_is _ c.run_account-refused.result (book_account c.args.book.bytes.now c.args.i) c.run_account-refused.ensures)
