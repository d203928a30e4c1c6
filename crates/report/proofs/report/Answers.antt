use Rattle.std.proofs.Common.{sym}
use borrow.Author.Tests.{ltb-false}
use Rattle.report.proofs.Listing.{written, text_refused}
use Rattle.report.proofs.report.Goals as goal

pub returns-in-Err : goal.returns-in-Err
returns-in-Err c = rw (text_refused c.args.b.now _ c.in-Err.ensures) c.put_refusal.ensures

pub returns : goal.returns
returns c =
    let book = c.in-Ok.book in
    rw (← c.in-Ok.ensures, book.sound) (written _ c.args.out.now _ _ (ltb-false _ _ (sym c.if-is_short.ensures)) c.put_listing.ensures)
