use mathlib.Core.Path.{ap}
use native.Mathlib.Omega.{arith}
use lib.ListN.{length}
use Rattle.bookformat.specs.Finding.{book_account}
use Rattle.report.proofs.Lines.{line_is}
use Rattle.report.proofs.put_account.Goals as goal

pub put_line-requires : goal.put_line-requires
put_line-requires c =
    let s = c.args in
    let t = c.standing_of-s in
    omega (arith, ap length (line_is s.i t.result (book_account s.book.bytes.now s.i) t.ensures))

pub returns : goal.returns
returns c =
    let s = c.args in
    let t = c.standing_of-s in
    rw (← line_is s.i t.result (book_account s.book.bytes.now s.i) t.ensures) c.put_line.ensures
