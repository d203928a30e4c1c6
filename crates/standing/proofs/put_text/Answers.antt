use Rattle.std.proofs.Common.{arith}
use Rattle.standing.proofs.Room.{told_ok, holds}
use Rattle.standing.proofs.put_text.Goals as goal

pub unwrap-requires : goal.unwrap-requires
unwrap-requires c =
    let p = c.report_input in
    told_ok c.args.book.now c.args.out.now p.new.out p.result (omega arith) p.ensures

pub returns : goal.returns
returns c =
    let p = c.report_input in
    holds c.args.book.now c.args.out.now p.new.out p.result (omega arith) p.ensures c.unwrap.result c.unwrap.ensures
