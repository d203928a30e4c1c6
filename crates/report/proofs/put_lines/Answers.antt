use native.Mathlib.Omega.{arith}
use borrow.Author.Rules.{rules}
use Rattle.report.proofs.Listing.{line_room, line_stored, all_stored}
use Rattle.report.proofs.put_lines.Goals as goal

pub put_account-at-requires : goal.put_account-at-requires
put_account-at-requires c =
    let l = c.loop-i in
    line_room _ _ l.out _ l.at l.i l.invariant (omega arith) (search rules)

pub loop-i-preserved : goal.loop-i-preserved
loop-i-preserved c =
    let l = c.loop-i in
    let q = c.put_account-at in
    line_stored _ _ l.out _ l.at l.i l.invariant q.new.out q.result (omega arith) q.ensures

pub returns : goal.returns
returns c =
    let l = c.loop-i in
    all_stored _ _ l.out _ l.at l.i l.invariant (omega arith)
