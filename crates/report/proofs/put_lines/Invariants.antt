use Rattle.report.proofs.Listing.{Writing}
use Rattle.report.proofs.put_lines.Given as goal

abbrev pub invariant-loop-i : goal.invariant-loop-i
invariant-loop-i l = Writing l.book.bytes.now l.initial.out l.out l.p l.at l.i
