use native.Mathlib.Omega.{arith}
use Rattle.bookformat.specs.Book.{decode}
use Rattle.text.proofs.Numerals.{put_then, room_then}
use Rattle.report.specs.Report.{heading, lines_of, listing}
use Rattle.report.proofs.Listing.{header_room}
use Rattle.report.proofs.put_listing.Goals as goal

pub put_bytes-p-requires : goal.put_bytes-p-requires
put_bytes-p-requires c =
    header_room c.args.book.bytes.now c.args.out.now c.requires

pub put_lines-requires : goal.put_lines-requires
unfolding listing
put_lines-requires c =
    let a = c.put_bytes-p in
    room_then heading (lines_of 0 (decode c.args.book.bytes.now)) c.args.out.now a.new.out 0 a.result (omega arith) a.ensures

pub returns : goal.returns
unfolding listing
returns c =
    let a = c.put_bytes-p in
    put_then heading (lines_of 0 (decode c.args.book.bytes.now)) c.args.out.now a.new.out _ 0 a.result _ a.ensures
    c.put_lines.ensures
