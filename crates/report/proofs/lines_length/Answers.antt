use Rattle.std.proofs.Common.{rules, arith}
use Rattle.std.specs.List.{range_with_len}
use Rattle.std.proofs.lemmas.Iterator.{YieldsList-from_range, YieldsList-from_map}
use Rattle.std.proofs.lemmas.Iterator.Consumers.{sum_by_from_yields_List, fits_by_from_yields_list}
use mathlib.Core.Path.{◌≡◌}
use lib.ListN.{length}
use Rattle.bookformat.specs.Book.{accounts, decode}
use Rattle.report.specs.Report.{lines_of}
use Rattle.report.proofs.Listing.{line_size, all_sizes, lines_short}
use Rattle.report.proofs.lines_length.Goals as goal

pub sum-requires-clause-fits : goal.sum-requires-clause-fits
sum-requires-clause-fits c =
    let b = c.args.book.bytes.now in
    let n = accounts b in
    fits_by_from_yields_list (line_size b) (range_with_len 0 n) c.map.result 18446744073709551616
    (YieldsList-from_map _ (line_size b) (YieldsList-from_range 0 n n (cc) (omega arith)) c.map.ensures.closure (λ x r q k. search rules))
    (omega (arith, all_sizes b, lines_short b c.args.book.sound, c.accounts.ensures))

pub returns : goal.returns
returns c =
    let b = c.args.book.bytes.now in
    let n = accounts b in
    let e = sum_by_from_yields_List (line_size b) (range_with_len 0 n) c.map.result c.sum.result c.sum.ensures.ran
    (YieldsList-from_map _ (line_size b) (YieldsList-from_range 0 n n (cc) (omega arith)) c.map.ensures.closure (λ x r q k. search rules)) in
    let t : c.sum.result ≡ length (lines_of 0 (decode b)) = omega (arith, e, all_sizes b) in
    record { told = t; short = omega (arith, lines_short b c.args.book.sound) }
