use native.Mathlib.Omega.{arith}
use Rattle.report.proofs.Listing.{line_short}
use Rattle.report.proofs.account_length.Goals as goal

pub put_account-requires : goal.put_account-requires
put_account-requires c = omega (arith, line_short c.args.book.bytes.now c.args.i c.args.book.sound c.ranges.i.fits)

pub returns-clause-told : goal.returns-clause-told
returns-clause-told c = omega (arith, c.put_account.ensures.end)

pub returns-clause-short : goal.returns-clause-short
returns-clause-short c =
    omega (arith, c.put_account.ensures.end, line_short c.args.book.bytes.now c.args.i c.args.book.sound c.ranges.i.fits)
