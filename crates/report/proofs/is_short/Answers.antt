use native.Mathlib.Omega.{arith}
use Rattle.report.proofs.Listing.{plenty, counted}
use Rattle.report.proofs.is_short.Goals as goal

pub returns-then-room-accounts : goal.returns-then-room-accounts
returns-then-room-accounts c = counted c.args.book.bytes.now c.args.room c.lines_length.result c.lines_length.ensures.told

pub returns-else-room-accounts : goal.returns-else-room-accounts
returns-else-room-accounts c =
    plenty c.args.book.bytes.now c.args.room c.accounts.result c.args.book.sound (omega arith) (omega arith)
