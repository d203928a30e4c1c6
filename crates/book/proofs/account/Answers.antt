use Prim.Native.Nat.{◌/◌}
use borrow.Author.Rules.{rules}
use Rattle.bookformat.proofs.Found.{account_told}
use Rattle.book.proofs.account.Goals as goal

pub returns-then-entries-i : goal.returns-then-entries-i
returns-then-entries-i c =
    let t = account_told c.args.b.now c.args.i c.default.result (search rules) in
    record { value = t.0; in_book = t.1 }

pub returns : goal.returns
returns c =
    let t = account_told c.args.b.now c.args.i (record { first = c.saturating_sub.result / 16; count = c.get-count.result }) (search rules) in
    record { value = t.0; in_book = t.1 }
