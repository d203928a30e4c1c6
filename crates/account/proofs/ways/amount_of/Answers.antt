use Rattle.std.proofs.Common.{sym, ap, ◌∙◌}
use borrow.Author.Tests.{eqb-true}
use Rattle.rules.specs.Kinds.{bill}
use Rattle.ledger.specs.Ledger.{sums_of}
use Rattle.account.specs.State.{state_on}
use Rattle.account.proofs.OwnWays.{bill_amount}
use Rattle.account.proofs.ways.amount_of.Goals as goal

pub returns-then-is : goal.returns-then-is
returns-then-is c =
    let e = c.args.e in
    let sums = c.sums_of-s.ensures ∙ ap sums_of c.ledger.ensures in
    rw (c.saturating_add.ensures, c.late_charge-late.ensures, c.saturating_sub.ensures, sums)
    (bill_amount (state_on c.args.account.words.now) e (eqb-true e.kind bill (sym c.is.ensures ∙ c.if-is.true)))
