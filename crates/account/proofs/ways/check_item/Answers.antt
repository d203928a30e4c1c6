use Rattle.std.proofs.Common.{refl, ap, ◌∙◌}
use Rattle.rules.proofs.Numbered.{answered_ok, answered_err, handed_on, when_err, when_ok}
use Rattle.ledger.specs.Ledger.{sums_of}
use Rattle.account.specs.State.{state_on}
use Rattle.account.proofs.OwnWays.{item_row}
use Rattle.account.proofs.ways.check_item.Goals as goal

pub returns-in_err-when : goal.returns-in_err-when
returns-in_err-when c =
    let left = handed_on _ c.from_residual.ensures.1 in
    let a = c.args in
    let closed = when_err _ _ _ (rw (c.is_closed.ensures, c.service.ensures, c.collection.ensures) at c.in_err-when.ensures) in
    rw (left, ← item_row (state_on a.account.words.now) a.e _ c.requires refl, closed.0, closed.1) refl

pub returns-in_err-item_rows : goal.returns-in_err-item_rows
returns-in_err-item_rows c =
    let left = handed_on _ c.from_residual-in_err-item_rows.ensures.1 in
    let a = c.args in
    let served = when_ok _ _ _ (rw (c.is_closed.ensures, c.service.ensures, c.collection.ensures) at c.in_ok-when.ensures) in
    let sums = c.sums_of-s.ensures ∙ ap sums_of c.ledger.ensures in
    rw (left, ← item_row (state_on a.account.words.now) a.e _ c.requires c.amount_of-charge.ensures, served)
    (answered_err _ _ _ _ (rw sums at c.in_err-item_rows.ensures)).1

pub returns : goal.returns
returns c =
    let a = c.args in
    let served = when_ok _ _ _ (rw (c.is_closed.ensures, c.service.ensures, c.collection.ensures) at c.in_ok-when.ensures) in
    let sums = c.sums_of-s.ensures ∙ ap sums_of c.ledger.ensures in
    let rows = answered_ok _ _ _ (rw sums at c.in_ok-item_rows.ensures) in
    rw (← item_row (state_on a.account.words.now) a.e _ c.requires c.amount_of-charge.ensures, served, rows.0, c.amount_of-charge.ensures)
