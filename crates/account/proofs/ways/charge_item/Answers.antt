use Rattle.account.proofs.OwnWays.{item_ledger, item_applied}
use borrow.Author.Rules.{rules}
use Rattle.account.proofs.ways.charge_item.Goals as goal

pub step-requires-clause-ledger_room : goal.step-requires-clause-ledger_room
step-requires-clause-ledger_room c =
    let a = c.args in
    item_ledger a.m.now a.e c.requires.0 c.requires.1 a.charge c.requires.2

pub returns : goal.returns
returns c =
    let a = c.args in
    item_applied a.m.now a.e c.requires.0 c.requires.1 a.charge c.requires.2 c.step.new.w c.set_service.new.m (search rules)
    c.step.ensures c.set_service.ensures
