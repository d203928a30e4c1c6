use Rattle.account.proofs.Steps.{receipts_still, arrangement_still}
use Rattle.account.proofs.OwnWays.{payment_ledger, payment_by_lem}
use borrow.Author.Rules.{rules}
use Rattle.account.proofs.ways.take_payment.Goals as goal

pub step-requires-clause-ledger_room : goal.step-requires-clause-ledger_room
step-requires-clause-ledger_room c = payment_ledger c.args.m.now c.args.posted.event c.requires.0 c.requires.1

pub step-requires-2-clause-fit : goal.step-requires-2-clause-fit
step-requires-2-clause-fit c =
    let a = c.args in
    let f = c.requires.0.fit in
    rw (receipts_still a.m.now f.words_are a.posted.event c.step.new.w (search rules)) f.fit.receipts_fit

pub step-requires-3-clause-fit : goal.step-requires-3-clause-fit
step-requires-3-clause-fit c =
    let a = c.args in
    let f = c.requires.0.fit in
    rw (arrangement_still a.m.now f.words_are a.posted.event c.step.new.w (search rules) c.step-2.new.w (search rules)) f.fit.arrangement_fit

pub returns : goal.returns
returns c =
    let a = c.args in
    payment_by_lem a.m.now c.requires.0.fit.words_are a.posted.event c.requires.1 c.step.new.w (search rules) c.step-2.new.w (search rules)
    c.step-3.new.w (search rules)
    c.step.ensures
    c.step-2.ensures
    c.step-3.ensures
