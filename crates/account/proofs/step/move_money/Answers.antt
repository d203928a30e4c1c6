use mathlib.Core.Path.{◌∙◌}
use Rattle.ledger.proofs.ByKind.{item_room, item_after}
use Rattle.account.proofs.Steps.{passing_room, item_exact, money_room, receipts_still, arrangement_still, money_by}
use borrow.Author.Rules.{rules}
use Rattle.account.proofs.step.move_money.Goals as goal

pub step-requires-clause-ledger_room : goal.step-requires-clause-ledger_room
step-requires-clause-ledger_room c =
    let a = c.args in
    let e = a.posted.event in
    let p = c.requires in
    rw (c.credit-credit.ensures, item_exact a.m.now e a.offer.view a.offer.item p)
    (item_room _ e _ _ _ (money_room a.m.now e a.offer.view a.offer.item p))

pub step-requires-2-clause-fit : goal.step-requires-2-clause-fit
step-requires-2-clause-fit c =
    let a = c.args in
    rw (receipts_still a.m.now c.requires.fit.words_are a.posted.event c.step.new.w (search rules)) c.requires.fit.fit.receipts_fit

pub step-requires-3-clause-fit : goal.step-requires-3-clause-fit
step-requires-3-clause-fit c =
    let a = c.args in
    rw (arrangement_still a.m.now c.requires.fit.words_are a.posted.event c.step.new.w (search rules) c.step-2.new.w (search rules))
    c.requires.fit.fit.arrangement_fit

pub step-requires-3-clause-payment_bound : goal.step-requires-3-clause-payment_bound
step-requires-3-clause-payment_bound c =
    let a = c.args in
    (passing_room a.m.now a.posted.event a.offer.view a.offer.item c.requires).payment_room

pub returns : goal.returns
returns c =
    let a = c.args in
    let e = a.posted.event in
    money_by a.m.now c.requires.fit.words_are e c.step.new.w (search rules) c.step-2.new.w (search rules) c.step-3.new.w
    a.offer.view (search rules)
    (c.step.ensures
    ∙ rw (c.credit-credit.ensures, item_exact a.m.now e a.offer.view a.offer.item c.requires) (item_after _ e _ _ _))
    c.step-2.ensures
    c.step-3.ensures
