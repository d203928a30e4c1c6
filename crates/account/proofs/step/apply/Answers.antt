use Rattle.std.proofs.Common.{◌≡◌, cond, sym, ap, ◌∙◌}
use Rattle.receipts.specs.Receipts.{count_by}
use Rattle.rules.specs.Kinds.{payment}
use Rattle.rules.specs.History.{is}
use Rattle.account.proofs.Steps.{steps_are, receipt_by}
use Rattle.account.proofs.step.apply.Goals as goal

pub returns-then-is : goal.returns-then-is
returns-then-is c =
    let a = c.args in
    let b = steps_are a.m.now c.move_money.new.m c.keep_file.new.m c.set_service.new.m a.posted.event a.offer.view c.move_money.ensures
    c.keep_file.ensures c.set_service.ensures in
    let q = sym c.is.ensures ∙ c.if-is.true in
    let r = receipt_by a.m.now c.set_service.new.m a.posted.event a.offer.view c.count-n.result c.requires.fit.words_are a.posted.well_formed b
    (c.count-n.ensures ∙ ap (λ s. count_by s a.posted.event.option) c.receipts_in.ensures) in
    let y : cond (is payment a.posted.event) c.count-n.result 0 ≡ c.count-n.result = rw q in
    record { became = b; receipt_is = sym y ∙ r }

pub returns-else-is : goal.returns-else-is
returns-else-is c =
    let a = c.args in
    let b = steps_are a.m.now c.move_money.new.m c.keep_file.new.m c.set_service.new.m a.posted.event a.offer.view c.move_money.ensures
    c.keep_file.ensures c.set_service.ensures in
    let q = sym c.is.ensures ∙ c.if-is.false in
    record { became = b; receipt_is = rw q }
