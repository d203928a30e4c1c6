use mathlib.Core.Path.{ap, ◌∙◌}
use native.Mathlib.Omega.{arith}
use Rattle.receipts.specs.Receipts.{count_by}
use Rattle.account.specs.State.{state_on, view}
use Rattle.account.proofs.OwnWays.{way_is, payment_receipt}
use Rattle.account.proofs.ways.pay.Goals as goal

pub returns : goal.returns
returns c =
    let a = c.args in
    let v = view (state_on a.m.now) a.posted.event in
    let b = way_is a.m.now c.take_payment.new.m c.set_service.new.m a.posted.event v (omega (arith, c.requires.1)) c.take_payment.ensures
    c.set_service.ensures in
    record {
      became = b;
      receipt_is = payment_receipt a.m.now c.set_service.new.m a.posted.event v c.count.result c.requires.0.fit.words_are a.posted.well_formed
          c.requires.1 b (c.count.ensures ∙ ap (λ s. count_by s a.posted.event.option) c.receipts_in.ensures);
    }
