use Rattle.rules.proofs.Numbered.{handed_on}
use Rattle.account.specs.State.{state_on}
use Rattle.account.proofs.Exits.{passed_rest, free_of, judges_first, judges_rest, judges_accepted}
use Rattle.account.proofs.ways.payment.Goals as goal

pub returns-in_err-posted : goal.returns-in_err-posted
returns-in_err-posted c =
    let left = handed_on _ c.from_residual.ensures.1 in
    rw left (judges_first c.args.m.now c.args.e _ (rw c.last.ensures at c.in_err-posted.ensures))

pub returns-in_err-check_credit : goal.returns-in_err-check_credit
returns-in_err-check_credit c =
    let left = handed_on _ c.from_residual-in_err-check_credit.ensures.1 in
    rw left (judges_rest c.args.m.now c.args.e _ _ (rw c.last.ensures at c.in_ok-posted.ensures.1) c.in_err-check_credit.ensures)

pub pay-requires : goal.pay-requires
pay-requires c =
    let a = c.args in
    rw c.in_ok-posted.ensures.0 (free_of a.m.now a.e _ _ c.requires.0 c.in_ok-check_credit.ensures, c.requires.1)

pub returns : goal.returns
returns c =
    let a = c.args in
    let first = rw c.last.ensures at c.in_ok-posted.ensures.1 in
    judges_accepted a.m.now a.e _ c.pay.new.m (passed_rest (state_on a.m.now) a.e _ _ first c.in_ok-check_credit.ensures)
    (rw c.in_ok-posted.ensures.0 at c.pay.ensures)
