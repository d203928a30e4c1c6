use Rattle.rules.proofs.Numbered.{answered_ok, handed_on}
use Rattle.account.specs.State.{state_on}
use Rattle.account.proofs.Exits.{passed_rest, free_of, judges_first, judges_rest, judges_accepted}
use Rattle.account.proofs.ways.item.Goals as goal

pub returns-in_err-check_event : goal.returns-in_err-check_event
returns-in_err-check_event c =
    let left = handed_on _ c.from_residual.ensures.1 in
    rw left (judges_first c.args.m.now c.args.e _ (rw c.last.ensures at c.in_err-check_event.ensures))

pub returns-in_err-charge : goal.returns-in_err-charge
returns-in_err-charge c =
    let left = handed_on _ c.from_residual-in_err-charge.ensures.1 in
    rw left (judges_rest c.args.m.now c.args.e _ _ (rw c.last.ensures at c.in_ok-check_event.ensures.1) c.in_err-charge.ensures)

pub charge_item-requires : goal.charge_item-requires
charge_item-requires c =
    let a = c.args in
    (free_of a.m.now a.e _ _ c.requires.0 c.in_ok-charge.ensures, c.requires.1, (answered_ok _ _ _ c.in_ok-charge.ensures).1)

pub returns : goal.returns
returns c =
    let a = c.args in
    let first = rw c.last.ensures at c.in_ok-check_event.ensures.1 in
    judges_accepted a.m.now a.e _ c.charge_item.new.m (passed_rest (state_on a.m.now) a.e _ _ first c.in_ok-charge.ensures) c.charge_item.ensures
