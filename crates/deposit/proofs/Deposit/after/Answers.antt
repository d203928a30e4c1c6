use Rattle.std.proofs.Common.{arith}
use Rattle.rules.proofs.Ranged.{ranged_kind}
use Rattle.deposit.proofs.Deposit.after.Goals as goal

pub overflow_add-result : goal.overflow_add-result
overflow_add-result c =
    let w = c.in-Ok-DepositPaid in
    omega (arith, (ranged_kind c.args.posted.event c.args.posted.well_formed.fields_fit w.field-0-is w.ensures).amount_high)
