use Rattle.std.proofs.Common.{arith}
use Rattle.rules.proofs.Ranged.{ranged_kind}
use Rattle.arrangement.proofs.Arrangement.after.Goals as goal

pub overflow_add-result : goal.overflow_add-result
overflow_add-result c =
    let w = c.in-Ok-Payment in
    omega (arith, c.requires.arrangement_fit.paid_le, (ranged_kind c.args.posted.event c.args.posted.well_formed.fields_fit w.field-0-is w.ensures).amount_high)
