use Rattle.std.proofs.Common.{arith}
use Rattle.rules.proofs.Ranged.{ranged_kind, longest_lem}
use Rattle.medical.proofs.Medical.after.Goals as goal

pub end_of-requires : goal.end_of-requires
end_of-requires c =
    let w = c.in-Ok-Certificate in
    let a = (ranged_kind c.args.posted.event c.args.posted.well_formed.fields_fit w.field-0-is w.ensures).amount_high in
    omega (arith, a, longest_lem c.args.posted.event.day)

pub end_of-requires-in-Ok-Approval : goal.end_of-requires-in-Ok-Approval
end_of-requires-in-Ok-Approval c =
    let w = c.in-Ok-Approval in
    let a = (ranged_kind c.args.posted.event c.args.posted.well_formed.fields_fit w.field-0-is w.ensures).amount_high in
    omega arith
