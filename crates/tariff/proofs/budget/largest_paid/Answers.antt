use native.Mathlib.Omega.{arith}
use Rattle.tariff.specs.Classes.{class_number}
use Rattle.tariff.proofs.Law.{class_known}
use Rattle.tariff.proofs.Halving.{upper_half, lower_half}
use Rattle.tariff.proofs.budget.largest_paid.Goals as goal
use Rattle.tariff.proofs.budget.largest_paid.Goals.{then-cents-sum, else-cents-sum}

pub loop-preserved : goal.loop-preserved
loop-preserved c =
    let l = c.loop in
    let class = class_number c.args.class in
    elim c.if-cents-sum.branch [
      | then-cents-sum w ↦ rw (w.low-is, w.high-is) (upper_half class c.args.sum l.low l.high l.counter l.invariant (omega arith) (omega arith))
      | else-cents-sum w ↦
          rw (w.low-is, w.high-is)
          (lower_half class c.args.sum l.low l.high l.counter l.invariant (omega arith) (class_known c.args.class) (omega arith))
    ]
