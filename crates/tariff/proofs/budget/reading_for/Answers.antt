use native.Mathlib.Omega.{arith}
use Rattle.tariff.proofs.Paid.{found, none_found}
use Rattle.tariff.proofs.budget.reading_for.Goals as goal

pub returns-then-cents-sum-clause-reading : goal.returns-then-cents-sum-clause-reading
returns-then-cents-sum-clause-reading c =
    let of = c.in_ok-basic.ensures.ok in
    let cents = rw of.1 at c.cents.ensures in
    found c.args.class c.args.sum c.largest_paid.result c.in_ok-basic.basic.class of.0 (omega (arith, cents)) c.largest_paid.ensures

pub returns-else-cents-sum-clause-largest : goal.returns-else-cents-sum-clause-largest
returns-else-cents-sum-clause-largest c =
    let of = c.in_ok-basic.ensures.ok in
    let cents = rw of.1 at c.cents.ensures in
    none_found c.args.class c.args.sum c.in_ok-basic.basic.class of.0 (omega (arith, cents))
