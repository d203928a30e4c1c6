use Rattle.tariff.specs.Classes.{class_number}
use Rattle.tariff.proofs.Halving.{Between}
use Rattle.tariff.proofs.budget.largest_paid.Given as goal

abbrev pub invariant-loop : goal.invariant-loop
invariant-loop l = Between (class_number l.class) l.sum l.low l.high l.counter
