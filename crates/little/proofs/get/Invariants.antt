use Rattle.little.proofs.Numbers.{IsRead}
use Rattle.little.proofs.get.Given as goal

abbrev pub invariant-loop-byte : goal.invariant-loop-byte
invariant-loop-byte l = IsRead l.yielded l.number
