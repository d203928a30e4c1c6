use Rattle.claim.proofs.Walk.{Walked}
use Rattle.bookpost.proofs.run_account.Given as goal

abbrev pub invariant-loop-e : goal.invariant-loop-e
invariant-loop-e l = Walked l.yielded l.m l.refused
