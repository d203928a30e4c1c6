use Rattle.bookformat.proofs.Loops.{unnumbered}
use Rattle.bookpost.proofs.Noting.{Noted}
use Rattle.bookpost.proofs.note_account.Given as goal

abbrev pub invariant-loop-at : goal.invariant-loop-at
invariant-loop-at l = Noted l.initial.numbers l.initial.owed (unnumbered l.yielded) l.numbers l.owed l.account.memory
