use Rattle.standing.proofs.Whole.{whole}
use Rattle.standing.proofs.answer.Goals as goal

pub returns-clause-whole : goal.returns-clause-whole
returns-clause-whole g c = whole _ _ _ _ (rw c.in-Ok-all_read.is at c.read-n.ensures.whole) c.in-Ok.ensures
