use Rattle.account.proofs.Words.{begun}
use Rattle.account.proofs.begin.Goals as goal

pub returns-clause-words : goal.returns-clause-words
returns-clause-words c = begun c.args.calendar c.clear.new.m c.begin.new.w c.clear.ensures c.begin.ensures
