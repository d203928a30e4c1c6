use Rattle.hollupaq.proofs.Demand.{receipt_small}
use Rattle.hollupaq.proofs.Told.{word_is}
use Rattle.hollupaq.proofs.kept.hollupaq_would_answer.Goals as goal

pub returns : goal.returns
returns c = word_is _ c.word_of.ensures c.would_answer.ensures (receipt_small c.args.account.now _)
