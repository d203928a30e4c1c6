use Rattle.hollupaq.proofs.Demand.{receipt_small_at}
use Rattle.hollupaq.proofs.Told.{word_is}
use Rattle.hollupaq.proofs.kept.hollupaq_post_at.Goals as goal

pub returns : goal.returns
returns c =
    record {
      answer_is = word_is _ c.word_of.ensures c.post_at.ensures.answer_is (receipt_small_at c.args.i c.args.accounts.now _);
      words_are = c.post_at.ensures.words_are;
    }
