use Rattle.hollupaq.proofs.Demand.{receipt_small}
use Rattle.hollupaq.proofs.Told.{word_is}
use Rattle.hollupaq.proofs.kept.hollupaq_post.Goals as goal

pub returns : goal.returns
returns c =
    record {
      answer_is = word_is _ c.word_of.ensures c.post.ensures.answer_is (receipt_small c.args.account.now _);
      words_are = c.post.ensures.words_are;
    }
