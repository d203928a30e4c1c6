use borrow.Author.Rules.{rules}
use Rattle.hollupaq.proofs.Told.{begun_told}
use Rattle.hollupaq.proofs.kept.hollupaq_begin.Goals as goal

pub returns-in-Some-as_mut_array : goal.returns-in-Some-as_mut_array
returns-in-Some-as_mut_array c =
    begun_told c.args.first c.args.bits.now c.in-Some.bits.now c.args.account.now c.begin.new.m (search rules) (search rules) (search rules) c.begin.ensures.words
