use Rattle.std.proofs.Common.{ap, ◌∙◌}
use Rattle.hollupaq.specs.Library.{amount_word}
use Rattle.hollupaq.proofs.Told.{bill_word}
use Rattle.hollupaq.proofs.bills.hollupaq_bill.Goals as goal

pub returns : goal.returns
returns c = c.word_of.ensures ∙ (ap amount_word c.bill.ensures ∙ bill_word c.args.class c.args.usage)
