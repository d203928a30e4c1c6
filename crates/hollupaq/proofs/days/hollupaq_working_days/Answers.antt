use Rattle.hollupaq.proofs.Told.{count_told}
use Rattle.hollupaq.proofs.days.hollupaq_working_days.Goals as goal

pub returns-in-Some : goal.returns-in-Some
returns-in-Some c =
    count_told c.args.account.now c.args.after c.args.to c.in-Some.count c.word_of.result c.working_days.result c.working_days.ensures c.in-Some.is c.word_of.ensures
