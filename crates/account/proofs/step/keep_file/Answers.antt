use Rattle.account.proofs.Steps.{file_by}
use borrow.Author.Rules.{rules}
use Rattle.account.proofs.step.keep_file.Goals as goal

pub returns : goal.returns
returns c =
    let a = c.args in
    file_by a.m.now c.told-m a.posted.event c.step.new.w c.step-2.new.w (search rules) (search rules) c.step.ensures c.step-2.ensures
