use Rattle.rules.proofs.Numbered.{handed_on}
use Rattle.account.proofs.Exits.{answers_passed, answers_failed}
use Rattle.account.proofs.would.would_answer.Goals as goal

pub returns-in_err-of : goal.returns-in_err-of
returns-in_err-of c = rw (handed_on _ c.from_residual.ensures.1, c.in_err-of.ensures.1) (answers_failed c.args.m.now c.args.e c.in_err-of.ensures.0)

pub returns : goal.returns
returns c = rw (c.answer.ensures, c.in_ok-of.ensures.0) (answers_passed c.args.m.now c.args.e c.in_ok-of.ensures.1)
