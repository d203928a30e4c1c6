use Rattle.std.proofs.Common.{ap, ◌∙◌}
use Rattle.rules.specs.Answer.{answered}
use Rattle.ledger.specs.Ledger.{sums_of}
use Rattle.account.specs.State.{state_on}
use Rattle.account.proofs.OwnWays.{payment_row}
use Rattle.account.proofs.ways.check_credit.Goals as goal

pub returns : goal.returns
returns c =
    let sums = c.sums_of.ensures ∙ ap sums_of c.ledger.ensures in
    rw (c.credit_rows.ensures, sums) (ap (λ n. answered n tt) (payment_row (state_on c.args.account.words.now) c.args.e c.requires))
