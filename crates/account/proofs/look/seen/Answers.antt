use Rattle.account.specs.State.{state_on}
use Rattle.account.proofs.Exits.{seen_is}
use Rattle.account.proofs.look.seen.Goals as goal

pub returns : goal.returns
returns c =
    rw (
      c.view_of.ensures,
      c.service-service.ensures,
      c.money_for.ensures,
      c.debts_for.ensures,
      c.collection.ensures,
    )
    (seen_is (state_on c.args.account.words.now) c.args.e)
