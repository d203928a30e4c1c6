use mathlib.Core.Path.{◌≡◌, sym, ap, ◌∙◌}
use mathlib.Core.Bool.{cond}
use Rattle.collection.specs.Collection.{watched}
use Rattle.ledger.specs.Ledger.{arrears_by}
use Rattle.account.specs.State.{state_on}
use Rattle.account.proofs.Steps.{service_found}
use borrow.Author.Rules.{rules}
use Rattle.account.proofs.step.set_service.Goals as goal
use Rattle.account.proofs.step.set_service.Goals.{then-watched, else-watched}

-- the arrears are worked out only where a notice could lapse by them
pub returns : goal.returns
returns c =
    let a = c.args in
    let s = state_on a.m.now in
    let due : c.if-watched.due ≡ cond (watched s.collection a.e) (arrears_by s.ledger a.e.day) 0 =
    elim c.if-watched.branch [
      | then-watched w ↦ rw (sym c.watches-watched.ensures ∙ w.if-watched.true, ← c.from-t.ensures) (w.due-is ∙ (w.arrears-due.ensures ∙ ap (λ l. arrears_by l c.from-t.result) w.ledger_in.ensures))
      | else-watched w ↦ rw (sym c.watches-watched.ensures ∙ w.if-watched.false) w.due-is
    ] in
    rw c.from-t.ensures (service_found a.m.now c.told-m a.e c.step.new.w c.if-watched.due (search rules) due c.step.ensures)
