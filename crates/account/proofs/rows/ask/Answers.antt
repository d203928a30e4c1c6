use Rattle.std.proofs.Common.{ap, ◌∙◌}
use Rattle.rules.specs.Table.{refusal_by}
use Rattle.rules.proofs.Numbered.{answered_ok, answered_err, handed_on}
use Rattle.table.proofs.Seen.{refusal_seen}
use Rattle.account.specs.State.{state_on, view}
use Rattle.account.specs.Looks.{offer_of}
use Rattle.account.proofs.rows.ask.Goals as goal

-- the rows say the same of what the event's kind looks at as of all that is seen
pub returns-in_err-item : goal.returns-in_err-item
returns-in_err-item c =
    let left = handed_on _ c.from_residual.ensures.1 in
    let s = state_on c.args.account.words.now in
    let e = c.args.e in
    let same = ap (λ v. refusal_by v e) c.seen-view.ensures ∙ refusal_seen (view s e) e in
    left ∙ rw same at (answered_err (refusal_by c.seen-view.result e) _ _ (offer_of s e) c.in_err-item.ensures).1

pub returns : goal.returns
returns c =
    let s = state_on c.args.account.words.now in
    let e = c.args.e in
    let q = rw (c.seen-view.ensures, refusal_seen (view s e) e) at c.in_ok-item.ensures in
    let p = answered_ok _ _ _ q in
    rw (p.0, p.1, c.seen-view.ensures)
