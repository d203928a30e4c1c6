use Rattle.std.proofs.Common.{ap, ◌∙◌}
use Rattle.rules.specs.Table.{refusal_by}
use Rattle.rules.proofs.Numbered.{answered_ok, handed_on}
use Rattle.account.specs.State.{state_on, view, applied}
use Rattle.account.specs.Looks.{offer_of}
use Rattle.account.proofs.Exits.{passed_rest, judges_first, judges_rest, judges_accepted, passing_of}
use Rattle.account.proofs.Steps.{applied_seen}
use Rattle.account.proofs.judge_any.Goals as goal

pub returns-in_err-posted : goal.returns-in_err-posted
returns-in_err-posted c =
    let left = handed_on _ c.from_residual.ensures.1 in
    rw left (judges_first c.args.m.now c.args.e _ (rw c.last.ensures at c.in_err-posted.ensures))

pub returns-in_err-offer : goal.returns-in_err-offer
returns-in_err-offer c =
    let left = handed_on _ c.from_residual-in_err-offer.ensures.1 in
    rw left (judges_rest c.args.m.now c.args.e _ _ (rw c.last.ensures at c.in_ok-posted.ensures.1) c.in_err-offer.ensures)

pub apply-requires : goal.apply-requires
apply-requires c =
    let a = c.args in
    let s = state_on a.m.now in
    let q = answered_ok (refusal_by (view s a.e) a.e) c.in_ok-offer.offer (offer_of s a.e) c.in_ok-offer.ensures in
    rw (q.1, c.in_ok-posted.ensures.0) (passing_of a.m.now a.e c.requires q.0)

pub returns : goal.returns
returns c =
    let a = c.args in
    let s = state_on a.m.now in
    let q = answered_ok (refusal_by (view s a.e) a.e) c.in_ok-offer.offer (offer_of s a.e) c.in_ok-offer.ensures in
    let first = rw c.last.ensures at c.in_ok-posted.ensures.1 in
    let b = rw c.in_ok-posted.ensures.0 at c.apply.ensures in
    let seen = ap (λ o. applied s a.e o.view) q.1 ∙ applied_seen (view s a.e) a.e s in
    judges_accepted a.m.now a.e c.apply.result c.apply.new.m (passed_rest s a.e _ _ first c.in_ok-offer.ensures)
    (record { became = record { words_are = b.became.words_are; state_is = b.became.state_is ∙ seen }; receipt_is = b.receipt_is })
