use Rattle.rules.proofs.Numbered.{handed_on}
use Rattle.account.specs.State.{state_on}
use Rattle.account.specs.Post.{receipt_at, answer_at}
use Rattle.account.proofs.Exits.{refused_first, refused_rest, passed_rest}
use Rattle.account.proofs.would.answer.Goals as goal

pub returns-in_err-check_event : goal.returns-in_err-check_event
unfolding answer_at
returns-in_err-check_event c =
    let left = handed_on _ c.from_residual.ensures.1 in
    let s = state_on c.args.account.words.now in
    let e = c.args.e in
    rw left (refused_first s e _ (receipt_at s e) (rw c.last.ensures at c.in_err-check_event.ensures))

pub returns-in_err-ask : goal.returns-in_err-ask
unfolding answer_at
returns-in_err-ask c =
    let left = handed_on _ c.from_residual-in_err-ask.ensures.1 in
    let s = state_on c.args.account.words.now in
    let e = c.args.e in
    rw left (refused_rest s e _ _ (receipt_at s e) (rw c.last.ensures at c.in_ok-check_event.ensures.1) c.in_err-ask.ensures)

pub returns : goal.returns
unfolding answer_at
returns c =
    let s = state_on c.args.account.words.now in
    let e = c.args.e in
    rw (passed_rest s e _ _ (rw c.last.ensures at c.in_ok-check_event.ensures.1) c.in_ok-ask.ensures, c.receipt.ensures)
