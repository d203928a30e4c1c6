use Rattle.std.proofs.Common.{ap, ◌∙◌, ◌+◌, ◌*◌}
use Rattle.bookformat.specs.Book.{base, events_at}
use Rattle.bookformat.proofs.Found.{account_events}
use Rattle.book.proofs.Book.records_of.Goals as goal

pub returns : goal.returns
returns c =
    let b = c.args.self in
    let s = c.account-s in
    c.new.ensures.events
    ∙ (ap (λ p. events_at s.result.count (p + 16 * s.result.first) b.bytes.now) (c.base.ensures ∙ ap base c.accounts.ensures.value)
    ∙ account_events b.bytes.now c.args.i s.result b.sound s.ensures)
