use Rattle.bookformat.proofs.Stored.{gave_all}
use Rattle.bookformat.proofs.Told.{room_facts}
use Rattle.bookread.proofs.take_book.Goals as goal

pub returns-clause-left : goal.returns-clause-left
returns-clause-left c =
    let b = c.args.book in
    let a = c.accounts.ensures.value in
    let r = c.records.ensures.value in
    let p = c.base-start.ensures in
    let v = c.new.ensures.events in
    let t = c.take_records.ensures in
    gave_all b.bytes.now _ _ (room_facts b.bytes.now _ b.sound c.requires)
    c.take_counts.ensures
    (rw (v, r, p, a) at t.kinds_after) (rw (v, r, p, a) at t.options_after) (rw (v, r, p, a) at t.days_after) (rw (v, r, p, a) at t.amounts_after)
