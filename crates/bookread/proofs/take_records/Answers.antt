use Rattle.std.proofs.Common.{ℕ, ◌≡◌, length, arith}
use Rattle.std.specs.Iterator.Adapters.{enumerate_count}
use Rattle.rules.specs.declared.Event.{Event}
use Rattle.bookformat.proofs.Loops.{unnumbered, unnumbered_more, numbered}
use Rattle.bookformat.proofs.Stored.{field_more}
use Rattle.bookread.proofs.take_records.Goals as goal

pub loop-i-preserved : goal.loop-i-preserved
loop-i-preserved c =
    let l = c.loop-i in
    let v = l.invariant in
    let a = c.args in
    let e = c.in-Some.e in
    let x : ℕ × Event = (c.in-Some.i, e) in
    let es = unnumbered l.yielded in
    let start = c.into_iter-i-iterator.result in
    let z : enumerate_count start ≡ 0 = cc in
    let at : x.0 ≡ length es = omega (arith, numbered start l.i-iterator l.yielded l.yielded_by, c.in-Some.ensures.steps.1) in
    rw (unnumbered_more l.yielded x) (
      field_more (λ y. y.kind) es e x.0 a.kinds.now l.kinds at v.0,
      field_more (λ y. y.option) es e x.0 a.options.now l.options at v.1,
      field_more (λ y. y.day) es e x.0 a.days.now l.days at v.2,
      field_more (λ y. y.amount) es e x.0 a.amounts.now l.amounts at v.3,
    )
