use Rattle.std.proofs.Common.{rules, ℕ, ◌≡◌, ◌∙◌, ap, length, arith}
use Rattle.std.specs.Iterator.Adapters.{enumerate_count}
use mir.Syntax.{w64}
use mir.Val.{to_z, of_z}
use Rattle.rules.specs.declared.Event.{Event}
use Rattle.bookformat.proofs.Loops.{unnumbered, unnumbered_more, numbered}
use Rattle.bookpost.proofs.Noting.{noted_more}
use Rattle.bookpost.proofs.note_account.Goals as goal

pub loop-at-preserved : goal.loop-at-preserved
loop-at-preserved c =
    let l = c.loop-at in
    let a = c.args in
    let x : ℕ × Event = (c.in-Some.at, c.in-Some.e) in
    let start = c.into_iter-at-iterator.result in
    let z : enumerate_count start ≡ 0 = cc in
    let at : x.0 ≡ length (unnumbered l.yielded) = omega (arith, numbered start l.at-iterator l.yielded l.yielded_by, c.in-Some.ensures.steps.1) in
    let y : to_z w64 (of_z w64 c.owed.result) ≡ c.owed.result = search rules in
    rw (unnumbered_more l.yielded x)
    (noted_more a.numbers.now a.owed.now (unnumbered l.yielded) l.numbers l.owed l.account.memory l.invariant c.in-Some.e c.post_lent.result
    c.post_lent.new.a.memory c.in-Some.at c.number_of.result (to_z w64 (of_z w64 c.owed.result)) at c.post_lent.ensures.answer_is
    (ap (λ z. z.memory) c.post_lent.ensures.account_is) c.number_of.ensures (y ∙ c.owed.ensures))
