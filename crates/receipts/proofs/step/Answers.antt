use mathlib.Core.Path.{◌≡◌, refl, sym, ◌∙◌}
use native.Mathlib.Omega.{arith}
use Rattle.rules.specs.Kinds.{payment, returned_payment}
use Rattle.receipts.proofs.Tills.{last_option, paid_in}
use Rattle.receipts.proofs.step.Goals as goal

pub bounds-w-from : goal.bounds-w-from
bounds-w-from c =
    let t = last_option payment c.args.posted.event c.args.posted.well_formed (sym c.is.ensures ∙ c.if-is.true) in
    omega (arith, t, c.from.ensures, c.requires.size)

pub bounds-w-place : goal.bounds-w-place
bounds-w-place c =
    let t = last_option payment c.args.posted.event c.args.posted.well_formed (sym c.is.ensures ∙ c.if-is.true) in
    omega (arith, t, c.place.ensures)

pub bounds-w-place-then-is-2 : goal.bounds-w-place-then-is-2
bounds-w-place-then-is-2 c =
    let t = last_option returned_payment c.args.posted.event c.args.posted.well_formed (sym c.is-else-is.ensures ∙ c.if-is-2.true) in
    omega (arith, t, c.place-then-is-2.ensures, c.requires.size)

pub returns-then-is : goal.returns-then-is
returns-then-is c =
    let q = sym c.is.ensures ∙ c.if-is.true in
    let t = last_option payment c.args.posted.event c.args.posted.well_formed q in
    let same : c.unwrap-w.result.now ≡ c.args.w.now = grind arith in
    rw (c.from.ensures, c.place.ensures, c.count-n.ensures, same) (paid_in c.args.w.now c.args.posted.event _ refl t q)
