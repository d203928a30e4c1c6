use Rattle.std.proofs.Common.{◌≡◌, ◌&&◌, leb, refl, ◌∙◌, rules, tests}
use Rattle.bookformat.proofs.Found.{span_length}
use Rattle.rules.specs.declared.refusals.Refusal.TheVariants.{TooShort}
use Rattle.rules.proofs.Numbered.{unless}
use Rattle.bookpost.proofs.check_history.Goals as goal

pub returns : goal.returns
returns c =
    let b = c.args.book in
    let s = c.account-s.result in
    let n = span_length b.bytes.now c.args.i s b.sound c.account-s.ensures in
    let t : c.if-s-n.enough ≡ (leb s.count c.args.n && leb s.count c.args.m) = search (rules, tests) in
    rw (b.sound, ← n, ← t) (c.when.ensures ∙ unless _ TooShort 22 refl)
