use mathlib.Core.Path.{◌∙◌}
use mathlib.Core.List.{[], ◌∷◌, ◌++◌}
use native.Mathlib.Omega.{arith}
use Rattle.basics.specs.Ascii.{ascii}
use Rattle.std.specs.Fmt.{decimal}
use Rattle.text.proofs.Numerals.{put_then, room_then}
use Rattle.rules.specs.Refusals.{refusal_number}
use Rattle.report.specs.Report.{refused_text}
use Rattle.report.proofs.Listing.{written, too_short, refused_length, refused_width}
use Rattle.report.proofs.put_refusal.Goals as goal

pub returns-then-out-width : goal.returns-then-out-width
returns-then-out-width c =
    let s = c.args in
    let w = refused_width s.refusal c.width.ensures.digits (c.from-number.ensures ∙ c.number.ensures) in
    too_short (refused_text (refusal_number s.refusal)) s.out.now (omega (arith, refused_length (refusal_number s.refusal), w))

pub put_number-requires : goal.put_number-requires
unfolding refused_text
put_number-requires c =
    let s = c.args in
    let a = c.put_bytes-p in
    let w = refused_width s.refusal c.width.ensures.digits (c.from-number.ensures ∙ c.number.ensures) in
    rw (c.from-number.ensures ∙ c.number.ensures) (room_then (ascii "book refused ") (decimal (refusal_number s.refusal) ++ (10 ∷ [])) s.out.now a.new.out 0 a.result
    (omega (arith, refused_length (refusal_number s.refusal), w)) a.ensures)

pub returns : goal.returns
unfolding refused_text
returns c =
    let s = c.args in
    let a = c.put_bytes-p in
    let w = refused_width s.refusal c.width.ensures.digits (c.from-number.ensures ∙ c.number.ensures) in
    let t = rw (c.from-number.ensures ∙ c.number.ensures) at c.put_number.ensures in
    written (refused_text (refusal_number s.refusal)) s.out.now _ _ (omega (arith, refused_length (refusal_number s.refusal), w))
    (put_then (ascii "book refused ") (decimal (refusal_number s.refusal) ++ (10 ∷ [])) s.out.now a.new.out _ 0 a.result _ a.ensures t)
