use mathlib.Core.Path.{◌≡◌}
use lib.Seq.{sets}
use Rattle.bookformat.specs.Lent.{kinds_of, options_of, days_of, amounts_of}
use Rattle.bookformat.proofs.Loops.{unnumbered}
use Rattle.bookread.proofs.take_records.Given as goal

abbrev pub invariant-loop-i : goal.invariant-loop-i
invariant-loop-i l =
    let es = unnumbered l.yielded in
    let was = l.initial in
    (l.kinds ≡ sets was.kinds 0 (kinds_of es)) × (l.options ≡ sets was.options 0 (options_of es))
    × (l.days ≡ sets was.days 0 (days_of es)) × (l.amounts ≡ sets was.amounts 0 (amounts_of es))
