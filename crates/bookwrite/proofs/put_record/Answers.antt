use Prim.Native.Nat.{◌+◌}
use mathlib.Core.Path.{◌≡◌, refl, ap, ◌∙◌}
use mathlib.Core.List.{[], ◌∷◌, ◌++◌}
use native.Mathlib.Omega.{arith}
use lib.Seq.{sets}
use Rattle.little.specs.Little.{le}
use Rattle.little.proofs.Numbers.{length_le}
use Rattle.little.proofs.Stores.{sets_then}
use Rattle.bookwrite.proofs.put_record.Goals as goal

pub returns : goal.returns
returns c =
    let s = c.args in
    let four = s.e.kind ∷ s.e.option ∷ 0 ∷ 0 ∷ [] in
    let o1 = c.put_marks.new.out in
    let o2 = c.put.new.out in
    let e2 : o2 ≡ sets o1 (s.p + 4) (le 4 s.e.day) = c.put.ensures
    ∙ ap (λ n. sets o1 (s.p + 4) (le 4 n)) c.from.ensures in
    c.put-2.ensures
    ∙ sets_then (le 4 s.e.day) (le 8 s.e.amount) o1 o2 (s.p + 4) (s.p + 8) e2 (omega (arith, length_le 4 s.e.day))
    ∙ sets_then four (le 4 s.e.day ++ le 8 s.e.amount) s.out.now o1 s.p (s.p + 4)
    c.put_marks.ensures refl
