use Prim.Native.Nat.{◌+◌, ◌-◌}
use mathlib.Core.Path.{◌≡◌, sym}
use mathlib.Core.List.{[], ◌∷◌, append_assoc}
use native.Mathlib.Omega.{arith}
use lib.Seq.{sets-eq, drop-drop}
use Rattle.bookwrite.proofs.put_marks.Goals as goal

pub returns : goal.returns
returns c =
    let s = c.args in
    let w : s.p + 4 - s.p ≡ 4 = omega arith in
    rw (c.copy_from_slice.ensures.after, w, drop-drop 4 s.p s.out.now)
    (sym (simp append_assoc at (sets-eq (s.kind ∷ s.option ∷ 0 ∷ 0 ∷ []) s.out.now s.p (omega arith))))
