-- Stores of lists into a list, one after another.
use mathlib.Core.Path.{◌≡◌, sym, ap, ◌∙◌}
use mathlib.Core.List.{List, [], ◌∷◌, ◌++◌}
use Prim.Native.Nat.{ℕ, suc, ◌+◌, ◌≤◌}
use native.Mathlib.Omega.{arith}
use lib.ListN.{length, set, drop}
use lib.Seq.{sets, sets-eq}

-- stores of one list after another
pub sets_append : {A : Type 0} (x y l : List A) (i : ℕ) → sets l i (x ++ y) ≡ sets (sets l i x) (i + length x) y
sets_append [] y l i = ap (λ k. sets l k y) (omega arith)
sets_append (a ∷ x) y l i = sets_append x y (set l i a) (suc i) ∙ ap (λ k. sets (sets (set l i a) (suc i) x) k y) (omega arith)

-- a list stored from the start on
pub sets_front : {A : Type 0} (new old : List A) → length new ≤ length old → sets old 0 new ≡ new ++ drop (length new) old
sets_front new old h =
    let z : 0 + length new ≡ length new = omega arith in
    sets-eq new old 0 (omega arith) ∙ ap (λ k. new ++ drop k old) z

-- what a store of x, then a store of y just past it, leave
pub sets_then : {A : Type 0} (x y o o2 : List A) (p q : ℕ) → o2 ≡ sets o p x → q ≡ p + length x → sets o2 q y ≡ sets o p (x ++ y)
sets_then x y o o2 p q e f = rw (e, f) (sym (sets_append x y o p))
