-- Laws of lists: what is read where the default was put, what every element has.
use Prim.Native.Nat.{ℕ, zero, suc}
use mathlib.Core.Path.{◌≡◌, refl}
use mathlib.Core.List.{List, [], ◌∷◌}
use lib.ListN.{get_or, set}

module _ {A : Type 0} where
  -- the default, put anywhere, is read there, in the list or past it
  pub at_set : (l : List A) (i : ℕ) (d : A) → get_or (set l i d) i d ≡ d
  at_set [] i d = refl
  at_set (x ∷ xs) zero d = refl
  at_set (x ∷ xs) (suc i) d = at_set xs i d
