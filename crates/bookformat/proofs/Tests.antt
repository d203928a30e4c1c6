-- A list of tests that all have to hold, and what it tells.
use mathlib.Core.Path.{◌≡◌, refl, ap}
use mathlib.Core.Bool.{Bool, true, false, cond, ◌&&◌}
use mathlib.Core.List.{List, [], ◌∷◌}
use Prim.Native.Nat.{ℕ, suc, ◌<◌}
use native.Mathlib.Omega.{arith}
use Rattle.std.proofs.lemmas.Bool.{and_parts, cond_both}
use Rattle.basics.proofs.Cases.{Each}
use Rattle.bookformat.specs.Book.{all}

pub and_on : (a b : Bool) → a ≡ true → (a && b) ≡ b
and_on a b e = ap (λ x. x && b) e

pub each : (l : List Bool) → all l ≡ true → Each l
each [] e = tt
each (a ∷ []) e = (e, tt)
each (a ∷ b ∷ l) e = ((and_parts a (all (b ∷ l)) e).0, each (b ∷ l) (and_parts a (all (b ∷ l)) e).1)

-- a refusal of 0 says that the test held and that no later one refused
pub header_passed : (b : Bool) (x k : ℕ) → cond b x (suc k) ≡ 0 → (b ≡ true) × (x ≡ 0)
header_passed true x k e = (refl, e)
header_passed false x k e = absurd (omega arith)

pub either : (b : Bool) (x y n : ℕ) → x < n → y < n → cond b x y < n
either b x y n h i = cond_both b x y (λ z. z < n) (λ _. h) (λ _. i)
