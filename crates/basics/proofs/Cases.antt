-- Case analysis on tests, for every crate: a Bool or a comparison by cases with what each case shows, and what a compound test says of its parts.
-- Each case is handed its equation here; the library's cases are a sum to take apart, which is no plainer.
use Prim.Native.Nat.{ℕ, ◌≤◌, ◌<◌}
use mathlib.Core.Path.{◌≡◌, refl, sym}
use mathlib.Core.Bool.{Bool, true, false, cond, ◌&&◌, ◌||◌}
use mathlib.Core.List.{List, [], ◌∷◌}
use lib.Dec.{leb, ltb, eqb}
use Rattle.std.proofs.lemmas.Bool.{and_parts}
use borrow.Author.Tests.{eqb-true, eqb-false, ltb-true, ltb-false, leb-true, leb-false}

-- a Bool, by cases, with the equation
pub on : {P : Type 0} (b : Bool) → (b ≡ true → P) → (b ≡ false → P) → P
on true f g = f refl
on false f g = g refl

pub on_eq : {P : Type 0} (a b : ℕ) → (eqb a b ≡ true → a ≡ b → P) → (eqb a b ≡ false → (a ≡ b → ⊥) → P) → P
on_eq a b f g = on (eqb a b) (λ e. f e (eqb-true a b e)) (λ e. g e (eqb-false a b e))

pub on_lt : {P : Type 0} (a b : ℕ) → (ltb a b ≡ true → a < b → P) → (ltb a b ≡ false → b ≤ a → P) → P
on_lt a b f g = on (ltb a b) (λ e. f e (ltb-true a b e)) (λ e. g e (ltb-false a b e))

pub on_le : {P : Type 0} (a b : ℕ) → (leb a b ≡ true → a ≤ b → P) → (leb a b ≡ false → b < a → P) → P
on_le a b f g = on (leb a b) (λ e. f e (leb-true a b e)) (λ e. g e (leb-false a b e))

-- ---- a compound test
-- what is implied already adds nothing
pub absorb : (a b : Bool) → (b ≡ true → a ≡ true) → (a || b) ≡ a
absorb true b f = refl
absorb false true f = sym (f refl)
absorb false false f = refl

-- ---- a choice between a number and 0
-- what is not 0 was chosen
pub picked : (b : Bool) (x : ℕ) → (cond b x 0 ≡ 0 → ⊥) → b ≡ true
picked true x f = refl
picked false x f = absurd (f refl)

-- ---- a test of several parts, `a && b && c`, as facts: its parts are given once more as a list
abbrev pub chain : Bool → List Bool → Bool
chain a [] = a
chain a (b ∷ l) = chain (a && b) l

abbrev pub Each : List Bool → Type 0
Each [] = Unit {0}
Each (a ∷ l) = (a ≡ true) × Each l

pub links : (a : Bool) (l : List Bool) → chain a l ≡ true → (a ≡ true) × Each l
links a [] e = (e, tt)
links a (b ∷ l) e =
    let r = links (a && b) l e in
    let p = and_parts a b r.0 in (p.0, (p.1, r.1))
