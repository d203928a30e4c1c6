-- Laws of the lists of items: what a test keeps of them, and sums over them.
use Prim.Native.Nat.{ℕ, ◌+◌, ◌≤◌, zero-le}
use mathlib.Core.Path.{◌≡◌, refl, sym, ◌∙◌}
use mathlib.Core.Bool.{Bool, true, false, true≢false}
use mathlib.Core.List.{List, [], ◌∷◌, ◌++◌}
use native.Mathlib.Omega.{arith}
use Rattle.std.proofs.lemmas.Bool.{false_from_ne_true}
use Rattle.basics.proofs.Cases.{on}
use Rattle.std.specs.List.{All, filter}
use Rattle.std.proofs.lemmas.List.Elements.{All-head, All-tail}
use Rattle.rules.specs.Money.{Item, sum_of}

-- ---- what a test keeps
-- a second test that implies the first needs the first no more
pub keep_keep : (P : Item → Type 0) (f g : Item → Bool) → ((x : Item) → P x → g x ≡ true → f x ≡ true) → (xs : List Item) → All P xs
    → filter g (filter f xs) ≡ filter g xs
keep_keep P f g h [] p = refl
keep_keep P f g h (x ∷ xs) p =
    let ih = keep_keep P f g h xs (All-tail P x xs p) in
    on (f x) (λ q. rw (q, ih))
    (λ q. let n = false_from_ne_true (g x) (λ z. true≢false (sym (h x (All-head P x xs p) z) ∙ q)) in rw (q, n, ih))

-- two tests that agree keep the same
pub keep_same : (P : Item → Type 0) (f g : Item → Bool) → ((x : Item) → P x → f x ≡ g x) → (xs : List Item) → All P xs → filter f xs ≡ filter g xs
keep_same P f g h [] p = refl
keep_same P f g h (x ∷ xs) p = rw (h x (All-head P x xs p), keep_same P f g h xs (All-tail P x xs p))

-- ---- sums
pub sum_append : (f : Item → ℕ) (xs ys : List Item) → sum_of f (xs ++ ys) ≡ sum_of f xs + sum_of f ys
sum_append f [] ys = omega arith
sum_append f (x ∷ xs) ys = omega (arith, sum_append f xs ys)

-- what the test drops counts nothing
pub sum_keep : (g : Item → ℕ) (f : Item → Bool) → ((x : Item) → f x ≡ false → g x ≡ 0) → (xs : List Item) → sum_of g (filter f xs) ≡ sum_of g xs
sum_keep g f h [] = refl
sum_keep g f h (x ∷ xs) =
    let ih = sum_keep g f h xs in
    on (f x) (λ q. rw q (omega arith)) (λ q. let z = h x q in rw q (omega arith))

pub sum_mono : (f g : Item → ℕ) → ((x : Item) → f x ≤ g x) → (xs : List Item) → sum_of f xs ≤ sum_of g xs
sum_mono f g h [] = zero-le
sum_mono f g h (x ∷ xs) = omega (arith, h x, sum_mono f g h xs)
