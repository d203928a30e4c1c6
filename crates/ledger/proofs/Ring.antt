-- The ring as a list of items: one more joins at the end, and what is paid leaves at the front.
use Rattle.std.proofs.lemmas.Grind.{common_steps}
use Prim.Native.Nat.{ℕ, zero, suc, ◌+◌, ◌-◌, ◌≤◌, ◌<◌}
use mathlib.Core.Path.{◌≡◌, refl, sym, ap}
use mathlib.Core.Bool.{Bool}
use mathlib.Core.List.{List, [], ◌∷◌, ◌++◌}
use native.Mathlib.Omega.{arith}
use lib.Dec.{ltb}
use lib.ListN.{length}
use borrow.Author.Tests.{lt-ltb}
use Rattle.std.specs.List.{filter}
use Rattle.basics.proofs.Cases.{on_lt}
use Rattle.rules.specs.Money.{Item, sum_of}
use Rattle.ledger.specs.Ring.{places, ring_size, upto_at, stored, item_at, items_from, closed_from, below_from}

-- kept while credits of p have not paid all of it
abbrev pub is_open : ℕ → Item → Bool
is_open p x = ltb p x.upto

-- ---- the sums rise from b, and the last is c
abbrev pub Chained : (b c : ℕ) → List Item → Type 0
Chained b c [] = b ≡ c
Chained b c (x ∷ xs) = (b < x.upto) × Chained x.upto c xs

-- for the reader: no sum falls on the way
pub chain_le : (b c : ℕ) (xs : List Item) → Chained b c xs → b ≤ c
chain_le b c [] e = omega (arith, e)
chain_le b c (x ∷ xs) e = omega (arith, e.0, chain_le x.upto c xs e.1)

-- ---- one more item joins at the end; b is the sum before the first, c that of all
pub ring_joined : (n k b c : ℕ) (s : List ℕ) (d a : ℕ) → length s ≡ ring_size → n < places → Chained b c (items_from n k b s)
    → items_from (suc n) k b (stored s (k + n) d (c + a)) ≡ items_from n k b s ++ (record { day = d; amount = a; upto = c + a } ∷ [])
ring_joined zero k b c s d a l r e = grind (arith, common_steps)
ring_joined (suc n) k b c s d a l r e = grind (arith, common_steps, ring_joined n (suc k) (upto_at s k) c s d a l (omega arith) e.1)

pub chain_join : (b c d a : ℕ) (xs : List Item) → 0 < a → Chained b c xs → Chained b (c + a) (xs ++ (record { day = d; amount = a; upto = c + a } ∷ []))
chain_join b c d a [] p e = (omega (arith, e), refl)
chain_join b c d a (x ∷ xs) p e = (e.0, chain_join x.upto c d a xs p e.1)

-- ---- what is paid leaves at the front
module _ (p c : ℕ) (s : List ℕ) where
  -- where credits stay below the first, all items are open
  all_open : (b : ℕ) → p < b → (xs : List Item) → Chained b c xs → filter (is_open p) xs ≡ xs
  all_open b q [] e = refl
  all_open b q (x ∷ xs) e =
      rw (lt-ltb p x.upto (omega (arith, e.0))) (ap (λ ys. x ∷ ys) (all_open x.upto (omega (arith, e.0)) xs e.1))

  pub left_open : (n k b : ℕ) → Chained b c (items_from n k b s)
      → items_from (k + n - closed_from n k p s) (closed_from n k p s) (below_from n k b p s) s ≡ filter (is_open p) (items_from n k b s)
  left_open zero k b e = let z : k + 0 - k ≡ 0 = omega arith in rw z
  left_open (suc n) k b e =
      on_lt p (upto_at s k)
      (λ q h. let z : k + suc n - closed_from (suc n) k p s ≡ suc n = rw q (omega arith) in
      rw (z, q) (ap (λ ys. item_at s k b ∷ ys) (sym (all_open (upto_at s k) h (items_from n (suc k) (upto_at s k) s) e.1))))
      (λ q h. let z : k + suc n ≡ suc k + n = omega arith in
      rw (q, z) (left_open n (suc k) (upto_at s k) e.1))

  -- what is left is chained
  pub left_chained : (n k b : ℕ) → Chained b c (items_from n k b s)
      → Chained (below_from n k b p s) c (items_from (k + n - closed_from n k p s) (closed_from n k p s) (below_from n k b p s) s)
  left_chained zero k b e = let z : k + 0 - k ≡ 0 = omega arith in rw z e
  left_chained (suc n) k b e =
      on_lt p (upto_at s k)
      (λ q h. let z : k + suc n - k ≡ suc n = omega arith in rw (q, z) e)
      (λ q h. let z : k + suc n ≡ suc k + n = omega arith in rw (q, z) (left_chained n (suc k) (upto_at s k) e.1))

-- none is closed that was not made, and none opens again
pub closed_in : (n k p : ℕ) (s : List ℕ) → (k ≤ closed_from n k p s) × (closed_from n k p s ≤ k + n)
closed_in zero k p s = (omega arith, omega arith)
closed_in (suc n) k p s = grind (arith, common_steps, closed_in n (suc k) p s)

-- ---- settling a second time finds nothing, nor does settling for less
module _ (p q : ℕ) (s : List ℕ) (h : q ≤ p) where
  pub closed_again : (n k : ℕ) → closed_from (k + n - closed_from n k p s) (closed_from n k p s) q s ≡ closed_from n k p s
  closed_again zero k = let z : k + 0 - k ≡ 0 = omega arith in rw z
  closed_again (suc n) k =
      on_lt p (upto_at s k)
      (λ e l. let z : k + suc n - k ≡ suc n = omega arith in rw (e, z) (rw (lt-ltb q (upto_at s k) (omega arith))))
      (λ e l. let z : k + suc n ≡ suc k + n = omega arith in rw (e, z) (closed_again n (suc k)))

  pub below_again : (n k b : ℕ) → below_from (k + n - closed_from n k p s) (closed_from n k p s) (below_from n k b p s) q s ≡ below_from n k b p s
  below_again zero k b = let z : k + 0 - k ≡ 0 = omega arith in rw z
  below_again (suc n) k b =
      on_lt p (upto_at s k)
      (λ e l. let z : k + suc n - k ≡ suc n = omega arith in rw (e, z) (rw (lt-ltb q (upto_at s k) (omega arith))))
      (λ e l. let z : k + suc n ≡ suc k + n = omega arith in rw (e, z) (below_again n (suc k) (upto_at s k)))

-- ---- sums
-- the amounts of a chain lead from b to c
pub chain_sum : (n k b c : ℕ) (s : List ℕ) → Chained b c (items_from n k b s) → b + sum_of (λ x. x.amount) (items_from n k b s) ≡ c
chain_sum zero k b c s e = omega (arith, e)
chain_sum (suc n) k b c s e = omega (arith, e.0, chain_sum n (suc k) (upto_at s k) c s e.1)

pub many : (n k b : ℕ) (s : List ℕ) → length (items_from n k b s) ≡ n
many zero k b s = refl
many (suc n) k b s = ap suc (many n (suc k) (upto_at s k) s)
