-- One turn of a loop over the open items: what is left from item k on, of the m that were made. Nothing is asked of the words.
use Prim.Native.Nat.{ℕ, zero, suc, ◌+◌, ◌-◌, ◌≤◌, ◌<◌, min}
use mathlib.Core.Path.{◌≡◌, refl, sym, ◌∙◌}
use mathlib.Core.Bool.{cond}
use mathlib.Core.List.{List, [], ◌∷◌, map}
use native.Mathlib.Omega.{arith}
use lib.Dec.{eqb}
use lib.ListN.{get_or, length-map, get_or-eq_default}
use borrow.Author.Tests.{lt-ltb, le-ltb, ne_eqb}
use Rattle.basics.specs.Machine.{largest}
use Rattle.rules.specs.Money.{Item, sum_of}
use Rattle.ledger.specs.Ring.{upto_at, item_at, items_from, closed_from, below_from}
use Rattle.ledger.specs.Ledger.{Ledger, credits_by, shown_item, open_by, no_item, sum_before}
use Rattle.ledger.proofs.Ring.{many}

module _ (m k p b : ℕ) (s : List ℕ) where
  -- none is left
  pub done : m ≤ k → (closed_from (m - k) k p s ≡ k) × (below_from (m - k) k b p s ≡ b) × (items_from (m - k) k b s ≡ [])
  done h = let z : m - k ≡ 0 = omega arith in rw z (refl, refl, refl)

  turn : k < m → items_from (m - k) k b s ≡ item_at s k b ∷ items_from (m - (k + 1)) (k + 1) (upto_at s k) s
  turn h =
      let y : m - k ≡ suc (m - (k + 1)) = omega arith in
      let z : k + 1 ≡ suc k = omega arith in
      rw y (rw z)

  -- item k is open, and settling stops
  pub stop : k < m → p < upto_at s k → (closed_from (m - k) k p s ≡ k) × (below_from (m - k) k b p s ≡ b)
  stop h l =
      let y : m - k ≡ suc (m - (k + 1)) = omega arith in
      let q = lt-ltb p (upto_at s k) l in
      (rw y (rw q), rw y (rw q))

  -- item k is paid, and settling goes on
  pub pass : k < m → upto_at s k ≤ p
      → (closed_from (m - k) k p s ≡ closed_from (m - (k + 1)) (k + 1) p s) × (below_from (m - k) k b p s ≡ below_from (m - (k + 1)) (k + 1) (upto_at s k) p s)
  pass h l =
      let y : m - k ≡ suc (m - (k + 1)) = omega arith in
      let z : k + 1 ≡ suc k = omega arith in
      let q = le-ltb p (upto_at s k) l in
      (rw y (rw (q, z)), rw y (rw (q, z)))

-- ---- arrears
-- a sum that stops at the largest number, part by part
stops : (n x r : ℕ) → min (min (n + x) largest + r) largest ≡ min (n + (x + r)) largest
stops n x r = omega arith

-- what is counted and what is left come to the same; x is what item k counts, n what is counted then
pub sum_turn : (f : Item → ℕ) (m k b c x n t : ℕ) (s : List ℕ) → k < m → x ≡ f (item_at s k b) → n ≡ min (c + x) largest
    → min (c + sum_of f (items_from (m - k) k b s)) largest ≡ t
    → min (n + sum_of f (items_from (m - (k + 1)) (k + 1) (upto_at s k) s)) largest ≡ t
sum_turn f m k b c x n t s h e g q =
    let rest = items_from (m - (k + 1)) (k + 1) (upto_at s k) s in
    rw (g, e) (stops c (f (item_at s k b)) (sum_of f rest) ∙ (rw (turn m k 0 b s h) at q))

pub sum_done : (f : Item → ℕ) (m k b c t : ℕ) (s : List ℕ) → m ≤ k → c ≤ largest → min (c + sum_of f (items_from (m - k) k b s)) largest ≡ t → c ≡ t
sum_done f m k b c t s h l q =
    let z : min (c + 0) largest ≡ t = rw (done m k 0 b s h).2 at q in
    omega arith

-- ---- item i of n from item k on
-- the sum before it
abbrev before_from : ℕ → (k b : ℕ) → List ℕ → ℕ
before_from zero k b s = b
before_from (suc i) k b s = before_from i (suc k) (upto_at s k) s

before_last : (i k b : ℕ) (s : List ℕ) → before_from (suc i) k b s ≡ upto_at s (k + i)
before_last zero k b s = let z : k + 0 ≡ k = omega arith in rw z
before_last (suc i) k b s = before_last i (suc k) (upto_at s k) s ∙ (let z : suc k + i ≡ k + suc i = omega arith in rw z)

before_is : (i k b : ℕ) (s : List ℕ) → before_from i k b s ≡ cond (eqb i 0) b (upto_at s (k + i - 1))
before_is zero k b s = refl
before_is (suc i) k b s = let z : k + suc i - 1 ≡ k + i = omega arith in rw (ne_eqb (suc i) 0 (omega arith), z) (before_last i k b s)

at_place : (p n k b i : ℕ) (s : List ℕ) → i < n → shown_item p (item_at s (k + i) (before_from i k b s)) ≡ get_or (map (shown_item p) (items_from n k b s)) i no_item
at_place p zero k b i s h = absurd (omega arith)
at_place p (suc n) k b zero s h = let z : k + 0 ≡ k = omega arith in rw z
at_place p (suc n) k b (suc i) s h =
    let z : k + suc i ≡ suc k + i = omega arith in
    rw z (at_place p n (suc k) (upto_at s k) i s (omega arith))

pub open_at : (l : Ledger) (i : ℕ) → i < l.made - l.closed → shown_item (credits_by l) (item_at l.ring (l.closed + i) (sum_before l i))
    ≡ get_or (open_by l) i no_item
open_at l i h = rw (before_is i l.closed l.below l.ring) at (at_place (credits_by l) (l.made - l.closed) l.closed l.below i l.ring h)

pub past_open : (l : Ledger) (i : ℕ) → l.made - l.closed ≤ i → no_item ≡ get_or (open_by l) i no_item
past_open l i h = sym (get_or-eq_default (open_by l) no_item {n = i} (rw (length-map, many) h))
