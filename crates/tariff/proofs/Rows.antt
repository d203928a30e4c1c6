-- Laws of the lines of a usage and of the energy sum, over any row of blocks.
use Prim.Native.Nat.{ℕ, zero, suc, ◌+◌, ◌*◌, ◌-◌, ◌≤◌, ◌<◌, min}
use mathlib.Core.Path.{◌≡◌, refl, ap, sym, ◌∙◌}
use mathlib.Core.Bool.{Bool, true, ◌&&◌}
use mathlib.Core.List.{List, [], ◌∷◌, map}
use native.Mathlib.Nat.{mul-add, mul-le-mul_right, not-suc-le-zero, le_of_suc-le-suc}
use native.Mathlib.Omega.{arith}
use lib.Dec.{leb, ltb}
use lib.ListN.{length, get_or, length-map}
use borrow.Author.Tests.{leb-true, ltb-true}
use Rattle.basics.proofs.Cases.{links}
use Rattle.rules.specs.declared.Block.{Block}
use Rattle.rules.specs.declared.Line.{Line}
use Rattle.rules.specs.Limits.{most_usage}
use Rattle.rules.specs.Tariff.{limit_of, price_of, lines_from, energy_of, no_line}
use Rattle.tariff.specs.Blocks.{start_of}

-- a list is as long as its image: for an array of structs, `search (rules, length_of)`
pub length_of : (A B : Type 0) (f : A → B) (l : List A) (n : ℕ) → length (map f l) ≡ n → length l ≡ n
length_of A B f l n e = sym (length-map l f) ∙ e

-- a line for each block
pub lines_length : (from : ℕ) (row : List Block) (usage : ℕ) → length (lines_from from row usage) ≡ length row
lines_length from [] usage = refl
lines_length from (b ∷ row) usage = ap suc (lines_length (limit_of b) row usage)

-- ---- for the reader: where a block begins, and its line, in a row of any length
abbrev pub zero_block : Block
zero_block = record { limit = 0; price = 0 }

start_next : (row : List Block) (i : ℕ) → i < length row → start_of row (suc i) ≡ limit_of (get_or row i zero_block)
start_next [] i l = absurd (not-suc-le-zero l)
start_next (b ∷ row) zero l = refl
start_next (b ∷ row) (suc i) l = start_next row i (le_of_suc-le-suc l)

-- a block other than the first begins at the limit of the one before it
pub start_at : (row : List Block) (i : ℕ) → 0 < i → i ≤ length row → start_of row i ≡ limit_of (get_or row (i - 1) zero_block)
start_at row zero h l = absurd (not-suc-le-zero h)
start_at row (suc i) h l = let z : suc i - 1 ≡ i = omega arith in start_next row i l ∙ rw z

line_from : (from : ℕ) (row : List Block) (usage i : ℕ) → i < length row
    → get_or (lines_from from row usage) i no_line
    ≡ record { used = min usage (limit_of (get_or row i zero_block)) - get_or (from ∷ map limit_of row) i 0; price = price_of (get_or row i zero_block) }
line_from from [] usage i l = absurd (not-suc-le-zero l)
line_from from (b ∷ row) usage zero l = refl
line_from from (b ∷ row) usage (suc i) l = line_from (limit_of b) row usage i (le_of_suc-le-suc l)

-- line i: from where its block begins up to its limit
pub line_at : (row : List Block) (usage i : ℕ) → i < length row
    → get_or (lines_from 0 row usage) i no_line
    ≡ record { used = min usage (limit_of (get_or row i zero_block)) - start_of row i; price = price_of (get_or row i zero_block) }
line_at row usage i l = line_from 0 row usage i l

-- ---- growth
-- a row that grows with every kilowatt-hour: the limits rise up to the most usage, each price is at least 100
abbrev pub steep_from : ℕ → List Block → Bool
steep_from from [] = leb most_usage from
steep_from from (b ∷ row) = ltb from (limit_of b) && leb 100 (price_of b) && steep_from (limit_of b) row

steep_parts : (from : ℕ) (b : Block) (row : List Block) → steep_from from (b ∷ row) ≡ true
    → (from < limit_of b) × (100 ≤ price_of b) × (steep_from (limit_of b) row ≡ true)
steep_parts from b row s =
    let f = links (ltb from (limit_of b)) (leb 100 (price_of b) ∷ steep_from (limit_of b) row ∷ []) s in
    (ltb-true from (limit_of b) f.0, leb-true 100 (price_of b) f.1.0, f.1.1.0)

-- the part of a usage in a block and what lies above the block are the usage from the block's start
parts : (from to u : ℕ) → from < to → (min u to - from) + (u - to) ≡ u - from
parts from to u l = omega arith

-- one block more: a and b are the parts in it of two usages, a' and b' what lies above it
block_more : (p a b a' b' a'' b'' e e' : ℕ) → 100 ≤ p → a ≤ b → a + a' ≡ a'' → b + b' ≡ b'' → e + 100 * b' ≤ e' + 100 * a'
    → p * a + e + 100 * b'' ≤ p * b + e' + 100 * a''
block_more p a b a' b' a'' b'' e e' h l x y r =
    let z : b ≡ a + (b - a) = omega arith in
    let m : p * b ≡ p * a + p * (b - a) = ap (λ n. p * n) z ∙ mul-add p a (b - a) in
    omega (arith, mul-le-mul_right (b - a) h)

module _ (u v : ℕ) (l : u ≤ v) (m : v ≤ most_usage) where
  -- each kilowatt-hour more is at least 100 hundredths of a cent more
  pub growth : (from : ℕ) (row : List Block) → steep_from from row ≡ true
      → energy_of (lines_from from row u) + 100 * (v - from) ≤ energy_of (lines_from from row v) + 100 * (u - from)
  growth from [] s = omega (arith, leb-true most_usage from s)
  growth from (b ∷ row) s =
      let f = steep_parts from b row s in
      block_more (price_of b) (min u (limit_of b) - from) (min v (limit_of b) - from) (u - limit_of b) (v - limit_of b) (u - from) (v - from)
      (energy_of (lines_from (limit_of b) row u)) (energy_of (lines_from (limit_of b) row v)) f.1 (omega arith) (parts from (limit_of b) u f.0)
      (parts from (limit_of b) v f.0) (growth (limit_of b) row f.2)

-- ---- the whole usage is in the lines, in order
-- a usage that ends where a row begins has nothing in it
empty : (from : ℕ) (row : List Block) (u i : ℕ) → steep_from from row ≡ true → u ≤ from → (get_or (lines_from from row u) i no_line).used ≡ 0
empty from [] u i s l = refl
empty from (b ∷ row) u zero s l = omega arith
empty from (b ∷ row) u (suc i) s l =
    let f = steep_parts from b row s in
    empty (limit_of b) row u i f.2 (omega (arith, f.0))

within_start : (from to u : ℕ) → from < to → min u to - from ≡ 0 → u ≤ from
within_start from to u l z = omega arith

pub empty_behind : (from : ℕ) (row : List Block) (u i j : ℕ) → steep_from from row ≡ true → i ≤ j
    → (get_or (lines_from from row u) i no_line).used ≡ 0 → (get_or (lines_from from row u) j no_line).used ≡ 0
empty_behind from [] u i j s l z = refl
empty_behind from (b ∷ row) u zero j s l z = empty from (b ∷ row) u j s (within_start from (limit_of b) u (steep_parts from b row s).0 z)
empty_behind from (b ∷ row) u (suc i) zero s l z = absurd (not-suc-le-zero l)
empty_behind from (b ∷ row) u (suc i) (suc j) s l z = empty_behind (limit_of b) row u i j (steep_parts from b row s).2 (le_of_suc-le-suc l) z

abbrev pub used_in : List Line → ℕ
used_in [] = 0
used_in (l ∷ ls) = l.used + used_in ls

pub all_used : (from : ℕ) (row : List Block) (u : ℕ) → steep_from from row ≡ true → u ≤ most_usage → used_in (lines_from from row u) ≡ u - from
all_used from [] u s m = omega (arith, leb-true most_usage from s)
all_used from (b ∷ row) u s m =
    let f = steep_parts from b row s in
    ap (λ n. (min u (limit_of b) - from) + n) (all_used (limit_of b) row u f.2 m) ∙ parts from (limit_of b) u f.0
