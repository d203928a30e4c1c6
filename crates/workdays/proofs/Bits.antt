-- The count of ones of a word that is masked and shifted is the number of its set bits in a range, and words in a row make the calendar's.
use Prim.Native.Nat.{ℕ, zero, suc, ◌+◌, ◌-◌, ◌*◌, ◌/◌, ◌%◌, ◌^◌, ◌≤◌, ◌<◌, min}
use mathlib.Core.Path.{◌≡◌, refl, sym, ap, ◌∙◌}
use mathlib.Core.Bool.{cond}
use mathlib.Core.List.{List}
use native.Mathlib.Nat.{mod-one, mod-lt, div-eq_of_lt}
use native.Mathlib.Numerals.{add-one}
use native.Mathlib.Omega.{arith}
use lib.Bits.{bit_and, and_mask}
use lib.Count.{ones, ones_step}
use lib.Dec.{eqb}
use lib.ListN.{get_or}
use lib.Pow.{pow_pos, pow_mono, shr-shr, field, mod-mod-pow, ones_split, ones_lt, high}
use Rattle.basics.specs.Machine.{largest}
use Rattle.basics.proofs.Cases.{on_le}
use Rattle.rules.specs.Workdays.{bit_set, bit_in, how_many}
use Rattle.rules.proofs.Workdays.{how_many_along, how_many_split}

ones_zero : ones 0 ≡ 0
unfolding ones
ones_zero = refl

-- a bit counts itself
bit : (b : ℕ) → b < 2 → b ≡ cond (eqb b 1) 1 0
bit zero h = refl
bit (suc zero) h = refl
bit (suc (suc b)) h = absurd (omega arith)

-- the ones among the n + 1 low bits: the lowest bit, and those among the n bits above it
low_step : (n x : ℕ) → ones (x % 2 ^ suc n) ≡ x % 2 + ones (x / 2 % 2 ^ n)
low_step n x =
    let e : x % 2 ^ suc n % 2 ≡ x % 2 = ap (λ k. x % 2 ^ k % 2) (sym (add-one n)) ∙ mod-mod-pow x n 1 in
    let f : x % 2 ^ suc n / 2 ≡ x / 2 % 2 ^ n = ap (λ k. x % 2 ^ k / 2) (sym (add-one n)) ∙ field x n 1 in
    ones_step (x % 2 ^ suc n) ∙ rw (e, f)

-- the law of the bits: shift by a, keep n bits, count the ones: the set bits among a to a + n - 1
ones_range : (word n a : ℕ) → ones (word / 2 ^ a % 2 ^ n) ≡ how_many (bit_set word) a n
unfolding bit_set
ones_range word zero a = ap ones (mod-one (word / 2 ^ a)) ∙ ones_zero
ones_range word (suc n) a =
    let s : word / 2 ^ a / 2 ≡ word / 2 ^ suc a = shr-shr word a 1 ∙ ap (λ k. word / 2 ^ k) (add-one a) in
    let b = bit (word / 2 ^ a % 2) (omega arith) in
    low_step n (word / 2 ^ a) ∙ rw (s, ones_range word n (suc a)) (ap (λ x. x + how_many (bit_set word) (suc a) n) b)

-- 64 set bits, shifted down until n are left
mask : (n : ℕ) → n ≤ 64 → largest / 2 ^ (64 - n) ≡ 2 ^ n - 1
mask n h =
    let k : ℕ = 64 - n in
    let e : 64 ≡ n + k = omega arith in
    ap (λ w. (2 ^ w - 1) / 2 ^ k) e ∙ ap (λ x. x / 2 ^ k) (ones_split n k) ∙ high (2 ^ n - 1) k (ones_lt k)

-- the bits from a to the one before b
cut_out : (word a b : ℕ) → ones (word % 2 ^ b / 2 ^ a) ≡ how_many (bit_set word) a (b - a)
cut_out word a b =
    on_le a b
    (λ q l. let e : b ≡ (b - a) + a = omega arith in
    ap (λ k. ones (word % 2 ^ k / 2 ^ a)) e ∙ ap ones (field word (b - a) a) ∙ ones_range word (b - a) a)
    (λ q l. let z : b - a ≡ 0 = omega arith in
    let m : 2 ^ b ≤ 2 ^ a = pow_mono (omega arith) in
    let s : word % 2 ^ b < 2 ^ a = omega (arith, mod-lt word (pow_pos b)) in
    rw (z, div-eq_of_lt s) ones_zero)

-- the same as the code writes it
pub masked : (word a b : ℕ) → b ≤ 64 → ones (bit_and word (largest / 2 ^ (64 - b)) / 2 ^ a) ≡ how_many (bit_set word) a (b - a)
masked word a b h = rw (mask b h, and_mask word b) (cut_out word a b)

-- days that lie in one word
in_word : (words : List ℕ) (k a n : ℕ) → a + n ≤ 64 → how_many (bit_set (get_or words k 0)) a n ≡ how_many (bit_in words) (64 * k + a) n
unfolding bit_in
in_word words k a n h =
    how_many_along (bit_set (get_or words k 0)) (bit_in words) n a (64 * k + a)
    (λ i l.
    let w : (64 * k + a + i) / 64 ≡ k = omega arith in
    let b : (64 * k + a + i) % 64 ≡ a + i = omega arith in
    rw (w, b))

-- the days before a word and those in it, the first of whose 64 days is `day`, and where these begin
ends : (lo hi day : ℕ) → day < hi → min hi (day + 64) - lo ≡ min hi day - lo + (min (hi - day) 64 - (lo - day))
ends lo hi day l =
    on_le lo day
    (λ q m. omega arith)
    (λ q m. omega arith)

begins : (lo hi day : ℕ) → day < hi → lo + (min hi day - lo) ≡ day + (lo - day)
begins lo hi day l = omega arith

fits : (a b : ℕ) → a < 64 → a + (min b 64 - a) ≤ 64
fits a b l = omega arith

-- a turn of the loop: the days from lo on that lie before word k, and those that lie in it, are those that lie before the next
pub turn : (words : List ℕ) (lo hi k : ℕ) → lo / 64 ≤ k → k < hi / 64 + min 1 (hi % 64)
    → how_many (bit_in words) lo (min hi (64 * (k + 1)) - lo)
    ≡ how_many (bit_in words) lo (min hi (64 * k) - lo) + how_many (bit_set (get_or words k 0)) (lo - 64 * k) (min (hi - 64 * k) 64 - (lo - 64 * k))
turn words lo hi k l h =
    let d : 64 * k < hi = omega arith in
    let e : 64 * (k + 1) ≡ 64 * k + 64 = omega arith in
    let before = min hi (64 * k) - lo in
    let from = lo - 64 * k in
    let n = min (hi - 64 * k) 64 - from in
    rw (e, ends lo hi (64 * k) d, how_many_split (bit_in words) before n lo, begins lo hi (64 * k) d, in_word words k from n (fits from (hi - 64 * k) (omega arith)))
