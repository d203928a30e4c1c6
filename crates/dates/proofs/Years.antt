-- The two hundred years as numbers: the first day of each, and which are leap years. The checker computes it for each year.
use Prim.Native.Nat.{ℕ, zero, suc, ◌+◌, ◌*◌, ◌/◌, ◌%◌, ◌<◌, ◌≤◌}
use mathlib.Core.Path.{◌≡◌, refl}
use mathlib.Core.Bool.{Bool, true, false, cond, not, ◌&&◌}
use native.Mathlib.Omega.{arith}
use native.Mathlib.Nat.{not-suc-le-zero}
use lib.Dec.{eqb, ltb}
use borrow.Author.Tests.{eqb-true, lt-ltb, le-ltb}
use Rattle.std.proofs.lemmas.Bool.{and_parts}
use Rattle.basics.proofs.Cases.{on_eq}
use Rattle.rules.specs.Dates.{leap, year_length, days_of_years}

-- a test of every number below n
abbrev all_below : (ℕ → Bool) → ℕ → Bool
all_below p zero = true
all_below p (suc n) = p n && all_below p n

one_of : (p : ℕ → Bool) (n k : ℕ) → k < n → all_below p n ≡ true → p k ≡ true
one_of p zero k h e = absurd (not-suc-le-zero h)
one_of p (suc n) k h e =
    on_eq k n
    (λ q z. rw z (and_parts (p n) (all_below p n) e).0)
    (λ q z. one_of p n k (omega arith) (and_parts (p n) (all_below p n) e).1)

abbrev pub bit : Bool → ℕ
bit b = cond b 1 0

-- year 2000 + k begins after 365 days for each year before it and a day for every fourth, but for 2100;
-- it is a leap year where 4 divides k, but for 100
begins : ℕ → Bool
begins k = eqb (days_of_years k 2000 + bit (ltb 100 k)) (365 * k + (k + 3) / 4)

leaps : ℕ → Bool
leaps k = eqb (bit (leap (2000 + k))) (bit (eqb (k % 4) 0 && not (eqb k 100)))

all_right : all_below (λ k. begins k && leaps k) 200 ≡ true
unfolding leap year_length begins leaps
all_right = refl

-- the same of leap years, in facts and not in tests
fourth : (k : ℕ) (b : Bool) → bit b ≡ bit (eqb (k % 4) 0 && not (eqb k 100)) → (b ≡ true → (k % 4 ≡ 0) × (k ≡ 100 → ⊥)) × (b ≡ false → k % 4 ≡ 0 → k ≡ 100)
fourth k b l =
    on_eq (k % 4) 0
    (λ q z.
    on_eq k 100
    (λ p x. let m : bit b ≡ 0 = rw (q, p) at l in (λ e. absurd (let n : 1 ≡ 0 = rw e at m in omega arith), λ e f. x))
    (λ p x. let m : bit b ≡ 1 = rw (q, p) at l in (λ e. (z, x), λ e f. absurd (let n : 0 ≡ 1 = rw e at m in omega arith))))
    (λ q z. let m : bit b ≡ 0 = rw q at l in (λ e. absurd (let n : 1 ≡ 0 = rw e at m in omega arith), λ e f. absurd (z f)))

-- the same in facts that omega reads
pub record Known (k : ℕ) : Type 0 where
  pub early : k ≤ 100 → days_of_years k 2000 ≡ 365 * k + (k + 3) / 4
  pub late : 100 < k → days_of_years k 2000 + 1 ≡ 365 * k + (k + 3) / 4
  pub leap_is : leap (2000 + k) ≡ true → (k % 4 ≡ 0) × (k ≡ 100 → ⊥)
  pub common_is : leap (2000 + k) ≡ false → k % 4 ≡ 0 → k ≡ 100

pub known : (k : ℕ) → k < 200 → Known k
unfolding begins leaps
known k h =
    let e = one_of (λ k. begins k && leaps k) 200 k h all_right in
    let b : days_of_years k 2000 + bit (ltb 100 k) ≡ 365 * k + (k + 3) / 4 = eqb-true _ _ (and_parts (begins k) (leaps k) e).0 in
    let l : bit (leap (2000 + k)) ≡ bit (eqb (k % 4) 0 && not (eqb k 100)) = eqb-true _ _ (and_parts (begins k) (leaps k) e).1 in
    let r = fourth k (leap (2000 + k)) l in
    record {
      early = λ z. let c = rw (le-ltb 100 k z) at b in omega arith;
      late = λ z. let c = rw (lt-ltb 100 k z) at b in omega arith;
      leap_is = r.0;
      common_is = r.1;
    }
