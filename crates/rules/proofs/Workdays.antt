-- Working days are counted over the days of the calendar alone: n and t may lie before it or after it, and be as far apart as days can be.
use Prim.Native.Nat.{ℕ, zero, suc, ◌+◌, ◌-◌, ◌≤◌, ◌<◌, min, max}
use mathlib.Core.Path.{◌≡◌, refl, sym, ◌∙◌}
use mathlib.Core.Bool.{Bool, true, false, cond}
use native.Mathlib.Numerals.{unary_clauses}
use native.Mathlib.Omega.{arith}
use borrow.Author.Tests.{le-leb, lt-leb, lt-ltb, le-ltb}
use Rattle.basics.proofs.Cases.{on_le}
use Rattle.rules.specs.declared.Calendar.{Calendar}
use Rattle.rules.specs.Limits.{calendar_days}
use Rattle.rules.specs.Workdays.{bit_in, working, how_many, working_days}

-- ---- counts over days in a row
one_le : (b : Bool) → cond b 1 0 ≤ 1
one_le true = omega arith
one_le false = omega arith

next : (a i : ℕ) → suc a + i ≡ a + suc i
next a i = omega arith

-- days that pass alike
pub how_many_along : (p q : ℕ → Bool) (n a b : ℕ) → ((i : ℕ) → i < n → p (a + i) ≡ q (b + i)) → how_many p a n ≡ how_many q b n
how_many_along p q zero a b h = refl
how_many_along p q (suc n) a b h =
    let z : p a ≡ q b = simp unary_clauses at (h 0 (omega arith)) in
    rw (z, how_many_along p q n (suc a) (suc b) (λ i l. rw (next a i, next b i) (h (suc i) (omega arith))))

module _ (p : ℕ → Bool) where
  -- no more than there are days
  pub how_many_le : (n a : ℕ) → how_many p a n ≤ n
  how_many_le zero a = omega arith
  how_many_le (suc n) a = omega (arith, one_le (p a), how_many_le n (suc a))

  -- the first m days, and the n after them
  pub how_many_split : (m n a : ℕ) → how_many p a (m + n) ≡ how_many p a m + how_many p (a + m) n
  how_many_split zero n a =
      let e : 0 + n ≡ n = omega arith in
      let f : a + 0 ≡ a = omega arith in
      rw (e, f) (omega arith)
  how_many_split (suc m) n a =
      let e : suc m + n ≡ suc (m + n) = omega arith in
      let f : a + suc m ≡ suc a + m = omega arith in
      rw (e, f) (omega (arith, how_many_split m n (suc a)))

  none_pass : (n a : ℕ) → ((i : ℕ) → i < n → p (a + i) ≡ false) → how_many p a n ≡ 0
  none_pass zero a h = refl
  none_pass (suc n) a h =
      let z : p a ≡ false = simp unary_clauses at (h 0 (omega arith)) in
      rw (z, none_pass n (suc a) (λ i l. rw (next a i) (h (suc i) (omega arith))))

  -- of the days from a to the one before e: where none before b passes, those from b on; where none from b on passes, those before b
  none_before : (a b e : ℕ) → ((d : ℕ) → d < b → p d ≡ false) → how_many p a (e - a) ≡ how_many p (max a b) (e - max a b)
  none_before a b e h =
      on_le b a
      (λ q l. let m : max a b ≡ a = omega arith in rw m)
      (λ q l. on_le e b
      (λ r k.
      let z : e - max a b ≡ 0 = omega arith in
      rw z (none_pass (e - a) a (λ i j. h (a + i) (omega arith))))
      (λ r k.
      let m : max a b ≡ b = omega arith in
      let s : e - a ≡ (b - a) + (e - b) = omega arith in
      let t : a + (b - a) ≡ b = omega arith in
      rw (m, s, how_many_split (b - a) (e - b) a, none_pass (b - a) a (λ i j. h (a + i) (omega arith)), t) (omega arith)))

  none_from : (a b e : ℕ) → ((d : ℕ) → b ≤ d → p d ≡ false) → how_many p a (e - a) ≡ how_many p a (min e b - a)
  none_from a b e h =
      on_le e b
      (λ q l. let m : min e b ≡ e = omega arith in rw m)
      (λ q l. on_le b a
      (λ r k.
      let z : min e b - a ≡ 0 = omega arith in
      rw z (none_pass (e - a) a (λ i j. h (a + i) (omega arith))))
      (λ r k.
      let m : min e b ≡ b = omega arith in
      let s : e - a ≡ (b - a) + (e - b) = omega arith in
      let t : a + (b - a) ≡ b = omega arith in
      rw (m, s, how_many_split (b - a) (e - b) a, t, none_pass (e - b) b (λ i j. h (b + i) (omega arith))) (omega arith)))

-- ---- the bounds: from max (n + 1) first to the day before min (t + 1) (first + 2,048), and both less first
later : (a first : ℕ) → max a first ≡ first + (a - first)
later a first = omega arith

clipped : (first lo e : ℕ) → min e (first + calendar_days) - (first + lo) ≡ min (e - first) calendar_days - lo
clipped first lo e = omega arith

past : (n t : ℕ) → t - n ≡ t + 1 - (n + 1)
past n t = omega arith

module _ (c : Calendar) where
  -- ---- a day before the calendar, in it, after it
  before : (d : ℕ) → d < c.first → working c d ≡ false
  unfolding working
  before d l = rw (lt-leb c.first d l)

  inside : (k : ℕ) → k < calendar_days → working c (c.first + k) ≡ bit_in c.bits k
  unfolding working
  inside k l =
      let e : c.first + k - c.first ≡ k = omega arith in
      rw (le-leb c.first (c.first + k) (omega arith), lt-ltb (c.first + k) (c.first + calendar_days) (omega arith), e)

  after : (d : ℕ) → c.first + calendar_days ≤ d → working c d ≡ false
  unfolding working
  after d l = rw (le-leb c.first d (omega arith), le-ltb d (c.first + calendar_days) l)

  -- days of the calendar, by their numbers in it
  numbered : (lo hi : ℕ) → hi ≤ calendar_days → how_many (working c) (c.first + lo) (hi - lo) ≡ how_many (bit_in c.bits) lo (hi - lo)
  numbered lo hi h =
      how_many_along (working c) (bit_in c.bits) (hi - lo) (c.first + lo) lo
      (λ i l. let e : c.first + lo + i ≡ c.first + (lo + i) = omega arith in rw e (inside (lo + i) (omega arith)))

  to_end : (n t : ℕ) → how_many (bit_in c.bits) (n + 1 - c.first) (min (t + 1 - c.first) calendar_days - (n + 1 - c.first)) ≡ working_days c n t
  unfolding working_days
  to_end n t =
      rw (
        past n t,
        none_before (working c) (n + 1) c.first (t + 1) before,
        later (n + 1) c.first,
        none_from (working c) (c.first + (n + 1 - c.first)) (c.first + calendar_days) (t + 1) after,
        clipped c.first (n + 1 - c.first) (t + 1),
        numbered (n + 1 - c.first) (min (t + 1 - c.first) calendar_days) (omega arith),
      )

  -- of an n past the calendar's last day it does not matter how far: none of its days is left
  no_later : (a e : ℕ) → how_many (bit_in c.bits) (min a calendar_days) (min e calendar_days - min a calendar_days)
      ≡ how_many (bit_in c.bits) a (min e calendar_days - a)
  no_later a e =
      on_le a calendar_days
      (λ q l. let m : min a calendar_days ≡ a = omega arith in rw m)
      (λ q l.
      let y : min e calendar_days - min a calendar_days ≡ 0 = omega arith in
      let z : min e calendar_days - a ≡ 0 = omega arith in
      rw (y, z))

  -- the law of the days, for every n and t
  pub counted : (n t : ℕ) → working_days c n t
      ≡ how_many (bit_in c.bits) (min (n + 1 - c.first) calendar_days) (min (t + 1 - c.first) calendar_days - min (n + 1 - c.first) calendar_days)
  counted n t = sym (no_later (n + 1 - c.first) (t + 1 - c.first) ∙ to_end n t)

  -- so no more are counted than there are days
  pub counted_few : (n t : ℕ) → working_days c n t ≤ calendar_days
  counted_few n t =
      let lo : ℕ = min (n + 1 - c.first) calendar_days in
      omega (arith, counted n t, how_many_le (bit_in c.bits) (min (t + 1 - c.first) calendar_days - lo) lo)
