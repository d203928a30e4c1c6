-- The same date one year later is found by the count of days; from 1 January 2199 on there is none.
use Prim.Native.Nat.{ℕ, zero, suc, ◌+◌, ◌-◌, ◌<◌, ◌≤◌}
use mathlib.Core.Path.{◌≡◌, refl, sym, ap, ◌∙◌}
use mathlib.Core.Bool.{Bool, true, false, cond}
use mathlib.Core.List.{List, [], ◌∷◌}
use native.Mathlib.Omega.{arith}
use lib.Dec.{ltb}
use borrow.Author.Tests.{lt-ltb, le-ltb}
use Rattle.std.specs.Prelude.{Some, None}
use Rattle.basics.proofs.Cases.{on, on_le}
use Rattle.rules.specs.Limits.{final_day}
use Rattle.rules.specs.Dates.{Date, leap, months, year_length, days_of_years, days_before, in_months, date_in, in_years, date_of, is_29_february, next_year, in_time, year_later}
use Rattle.dates.proofs.Inverse.{split}
use Rattle.dates.proofs.Years.{Known, known}
use Rattle.dates.proofs.Passing.{passed, passes, counted, next}

-- ---- a day by its year
-- one year more
pub years_more : (k y : ℕ) → days_of_years (suc k) y ≡ days_of_years k y + year_length (y + k)
years_more zero y = let e : y + 0 ≡ y = omega arith in rw e (omega arith)
years_more (suc k) y = let e : suc y + k ≡ y + suc k = omega arith in omega (arith, years_more k (suc y), ap year_length e)

-- day n is day r of year 2000 + j
pub record In (n : ℕ) : Type 0 where
  pub j : ℕ
  pub r : ℕ
  pub inside : j ≤ 199
  pub in_year : r < year_length (2000 + j)
  pub back : days_of_years j 2000 + r ≡ n
  pub date_is : date_of n ≡ date_in (2000 + j) r
  pub facts : Known j

pub place : (n : ℕ) → n ≤ final_day → In n
unfolding date_of
place n h =
    let w = split n h in
    record {
      j = w.j;
      r = w.r;
      inside = w.inside;
      in_year = rw w.year_is at w.in_year;
      back = w.back;
      date_is = w.date_is ∙ ap (λ y. date_in y w.r) w.year_is;
      facts = known w.j (omega arith);
    }

pub never : (b : Bool) → (b ≡ true → ⊥) → b ≡ false
never b f = on b (λ e. absurd (f e)) (λ e. e)

-- a day of the last year is past 31 December 2198
pub not_last : (n : ℕ) (w : In n) → n ≤ 72_683 → w.j ≤ 198
not_last n w h = on_le w.j 198 (λ q z. z) (λ q z. absurd (omega (arith, w.facts.late (omega arith), w.inside, w.back)))

-- two leap years never follow one another
apart : (j : ℕ) → j ≤ 198 → leap (2000 + j) ≡ true → leap (2000 + suc j) ≡ false
apart j i e =
    never (leap (2000 + suc j))
    (λ e2.
    let a = ((known j (omega arith)).leap_is e).0 in
    let b = ((known (suc j) (omega arith)).leap_is e2).0 in
    omega arith)

-- ---- what the count of days finds is the same date one year later
until : (j r n s : ℕ) (d : Date) → j ≤ 198 → days_of_years j 2000 + r ≡ n → d.year ≡ suc (2000 + j) → days_before d + year_length (2000 + j) ≡ r + s → in_time d ≡ Some (n + s)
until j r n s d i b y a =
    let e : d.year - 2000 ≡ suc j = omega arith in
    let m = years_more j 2000 in
    rw (le-ltb 2199 d.year (omega arith), e) (ap Some (omega arith))

pub later_on : (n : ℕ) → n ≤ 72_683 → year_later n ≡ Some (n + cond (passes n) 366 365)
unfolding year_later
later_on n h =
    let w = place n (omega arith) in
    let i = not_last n w h in
    let t = next (2000 + w.j) w.r w.in_year in
    let e : suc (2000 + w.j) ≡ 2000 + suc w.j = omega arith in
    ap (λ d. in_time (next_year d)) w.date_is
    ∙ until w.j w.r n (cond (passed (leap (2000 + w.j)) (leap (suc (2000 + w.j))) w.r) 366 365) (next_year (date_in (2000 + w.j) w.r)) i w.back t.year_is (t.day_is (λ l. rw e (apart w.j i l)))
    ∙ ap (λ y. Some (n + cond (passed (leap (2000 + w.j)) (leap y) w.r) 366 365)) e
    ∙ ap (λ b. Some (n + cond b 366 365)) (sym (counted w.j w.r n i w.in_year w.back))

-- ---- from 1 January 2199 on there is none
this_year : (y m : ℕ) (ls : List ℕ) (n : ℕ) → (in_months y m ls n).year ≡ y
this_year y m [] n = refl
this_year y m (l ∷ ls) n = on (ltb n l) (λ q. rw q) (λ q. rw q (this_year y (suc m) ls (n - l)))

past_all : (k y n : ℕ) → days_of_years k y ≤ n → (in_years k y n).year ≡ y + k
unfolding date_in
past_all zero y n h = this_year y 1 (months y) n ∙ omega arith
past_all (suc k) y n h = rw (le-ltb n (year_length y) (omega arith)) (past_all k (suc y) (n - year_length y) (omega arith) ∙ omega arith)

next_is : (d : Date) → (next_year d).year ≡ suc d.year
next_is d = on (is_29_february d) (λ q. rw q) (λ q. rw q)

no_more : (d : Date) → 2199 < d.year → in_time d ≡ None
no_more d h = rw (lt-ltb 2199 d.year h)

begins_2199 : days_of_years 199 2000 ≡ 72_684
unfolding leap year_length
begins_2199 = refl

pub later_never : (n : ℕ) → 72_683 < n → year_later n ≡ None
unfolding year_later date_of
later_never n h =
    let y = past_all 199 2000 n (rw begins_2199 (omega arith)) in
    no_more (next_year (date_of n)) (omega (arith, next_is (date_of n)))
