-- The day of a date and the date of a day are inverse to one another, on every day from 0 to the last and every date on the wall.
use Prim.Native.Nat.{ℕ, zero, suc, ◌+◌, ◌-◌, ◌<◌, ◌≤◌}
use mathlib.Core.Path.{◌≡◌, refl, ap, ◌∙◌}
use mathlib.Core.List.{List, [], ◌∷◌}
use native.Mathlib.Omega.{arith}
use native.Mathlib.Nat.{not-suc-le-zero, le_of_suc-le-suc}
use lib.ListN.{length, take, get_or}
use Rattle.rules.specs.Limits.{final_day}
use Rattle.rules.specs.Dates.{Date, date, leap, months, days_of_months, year_length, days_of_years, days_before, day_of, in_months, date_in, date_of}
use Rattle.dates.proofs.Walk.{month_of, of_month, Year, year_of, of_year}

-- ---- a date that stands on the calendar
pub record OnWall (d : Date) : Type 0 where
  pub from_2000 : 2000 ≤ d.year
  pub to_2199 : d.year ≤ 2199
  pub month_from : 1 ≤ d.month
  pub month_to : d.month ≤ 12
  pub day_from : 1 ≤ d.day
  pub day_to : d.day ≤ get_or (months d.year) (d.month - 1) 0

-- the years 2000 to 2199 have as many days as there are, from 0 to the last
pub centuries : days_of_years 200 2000 ≡ final_day + 1
unfolding leap year_length
centuries = refl

-- the year of a day
pub split : (n : ℕ) → n ≤ final_day → Year 199 2000 n
split n h = year_of 199 2000 n (rw centuries (omega arith))

-- what a date found in year y is
pub record Placed (y n : ℕ) (d : Date) : Type 0 where
  pub year_is : d.year ≡ y
  pub month_from : 1 ≤ d.month
  pub month_to : d.month ≤ 12
  pub day_from : 1 ≤ d.day
  pub day_to : d.day ≤ get_or (months d.year) (d.month - 1) 0
  pub back : days_before d ≡ n

pub placed : (y n : ℕ) → n < year_length y → Placed y n (date_in y n)
unfolding date_in year_length
placed y n h =
    let w = month_of y 1 (months y) n h in
    let d = in_months y 1 (months y) n in
    let e : d.month - 1 ≡ w.j = omega arith in
    record {
      year_is = w.year_is;
      month_from = omega arith;
      month_to = omega arith;
      day_from = w.day_from;
      day_to = rw (w.year_is, e) w.day_to;
      back = rw (w.year_is, e) w.back;
    }

-- ---- from a day to its date and back
pub date_on_wall : (n : ℕ) → n ≤ final_day → OnWall (date_of n)
unfolding date_of
date_on_wall n h =
    let w = split n h in
    let p = placed w.year w.r w.in_year in
    rw w.date_is
    (record {
      from_2000 = omega arith;
      to_2199 = omega arith;
      month_from = p.month_from;
      month_to = p.month_to;
      day_from = p.day_from;
      day_to = p.day_to;
    })

pub day_date : (n : ℕ) → n ≤ final_day → day_of (date_of n) ≡ n
unfolding date_of
day_date n h =
    let w = split n h in
    let p = placed w.year w.r w.in_year in
    let e : (date_in w.year w.r).year - 2000 ≡ w.j = omega arith in
    rw (w.date_is, e, p.back) w.back

-- ---- from a date to its day and back
below : (ls : List ℕ) (j d : ℕ) → j < length ls → 1 ≤ d → d ≤ get_or ls j 0 → days_of_months (take j ls) + (d - 1) < days_of_months ls
below [] j d i f t = absurd (not-suc-le-zero i)
below (l ∷ ls) zero d i f t = omega arith
below (l ∷ ls) (suc j) d i f t = omega (arith, below ls j d (le_of_suc-le-suc i) f t)

-- a year among others
pub within : (k y j year : ℕ) → year ≡ y + j → j ≤ k → days_of_years j y + year_length year ≤ days_of_years (suc k) y
within zero y zero year e i = let b : year ≡ y = omega arith in rw b (omega arith)
within zero y (suc j) year e i = absurd (not-suc-le-zero i)
within (suc k) y zero year e i = let b : year ≡ y = omega arith in rw b (omega arith)
within (suc k) y (suc j) year e i = omega (arith, within k (suc y) j year (omega arith) (le_of_suc-le-suc i))

module _ (d : Date) (w : OnWall d) where
  in_its_year : days_before d < year_length d.year
  unfolding year_length
  in_its_year = below (months d.year) (d.month - 1) d.day (omega arith) w.day_from w.day_to

  pub day_in_time : day_of d ≤ final_day
  day_in_time =
      let b : days_of_years (d.year - 2000) 2000 + year_length d.year ≤ final_day + 1 = rw centuries at (within 199 2000 (d.year - 2000) d.year (omega arith) (omega arith)) in
      omega (arith, in_its_year)

  pub date_day : date_of (day_of d) ≡ d
  unfolding date_of date_in
  date_day =
      let b : 1 + (d.month - 1) ≡ d.month = omega arith in
      of_year 199 2000 (d.year - 2000) (days_before d) d.year (omega arith) (omega arith) in_its_year
      ∙ of_month d.year 1 (months d.year) (d.month - 1) d.day (omega arith) w.day_from w.day_to
      ∙ ap (λ m. date d.year m d.day) b
