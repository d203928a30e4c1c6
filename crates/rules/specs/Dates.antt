-- Dates by the Gregorian calendar, as one on a wall says them, and the same date one year later (document 02, ticket 7). Day 0 is 1 January 2000.
use Rattle.std.specs.Prelude.{ℕ, zero, suc, ◌+◌, ◌-◌, ◌%◌, Bool, false, cond, not, ◌&&◌, ◌||◌, List, [], ◌∷◌, leb, ltb, eqb, take, Option, Some, None}

pub record Date : Type 0 where
  pub year : ℕ
  pub month : ℕ
  pub day : ℕ

abbrev pub date : ℕ → ℕ → ℕ → Date
date y m d = record { year = y; month = m; day = d }

-- the years of document 01's days
abbrev pub first_year : ℕ
first_year = 2000

abbrev pub last_year : ℕ
last_year = 2199

-- every fourth year is a leap year, but of the full hundreds only every fourth
unfoldable pub leap : ℕ → Bool
leap y = eqb (y % 4) 0 && (not (eqb (y % 100) 0) || eqb (y % 400) 0)

abbrev pub february : ℕ → ℕ
february y = cond (leap y) 29 28

-- the lengths of a year's months, January to December
abbrev pub months : ℕ → List ℕ
months y = 31 ∷ february y ∷ 31 ∷ 30 ∷ 31 ∷ 30 ∷ 31 ∷ 31 ∷ 30 ∷ 31 ∷ 30 ∷ 31 ∷ []

-- the days of months in a row, added up
abbrev pub days_of_months : List ℕ → ℕ
days_of_months [] = 0
days_of_months (l ∷ more) = l + days_of_months more

-- a year's length
unfoldable pub year_length : ℕ → ℕ
year_length y = days_of_months (months y)

-- the days of the n years from y on, added up
abbrev pub days_of_years : ℕ → ℕ → ℕ
days_of_years zero y = 0
days_of_years (suc n) y = year_length y + days_of_years n (suc y)

-- ---- the day of a date
-- in its year: the days of the months before it, and in its month those before it
abbrev pub days_before : Date → ℕ
days_before d = days_of_months (take (d.month - 1) (months d.year)) + (d.day - 1)

-- and those of the years before it
abbrev pub day_of : Date → ℕ
day_of d = days_of_years (d.year - first_year) first_year + days_before d

-- ---- the date of a day: years are turned over, and then months
-- n days after the first of month m, where the months from it on have these lengths; past the last of them in a month that no year has
abbrev pub in_months : ℕ → ℕ → List ℕ → ℕ → Date
in_months y m [] n = date y m (n + 1)
in_months y m (l ∷ more) n = cond (ltb n l) (date y m (n + 1)) (in_months y (suc m) more (n - l))

-- n days after 1 January of year y, in that year
unfoldable pub date_in : ℕ → ℕ → Date
date_in y n = in_months y 1 (months y) n

-- the same, in y or in one of the k years after it
abbrev pub in_years : ℕ → ℕ → ℕ → Date
in_years zero y n = date_in y n
in_years (suc k) y n = cond (ltb n (year_length y)) (date_in y n) (in_years k (suc y) (n - year_length y))

unfoldable pub date_of : ℕ → Date
date_of n = in_years (last_year - first_year) first_year n

-- ---- the same date one year later
abbrev pub is_29_february : Date → Bool
is_29_february d = eqb d.month 2 && eqb d.day 29

-- of a 29 February it is 1 March
abbrev pub next_year : Date → Date
next_year d = cond (is_29_february d) (date (suc d.year) 3 1) (date (suc d.year) d.month d.day)

-- the day of a date, none if it lies after 31 December 2199
abbrev pub in_time : Date → Option ℕ
in_time d = cond (ltb last_year d.year) None (Some (day_of d))

-- the day of the same date one year after day n
unfoldable pub year_later : ℕ → Option ℕ
year_later n = in_time (next_year (date_of n))

-- by day t that day has come; where there is none, never
abbrev pub has_come : Option ℕ → ℕ → Bool
has_come None t = false
has_come (Some d) t = leb d t
