-- Walking months and years, and back.
use Prim.Native.Nat.{ℕ, zero, suc, ◌+◌, ◌-◌, ◌<◌, ◌≤◌}
use mathlib.Core.Path.{◌≡◌, refl, ap, ◌∙◌}
use mathlib.Core.List.{List, [], ◌∷◌}
use native.Mathlib.Omega.{arith}
use native.Mathlib.Nat.{not-suc-le-zero, le_of_suc-le-suc}
use lib.ListN.{length, take, get_or}
use borrow.Author.Tests.{lt-ltb, le-ltb}
use Rattle.basics.proofs.Cases.{on_lt}
use Rattle.rules.specs.Dates.{Date, february, days_of_months, year_length, days_of_years, date, in_months, date_in, in_years}

-- ---- months
-- where a walk of n days ends: j months further on
pub record Month (y m : ℕ) (ls : List ℕ) (n : ℕ) (d : Date) : Type 0 where
  pub j : ℕ
  pub year_is : d.year ≡ y
  pub month_is : d.month ≡ m + j
  pub inside : j < length ls
  pub day_from : 1 ≤ d.day
  pub day_to : d.day ≤ get_or ls j 0
  pub back : days_of_months (take j ls) + (d.day - 1) ≡ n

pub month_of : (y m : ℕ) (ls : List ℕ) (n : ℕ) → n < days_of_months ls → Month y m ls n (in_months y m ls n)
month_of y m [] n h = absurd (not-suc-le-zero h)
month_of y m (l ∷ ls) n h =
    on_lt n l
    (λ q z. rw q (record { j = 0; year_is = refl; month_is = omega arith; inside = omega arith; day_from = omega arith; day_to = omega arith; back = omega arith }))
    (λ q z.
    let w = month_of y (suc m) ls (n - l) (omega arith) in
    rw q
    (record { j = suc w.j; year_is = w.year_is; month_is = omega arith; inside = omega arith; day_from = w.day_from; day_to = w.day_to; back = omega (arith, w.back) }))

pub of_month : (y m : ℕ) (ls : List ℕ) (j d : ℕ) → j < length ls → 1 ≤ d → d ≤ get_or ls j 0 → in_months y m ls (days_of_months (take j ls) + (d - 1)) ≡ date y (m + j) d
of_month y m [] j d i f t = absurd (not-suc-le-zero i)
of_month y m (l ∷ ls) zero d i f t =
    let a : m ≡ m + 0 = omega arith in
    let b : 0 + (d - 1) + 1 ≡ d = omega arith in
    rw (lt-ltb (0 + (d - 1)) l (omega arith)) (λ x. record { year = y; month = a x; day = b x })
of_month y m (l ∷ ls) (suc j) d i f t =
    let a : l + days_of_months (take j ls) + (d - 1) - l ≡ days_of_months (take j ls) + (d - 1) = omega arith in
    let b : suc m + j ≡ m + suc j = omega arith in
    rw (le-ltb (l + days_of_months (take j ls) + (d - 1)) l (omega arith))
    (ap (λ z. in_months y (suc m) ls z) a ∙ (of_month y (suc m) ls j d (le_of_suc-le-suc i) f t ∙ ap (λ z. date y z d) b))

-- ---- years
pub length_is : (y : ℕ) → year_length y ≡ 337 + february y
unfolding year_length
length_is y = omega arith

-- where a walk of n days ends: r days into the year that lies j years further on
pub record Year (k y n : ℕ) : Type 0 where
  pub j : ℕ
  pub r : ℕ
  pub year : ℕ
  pub year_is : year ≡ y + j
  pub inside : j ≤ k
  pub in_year : r < year_length year
  pub back : days_of_years j y + r ≡ n
  pub date_is : in_years k y n ≡ date_in year r

pub year_of : (k y n : ℕ) → n < days_of_years (suc k) y → Year k y n
year_of zero y n h = record { j = 0; r = n; year = y; year_is = omega arith; inside = omega arith; in_year = omega arith; back = omega arith; date_is = refl }
year_of (suc k) y n h =
    on_lt n (year_length y)
    (λ q z. record { j = 0; r = n; year = y; year_is = omega arith; inside = omega arith; in_year = z; back = omega arith; date_is = rw q })
    (λ q z.
    let w = year_of k (suc y) (n - year_length y) (omega arith) in
    record { j = suc w.j; r = w.r; year = w.year; year_is = omega arith; inside = omega arith; in_year = w.in_year; back = omega (arith, w.back); date_is = rw q w.date_is })

pub of_year : (k y j r year : ℕ) → year ≡ y + j → j ≤ k → r < year_length year → in_years k y (days_of_years j y + r) ≡ date_in year r
of_year zero y zero r year e i h =
    let a : 0 + r ≡ r = omega arith in
    let b : y ≡ year = omega arith in
    cc
of_year zero y (suc j) r year e i h = absurd (not-suc-le-zero i)
of_year (suc k) y zero r year e i h =
    let a : 0 + r ≡ r = omega arith in
    let b : y ≡ year = omega arith in
    let c : r < year_length y = rw b h in
    rw (lt-ltb (0 + r) (year_length y) (omega arith)) cc
of_year (suc k) y (suc j) r year e i h =
    let a : year_length y + days_of_years j (suc y) + r - year_length y ≡ days_of_years j (suc y) + r = omega arith in
    rw (le-ltb (year_length y + days_of_years j (suc y) + r) (year_length y) (omega arith))
    (ap (λ z. in_years k (suc y) z) a ∙ of_year k (suc y) j r year (omega arith) (le_of_suc-le-suc i) h)
