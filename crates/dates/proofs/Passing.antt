-- A year's walk passes a 29 February, by the calendar and by the count of days.
use Prim.Native.Nat.{ℕ, suc, ◌+◌, ◌-◌, ◌*◌, ◌/◌, ◌%◌, ◌<◌, ◌≤◌}
use mathlib.Core.Path.{◌≡◌, refl, sym, ap}
use mathlib.Core.Bool.{Bool, true, false, cond, ◌&&◌, ◌||◌}
use mathlib.Core.List.{List, [], ◌∷◌}
use native.Mathlib.Omega.{arith}
use lib.Dec.{eqb, ltb, leb}
use lib.ListN.{take}
use borrow.Author.Tests.{eq-eqb, ne_eqb, lt-ltb, le-ltb, le-leb, lt-leb}
use Rattle.basics.proofs.Cases.{on, on_eq, on_lt, on_le}
use Rattle.rules.specs.Dates.{Date, date, leap, february, days_of_months, year_length, days_of_years, days_before, date_in, is_29_february, next_year}
use Rattle.dates.proofs.Walk.{Month, month_of, length_is}
use Rattle.dates.proofs.Years.{known}

-- the months' lengths from March on
abbrev from_march : List ℕ
from_march = 31 ∷ 30 ∷ 31 ∷ 30 ∷ 31 ∷ 31 ∷ 30 ∷ 31 ∷ 30 ∷ 31 ∷ []

-- whether the walk of a year from day r of a year passes a 29 February: that year's, or the next year's
abbrev pub passed : Bool → Bool → ℕ → Bool
passed true next r = ltb r 60
passed false next r = leb 59 r && next

-- ---- by the calendar
pub record Next (y r : ℕ) (d : Date) : Type 0 where
  pub is_29 : is_29_february d ≡ (eqb r 59 && leap y)
  pub year_is : (next_year d).year ≡ suc y
  pub day_is : (leap y ≡ true → leap (suc y) ≡ false) → days_before (next_year d) + year_length y ≡ r + cond (passed (leap y) (leap (suc y)) r) 366 365

january : (y r : ℕ) → r < 31 → Next y r (date y 1 (r + 1))
january y r z =
    record {
      is_29 = rw (ne_eqb r 59 (omega arith));
      year_is = refl;
      day_is =
          λ a.
          on (leap y)
          (λ e. rw (length_is, e, lt-ltb r 60 (omega arith)) (omega arith))
          (λ e. rw (length_is, e, lt-leb 59 r (omega arith)) (omega arith));
    }

in_february : (y r : ℕ) → 31 ≤ r → r - 31 < february y → Next y r (date y 2 (r - 31 + 1))
in_february y r z x =
    on_eq r 59
    (λ s t.
    on (leap y)
    (λ e.
    let k = eq-eqb (r - 31 + 1) 29 (omega arith) in
    record {
      is_29 = rw (s, e, k);
      year_is = rw k;
      day_is = λ a. rw (length_is, k, e, a e, lt-ltb r 60 (omega arith)) (omega arith);
    })
    (λ e. absurd (let f : r - 31 < 28 = rw e at x in omega arith)))
    (λ s t.
    let k = ne_eqb (r - 31 + 1) 29 (omega arith) in
    record {
      is_29 = rw (s, k);
      year_is = rw k;
      day_is =
          λ a.
          rw (length_is, k)
          (on (leap y)
          (λ e. let f : r - 31 < 29 = rw e at x in rw (e, lt-ltb r 60 (omega arith)) (omega arith))
          (λ e. let f : r - 31 < 28 = rw e at x in rw (e, lt-leb 59 r (omega arith)) (omega arith)));
    })

since_march : (y r : ℕ) (d : Date) → 31 ≤ r → february y ≤ r - 31 → Month y 3 from_march (r - 31 - february y) d → Next y r d
since_march y r d z x w =
    let k = ne_eqb d.month 2 (omega arith) in
    let m : d.month - 1 ≡ suc (suc w.j) = omega arith in
    let b = w.back in
    record {
      is_29 =
          rw k
          (on_eq r 59
          (λ s t. rw s (on (leap y) (λ e. absurd (let f : 29 ≤ r - 31 = rw e at x in omega arith)) (λ e. sym e)))
          (λ s t. rw s));
      year_is = rw k (ap suc w.year_is);
      day_is =
          λ a.
          rw (length_is, k, m, w.year_is)
          (on (leap y)
          (λ e.
          let f : 29 ≤ r - 31 = rw e at x in
          let g : days_of_months (take w.j from_march) + (d.day - 1) ≡ r - 31 - 29 = rw e at b in
          rw (e, a e, le-ltb r 60 (omega arith)) (omega arith))
          (λ e.
          let f : 28 ≤ r - 31 = rw e at x in
          let g : days_of_months (take w.j from_march) + (d.day - 1) ≡ r - 31 - 28 = rw e at b in
          rw (e, le-leb 59 r (omega arith)) (on (leap (suc y)) (λ i. rw i (omega arith)) (λ i. rw i (omega arith)))));
    }

pub next : (y r : ℕ) → r < year_length y → Next y r (date_in y r)
unfolding date_in
next y r h =
    on_lt r 31
    (λ q z. rw q (january y r z))
    (λ q z.
    on_lt (r - 31) (february y)
    (λ p x. rw (q, p) (in_february y r z x))
    (λ p x. rw (q, p) (since_march y r _ z x (month_of y 3 from_march (r - 31 - february y) (omega (arith, length_is y))))))

-- ---- by the count of days
-- a choice between two numbers is at most the greater
pub either_way : (b : Bool) (x y n : ℕ) → x ≤ n → y ≤ n → cond b x y ≤ n
either_way true x y n p q = p
either_way false x y n p q = q

-- four years have 1,461 days; counted from 1 March 1996, their last is a 29 February; from 1 March 2100 on, the count is one day ahead
abbrev pub passes : ℕ → Bool
passes n = leb 1_095 ((n + 1_401 + cond (ltb n 36_584) 0 1) % 1_461) && (ltb n 36_219 || leb 36_584 n)

pub does : (n : ℕ) → (n < 36_584 → (1_095 ≤ (n + 1_401 + 0) % 1_461) × (n < 36_219)) → (36_584 ≤ n → 1_095 ≤ (n + 1_401 + 1) % 1_461) → passes n ≡ true
does n f g =
    on_lt n 36_584
    (λ q z. rw (q, le-leb _ _ (f z).0, lt-ltb n 36_219 (f z).1))
    (λ q z. rw (q, le-leb _ _ (g z), le-ltb n 36_219 (omega arith), le-leb 36_584 n z))

does_not : (n : ℕ) → (n < 36_219 → (n + 1_401 + 0) % 1_461 < 1_095) → (36_584 ≤ n → (n + 1_401 + 1) % 1_461 < 1_095) → passes n ≡ false
does_not n f g =
    on_lt n 36_584
    (λ q z.
    on_lt n 36_219
    (λ p x. rw (q, lt-leb _ _ (f x)))
    (λ p x. rw (q, p, lt-leb 36_584 n z) (on (leb 1_095 ((n + 1_401 + 0) % 1_461)) (λ i. rw i) (λ i. rw i))))
    (λ q z. rw (q, lt-leb _ _ (g z)))

-- a place among the 1,461 days
pub place_is : (m q s : ℕ) → m ≡ 1_461 * q + s → s < 1_461 → m % 1_461 ≡ s
place_is m q s e h = on_lt (m / 1_461) q (λ p x. omega arith) (λ p x. on_lt q (m / 1_461) (λ p2 x2. omega arith) (λ p2 x2. omega arith))

-- day n is day r of year 2000 + j, whose first day is f; it has place p in the four years q
module _ (j r n f : ℕ) (early : j ≤ 100 → f ≡ 365 * j + (j + 3) / 4) (late : 100 < j → f + 1 ≡ 365 * j + (j + 3) / 4) (b : f + r ≡ n) (t : r < 366) where
  high : (q p : ℕ) → 365 * j + (j + 3) / 4 + r + 1_401 ≡ 1_461 * q + p → p < 1_461 → 1_095 ≤ p → (j ≡ 99 → ⊥) → (j ≡ 100 → ⊥) → passes n ≡ true
  high q p e z l x y =
      on_le j 100
      (λ s o. let d = early o in does n (λ g. (rw (place_is (n + 1_401 + 0) q p (omega arith) z) l, omega arith)) (λ g. absurd (omega arith)))
      (λ s o. let d = late o in does n (λ g. absurd (omega arith)) (λ g. rw (place_is (n + 1_401 + 1) q p (omega arith) z) l))

  low : (q p : ℕ) → 365 * j + (j + 3) / 4 + r + 1_401 ≡ 1_461 * q + p → p < 1_095 → (j ≡ 100 → ⊥) → passes n ≡ false
  low q p e l y =
      on_le j 100
      (λ s o. let d = early o in does_not n (λ g. rw (place_is (n + 1_401 + 0) q p (omega arith) (omega arith)) l) (λ g. absurd (omega arith)))
      (λ s o. let d = late o in does_not n (λ g. absurd (omega arith)) (λ g. rw (place_is (n + 1_401 + 1) q p (omega arith) (omega arith)) l))

  -- a leap year, up to its 29 February and past it
  leap_year : j % 4 ≡ 0 → (j ≡ 100 → ⊥) → r < 60 → passes n ≡ true
  leap_year m y z = high (j / 4) (r + 1_401) (omega arith) (omega arith) (omega arith) (λ x. omega arith) y

  leap_year_past : j % 4 ≡ 0 → (j ≡ 100 → ⊥) → 60 ≤ r → passes n ≡ false
  leap_year_past m y z = low (j / 4 + 1) (r - 60) (omega arith) (omega arith) y

  -- the year before a leap year, from 1 March on and before it
  year_before : suc j % 4 ≡ 0 → (suc j ≡ 100 → ⊥) → 59 ≤ r → r < 365 → passes n ≡ true
  year_before m x z w = high (j / 4 + 1) (r + 1_036) (omega arith) (omega arith) (omega arith) (λ e. omega arith) (λ e. omega arith)

  year_before_early : suc j % 4 ≡ 0 → r < 59 → passes n ≡ false
  year_before_early m z = low (j / 4 + 1) (r + 1_036) (omega arith) (omega arith) (λ e. omega arith)

  -- any other year, 2099 and 2100 among them
  other_year : (j % 4 ≡ 0 → j ≡ 100) → (suc j % 4 ≡ 0 → suc j ≡ 100) → r < 365 → passes n ≡ false
  other_year m m2 w =
      on_eq (j % 4) 0
      (λ q l. let k = m l in let d = early (omega arith) in does_not n (λ o. absurd (omega arith)) (λ o. omega arith))
      (λ q l.
      on_eq (suc j % 4) 0
      (λ q2 l2. let k = m2 l2 in let d = early (omega arith) in does_not n (λ o. omega arith) (λ o. absurd (omega arith)))
      (λ q2 l2. low (j / 4 + 1) (r + 365 * (j % 4) - 59) (omega arith) (omega arith) (λ e. omega arith)))

pub counted : (j r n : ℕ) → j ≤ 198 → r < year_length (2000 + j) → days_of_years j 2000 + r ≡ n → passes n ≡ passed (leap (2000 + j)) (leap (2000 + suc j)) r
counted j r n i h b =
    let k = known j (omega arith) in
    let k2 = known (suc j) (omega arith) in
    let y = length_is (2000 + j) in
    let t : r < 366 = omega (arith, either_way (leap (2000 + j)) 29 28 29 (omega arith) (omega arith)) in
    on (leap (2000 + j))
    (λ e.
    let l = k.leap_is e in
    on_lt r 60
    (λ q z. rw (e, q) (leap_year j r n (days_of_years j 2000) k.early k.late b t l.0 l.1 z))
    (λ q z. rw (e, q) (leap_year_past j r n (days_of_years j 2000) k.early k.late b t l.0 l.1 z)))
    (λ e.
    let s : year_length (2000 + j) ≡ 365 = rw e at y in
    on (leap (2000 + suc j))
    (λ e2.
    let l = k2.leap_is e2 in
    on_le 59 r
    (λ q z. rw (e, e2, q) (year_before j r n (days_of_years j 2000) k.early k.late b t l.0 l.1 z (omega arith)))
    (λ q z. rw (e, e2, q) (year_before_early j r n (days_of_years j 2000) k.early k.late b t l.0 z)))
    (λ e2.
    rw (e, e2, other_year j r n (days_of_years j 2000) k.early k.late b t (k.common_is e) (k2.common_is e2) (omega arith))
    (on (leb 59 r) (λ q. rw q) (λ q. rw q))))
