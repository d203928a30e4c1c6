-- A law to hold the same date one year later against: it is 365 days on, or 366 where a 29 February lies among the days passed.
use Prim.Native.Nat.{ℕ, suc, ◌+◌, ◌-◌, ◌*◌, ◌/◌, ◌%◌, ◌<◌, ◌≤◌}
use mathlib.Core.Path.{◌≡◌, sym, ap, ◌∙◌}
use mathlib.Core.Bool.{true, false, cond, ◌&&◌, true≢false}
use mathlib.Core.Logic.{◌⊎◌, inl, inr}
use native.Mathlib.Omega.{arith}
use lib.Dec.{eqb, ltb, leb}
use borrow.Author.Tests.{eqb-true, ltb-true, leb-true}
use Rattle.std.proofs.lemmas.Bool.{and_parts}
use Rattle.std.specs.Prelude.{Some}
use Rattle.basics.proofs.Cases.{on, on_le}
use Rattle.rules.specs.Limits.{final_day}
use Rattle.rules.specs.Dates.{leap, year_length, days_of_years, date_of, is_29_february, year_later}
use Rattle.dates.proofs.Walk.{of_year, length_is}
use Rattle.dates.proofs.Passing.{passed, passes, counted, next, place_is, does}
use Rattle.dates.proofs.Law.{years_more, place, never, not_last, later_on, later_never}

-- day i is the 29 February of year 2000 + j, whose first day is f: a day at most 365 days before it passes it
near : (j i n f : ℕ) → (j ≤ 100 → f ≡ 365 * j + (j + 3) / 4) → (100 < j → f + 1 ≡ 365 * j + (j + 3) / 4) → f + 59 ≡ i → j % 4 ≡ 0 → (j ≡ 100 → ⊥) → n ≤ i → i ≤ n + 365 → passes n ≡ true
near j i n f early late b m x from to =
    let a : j ≡ 4 * (j / 4) = omega arith in
    let a2 : (j + 3) / 4 ≡ j / 4 = omega arith in
    on_le j 100
    (λ q l.
    let d = early l in
    does n (λ o. (rw (place_is (n + 1_401 + 0) (j / 4) (n + 1_460 - i) (omega arith) (omega arith)) (omega arith), omega arith)) (λ o. absurd (omega arith)))
    (λ q l.
    let d = late l in
    does n (λ o. absurd (omega arith)) (λ o. rw (place_is (n + 1_401 + 1) (j / 4) (n + 1_460 - i) (omega arith) (omega arith)) (omega arith)))

passes_it : (n i : ℕ) → i ≤ final_day → is_29_february (date_of i) ≡ true → n ≤ i → i ≤ n + 365 → passes n ≡ true
passes_it n i h e f t =
    let w = place i h in
    let a : (eqb w.r 59 && leap (2000 + w.j)) ≡ true = sym ((next (2000 + w.j) w.r w.in_year).is_29) ∙ ap is_29_february (sym w.date_is) ∙ e in
    let r = eqb-true w.r 59 (and_parts (eqb w.r 59) (leap (2000 + w.j)) a).0 in
    let l = w.facts.leap_is (and_parts (eqb w.r 59) (leap (2000 + w.j)) a).1 in
    near w.j i n (days_of_years w.j 2000) w.facts.early w.facts.late (omega (arith, w.back)) l.0 l.1 f t

-- the 29 February of a leap year
the_29th : (j : ℕ) → j ≤ 199 → leap (2000 + j) ≡ true → is_29_february (date_of (days_of_years j 2000 + 59)) ≡ true
unfolding date_of
the_29th j i e =
    let h : 59 < year_length (2000 + j) = rw (length_is, e) (omega arith) in
    ap is_29_february (of_year 199 2000 j 59 (2000 + j) (omega arith) i h) ∙ (next (2000 + j) 59 h).is_29 ∙ e

pub record Passed (n e : ℕ) : Type 0 where
  pub day : ℕ
  pub from : n ≤ day
  pub before : day < e
  pub is_29 : is_29_february (date_of day) ≡ true

passed_one : (n : ℕ) → n ≤ 72_683 → passes n ≡ true → Passed n (n + 366)
passed_one n h p =
    let w = place n (omega arith) in
    let i = not_last n w h in
    let c : passed (leap (2000 + w.j)) (leap (2000 + suc w.j)) w.r ≡ true = sym (counted w.j w.r n i w.in_year w.back) ∙ p in
    let m = years_more w.j 2000 in
    let y = length_is (2000 + w.j) in
    on (leap (2000 + w.j))
    (λ e.
    let d : ltb w.r 60 ≡ true = rw e at c in
    let z = ltb-true w.r 60 d in
    record { day = days_of_years w.j 2000 + 59; from = omega (arith, w.back); before = omega (arith, w.back); is_29 = the_29th w.j (omega arith) e })
    (λ e.
    let d : (leb 59 w.r && leap (2000 + suc w.j)) ≡ true = rw e at c in
    let z = leb-true 59 w.r (and_parts (leb 59 w.r) (leap (2000 + suc w.j)) d).0 in
    let k : year_length (2000 + w.j) ≡ 365 = rw e at y in
    record {
      day = days_of_years (suc w.j) 2000 + 59;
      from = omega (arith, w.back, w.in_year);
      before = omega (arith, w.back);
      is_29 = the_29th (suc w.j) (omega arith) (and_parts (leb 59 w.r) (leap (2000 + suc w.j)) d).1;
    })

-- from day n to day e, the same date one year later
abbrev pub YearOn : ℕ → ℕ → Type 0
YearOn n e = ((e ≡ n + 365) × ((i : ℕ) → n ≤ i → i < e → is_29_february (date_of i) ≡ false)) ⊎ ((e ≡ n + 366) × Passed n e)

pub year_law : (n e : ℕ) → year_later n ≡ Some e → YearOn n e
year_law n e o =
    on_le n 72_683
    (λ q h.
    let l = later_on n h in
    let d : e ≡ n + cond (passes n) 366 365 = cc in
    on (passes n)
    (λ p. let z : e ≡ n + 366 = rw p at d in inr (z, rw z (passed_one n h p)))
    (λ p.
    let z : e ≡ n + 365 = rw p at d in
    inl (z, λ i f t. never (is_29_february (date_of i)) (λ x. true≢false (sym (passes_it n i (omega arith) x f (omega arith)) ∙ p)))))
    (λ q h. let l = later_never n h in let z : ◌≡◌ {A = ℕ} 0 1 = cc in absurd (omega arith))
