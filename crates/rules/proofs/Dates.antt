-- Our own cases of dates, and both sides of the day from which a deposit is earned (document 02, ticket 7).
use Prim.Native.Nat.{ℕ, ◌+◌}
use Prim.Native.String.{String}
use mathlib.Core.Bool.{Bool, true, false, cond, ◌&&◌}
use mathlib.Core.List.{List, [], ◌∷◌, ◌++◌, map}
use lib.Dec.{eqb}
use Rattle.rules.specs.declared.Event.{Event}
use Rattle.std.specs.Prelude.{Option, Some, None}
use Rattle.rules.specs.Dates.{Date, date, year_length, day_of, date_of, year_later}
use Rattle.rules.proofs.Events.{asked_deposit, paid, moved, bill, notice, call, cut_off, close, same, held, credit, Case, ends, shows, gives}

abbrev same_date : Date → Date → Bool
same_date a b = eqb a.year b.year && eqb a.month b.month && eqb a.day b.day

-- the day of that date is n, and the date of day n is that one
abbrev on_day : Date → ℕ → Bool
on_day d n = eqb (day_of d) n && same_date (date_of n) d

abbrev dated : String → Date → ℕ → Case
dated s d n = gives s (cond (on_day d n) 1 0) 1

-- on the days ns the months from month m of year y on begin
abbrev begin_on : ℕ → ℕ → List ℕ → Bool
begin_on y m [] = eqb m 13
begin_on y m (n ∷ ns) = on_day (date y m 1) n && begin_on y (m + 1) ns

-- the year's months begin on these days
abbrev firsts : String → ℕ → List ℕ → Case
firsts s y ns = gives s (cond (begin_on y 1 ns) 1 0) 1

abbrev lengths : String → List ℕ → List ℕ → Case
lengths s ys ns = gives s (cond (same (map year_length ys) ns) 1 0) 1

-- a day that is told, or none, is the one that is wanted
abbrev same_day : Option ℕ → Option ℕ → Bool
same_day (Some a) (Some b) = eqb a b
same_day (Some a) None = false
same_day None (Some b) = false
same_day None None = true

-- the day of the same date one year later, or that there is none
abbrev again : String → ℕ → Option ℕ → Case
again s n d = gives s (cond (same_day (year_later n) d) 1 0) 1

-- a deposit of 100 that is full from day n on
abbrev pub full_from : ℕ → List Event
full_from n = asked_deposit n 100 ∷ paid n 100 ∷ []

-- full from one day on, and asked back on another
abbrev back : String → ℕ → ℕ → ℕ → Case
back s n t = ends s (full_from n ++ (moved t ∷ []))

abbrev pub dates : List Case
dates =
    -- ---- days and dates
    dated "the first day" (date 2000 1 1) 0
    ∷ dated "the last of a January" (date 2000 1 31) 30
    ∷ dated "29 February of a full hundred that is a leap year" (date 2000 2 29) 59
    ∷ dated "the day after it" (date 2000 3 1) 60
    ∷ dated "the last of a leap year" (date 2000 12 31) 365
    ∷ dated "the first of the year after it" (date 2001 1 1) 366
    ∷ dated "28 February of a year that is none" (date 2001 2 28) 424
    ∷ dated "the day after that" (date 2001 3 1) 425
    ∷ dated "1 January 2026" (date 2026 1 1) 9_497
    ∷ dated "29 February, a hundred years on almost" (date 2096 2 29) 35_123
    ∷ dated "28 February of a full hundred that is no leap year" (date 2100 2 28) 36_583
    ∷ dated "the day after it, 1 March" (date 2100 3 1) 36_584
    ∷ dated "29 February again" (date 2104 2 29) 38_044
    ∷ dated "31 December 2198" (date 2198 12 31) 72_683
    ∷ dated "the last day" (date 2199 12 31) 73_048
    ∷ firsts "the months of a year" 2023 (8_401 ∷ 8_432 ∷ 8_460 ∷ 8_491 ∷ 8_521 ∷ 8_552 ∷ 8_582 ∷ 8_613 ∷ 8_644 ∷ 8_674 ∷ 8_705 ∷ 8_735 ∷ [])
    ∷ firsts "the months of a leap year" 2024 (8_766 ∷ 8_797 ∷ 8_826 ∷ 8_857 ∷ 8_887 ∷ 8_918 ∷ 8_948 ∷ 8_979 ∷ 9_010 ∷ 9_040 ∷ 9_071 ∷ 9_101 ∷ [])
    ∷ lengths "years of 366 days" (1600 ∷ 2000 ∷ 2004 ∷ 2096 ∷ 2104 ∷ 2400 ∷ []) (366 ∷ 366 ∷ 366 ∷ 366 ∷ 366 ∷ 366 ∷ [])
    ∷ lengths "years of 365 days" (1900 ∷ 2001 ∷ 2002 ∷ 2003 ∷ 2100 ∷ 2199 ∷ 2200 ∷ []) (365 ∷ 365 ∷ 365 ∷ 365 ∷ 365 ∷ 365 ∷ 365 ∷ [])
    -- ---- the same date one year later
    ∷ again "29 February 2024" 8_825 (Some 9_191)
    ∷ again "1 March 2023" 8_460 (Some 8_826)
    ∷ again "31 December 2198" 72_683 (Some 73_048)
    ∷ again "1 January 2199, none" 72_684 None
    ∷ again "the last day, none" 73_048 None
    -- ---- a year without a 29 February in it
    ∷ back "full on 28 February 2023, on 27 February 2024" 8_459 8_823 8
    ∷ back "full on 28 February 2023, on 28 February 2024" 8_459 8_824 0
    ∷ back "full on 1 March 2024, on 28 February 2025" 8_826 9_190 8
    ∷ back "full on 1 March 2024, on 1 March 2025" 8_826 9_191 0
    ∷ back "full on 31 December 2022, on 30 December 2023" 8_400 8_764 8
    ∷ back "full on 31 December 2022, on 31 December 2023" 8_400 8_765 0
    -- ---- and with one
    ∷ back "full on 28 February 2024, on 27 February 2025" 8_824 9_189 8
    ∷ back "full on 28 February 2024, on 28 February 2025" 8_824 9_190 0
    ∷ back "full on 1 January 2024, on 31 December 2024" 8_766 9_131 8
    ∷ back "full on 1 January 2024, on 1 January 2025" 8_766 9_132 0
    ∷ back "full on 31 December 2023, on 30 December 2024" 8_765 9_130 8
    ∷ back "full on 31 December 2023, on 31 December 2024" 8_765 9_131 0
    -- ---- throughout the year, and on the last days of months
    ∷ back "full on 29 January 2024, on 28 January 2025" 8_794 9_159 8
    ∷ back "full on 29 January 2024, on 29 January 2025" 8_794 9_160 0
    ∷ back "full on 29 March 2024, on 28 March 2025" 8_854 9_218 8
    ∷ back "full on 29 March 2024, on 29 March 2025" 8_854 9_219 0
    ∷ back "full on 29 May 2024, on 28 May 2025" 8_915 9_279 8
    ∷ back "full on 29 May 2024, on 29 May 2025" 8_915 9_280 0
    ∷ back "full on 15 June 2023, on 14 June 2024" 8_566 8_931 8
    ∷ back "full on 15 June 2023, on 15 June 2024" 8_566 8_932 0
    ∷ back "full on 31 August 2023, on 30 August 2024" 8_643 9_008 8
    ∷ back "full on 31 August 2023, on 31 August 2024" 8_643 9_009 0
    -- ---- full hundreds: 2000 is a leap year, 2100 is none
    ∷ back "full on the first day, 365 days on" 0 365 8
    ∷ back "full on 29 February 2000, on 28 February 2001" 59 424 8
    ∷ back "full on 29 February 2000, on 1 March 2001" 59 425 0
    ∷ back "full on 1 March 2000, on 28 February 2001" 60 424 8
    ∷ back "full on 1 March 2000, on 1 March 2001" 60 425 0
    ∷ back "full on 29 February 2096, on 28 February 2097" 35_123 35_488 8
    ∷ back "full on 29 February 2096, on 1 March 2097" 35_123 35_489 0
    ∷ back "full on 28 February 2099, on 28 February 2100" 36_218 36_583 0
    ∷ back "full on 1 March 2099, on 28 February 2100" 36_219 36_583 8
    ∷ back "full on 1 March 2099, on 1 March 2100" 36_219 36_584 0
    ∷ back "full on 28 February 2100, on 27 February 2101" 36_583 36_947 8
    ∷ back "full on 28 February 2100, on 28 February 2101" 36_583 36_948 0
    ∷ back "full on 1 March 2103, on 29 February 2104" 37_679 38_044 8
    ∷ back "full on 1 March 2103, on 1 March 2104" 37_679 38_045 0
    -- ---- the end of time
    ∷ back "full on the first day, on the last" 0 73_048 0
    ∷ back "full on 1 July 2198, on 30 June 2199" 72_500 72_864 8
    ∷ back "full on 1 July 2198, on 1 July 2199" 72_500 72_865 0
    ∷ back "full on 31 December 2198, a day early" 72_683 73_047 8
    ∷ back "full on 31 December 2198, on the last day" 72_683 73_048 0
    ∷ back "full on 1 March 2199, on the last day" 72_743 73_048 8
    ∷ back "full on the last day" 73_048 73_048 8
    ∷ shows "full on 1 January 2199, moved by closing: a credit" credit (full_from 72_684 ++ (close 73_048 ∷ [])) 100
    ∷ shows "and nothing is held" held (full_from 72_684 ++ (close 73_048 ∷ [])) 0
    -- ---- the last day on which it becomes full counts, and no day before
    ∷ ends "full on 28 February 2024 and again on 1 March, on 28 February 2025"
    (asked_deposit 8_824 60 ∷ paid 8_824 60 ∷ asked_deposit 8_826 100 ∷ paid 8_826 40 ∷ moved 9_190 ∷ []) 8
    ∷ ends "the same, on 1 March 2025"
    (asked_deposit 8_824 60 ∷ paid 8_824 60 ∷ asked_deposit 8_826 100 ∷ paid 8_826 40 ∷ moved 9_191 ∷ []) 0
    -- ---- disconnections are looked for in 365 days, of a year of 366 too
    ∷ ends "a cut on the first of a year's 366 days"
    (bill 8_760 6000 ∷ notice 8_780 ∷ call 8_784 ∷ asked_deposit 8_785 100 ∷ paid 8_785 100 ∷ cut_off 8_785 ∷ moved 9_151 ∷ []) 0
    ∷ ends "on the second"
    (bill 8_760 6000 ∷ notice 8_780 ∷ call 8_784 ∷ asked_deposit 8_785 100 ∷ paid 8_785 100 ∷ cut_off 8_786 ∷ moved 9_151 ∷ []) 0
    ∷ ends "on the third"
    (bill 8_760 6000 ∷ notice 8_780 ∷ call 8_784 ∷ asked_deposit 8_785 100 ∷ paid 8_785 100 ∷ cut_off 8_787 ∷ moved 9_151 ∷ []) 8
    ∷ []
