-- Our own cases: accounts with a calendar, both sides of every bound of it. The ticket has no figures.
use Prim.Native.Nat.{ℕ, zero, suc, ◌+◌, ◌*◌, ◌%◌, ◌^◌}
use Prim.Native.String.{String}
use mathlib.Core.Path.{◌≡◌, refl, ◌∙◌}
use mathlib.Core.Bool.{Bool, true, false, cond}
use mathlib.Core.List.{List, [], ◌∷◌, ◌++◌}
use lib.Dec.{ltb}
use lib.ListN.{replicate}
use Rattle.rules.specs.declared.Event.{Event}
use Rattle.rules.specs.declared.Calendar.{Calendar}
use Rattle.rules.specs.Workdays.{bit_set, bit_in, holds, working_days}
use Rattle.rules.proofs.Workdays.{counted}
use Rattle.rules.proofs.Events.{
  event,
  bill,
  payment,
  certificate,
  arrangement,
  notice,
  call,
  cut_off,
  reconnection,
  close,
  live,
  Case,
  ends_by,
  shows_by,
  gives,
}
use Rattle.rules.proofs.Paper.{b, d}
use Rattle.rules.proofs.Orders.{brim}

-- ---- calendars
-- the word of 64 bits whose bit i is set where p passes k + i, and words one after another
abbrev word_from : (ℕ → Bool) → ℕ → ℕ → ℕ
word_from p k zero = 0
word_from p k (suc i) = cond (p k) 1 0 + 2 * word_from p (k + 1) i

abbrev words_from : (ℕ → Bool) → ℕ → ℕ → List ℕ
words_from p k zero = []
words_from p k (suc n) = word_from p k 64 ∷ words_from p (k + 64) n

-- from `first` on, and day first + k is a working day where p passes k
abbrev by : ℕ → (ℕ → Bool) → Calendar
by first p = record { first = first; bits = words_from p 0 32 }

-- every day, no day, five days of every seven
abbrev every : ℕ → Calendar
every first = by first (λ k. true)

abbrev clear : Calendar
clear = by 0 (λ k. false)

abbrev weeks : Calendar
weeks = by 0 (λ k. ltb (k % 7) 5)

-- days 36 to 40, the last five of a notice of day 20, in the words themselves
abbrev last_five : Calendar
last_five = record { first = 0; bits = 31 * 2 ^ 36 ∷ replicate 31 0 }

-- the same and day 41
abbrev last_six : Calendar
last_six = record { first = 0; bits = 63 * 2 ^ 36 ∷ replicate 31 0 }

-- days 62 and 63 in the first word, 64 to 66 in the second
abbrev across : Calendar
across = record { first = 0; bits = 3 * 2 ^ 62 ∷ 7 ∷ replicate 30 0 }

-- the last five days of all, in the last word
abbrev ending : Calendar
ending = record { first = 0; bits = replicate 31 0 ++ (31 * 2 ^ 59 ∷ []) }

-- ---- a bill of day 0, a notice of day n, a call the day before t, and a disconnection on t
abbrev cut_after : ℕ → ℕ → ℕ → List Event
cut_after n before t = bill 0 6000 ∷ notice n ∷ call before ∷ cut_off t ∷ []

abbrev waits : List Case
waits =
    ends_by "four working days" weeks (cut_after 20 23 24) 12
    ∷ ends_by "five working days, the day of the cut among them" weeks (cut_after 20 23 25) 0
    ∷ ends_by "the notice's own day is a working day, and does not count: four" weeks (cut_after 21 26 27) 12
    ∷ ends_by "the notice's own day is a working day, and does not count: five" weeks (cut_after 21 26 28) 0
    ∷ ends_by "five days, but four working days" weeks (cut_after 21 25 26) 12
    ∷ ends_by "the cut itself may be on a day off" weeks (cut_after 20 23 26) 0
    ∷ ends_by "so may the notice: four" weeks (cut_after 26 30 31) 12
    ∷ ends_by "so may the notice: five" weeks (cut_after 26 31 32) 0
    ∷ ends_by "every day is a working day: four" (every 0) (cut_after 20 23 24) 12
    ∷ ends_by "every day is a working day: five" (every 0) (cut_after 20 23 25) 0
    ∷ ends_by "no day is a working day" clear (cut_after 20 39 40) 12
    ∷ ends_by "the last five days of the notice, a day before they are full" last_five (cut_after 20 38 39) 12
    ∷ ends_by "the last five days of the notice" last_five (cut_after 20 39 40) 0
    ∷ ends_by "six working days, but over twenty days" last_six (cut_after 20 40 41) 12
    ∷ ends_by "across a word's edge: four" across (cut_after 50 64 65) 12
    ∷ ends_by "across a word's edge: five" across (cut_after 50 65 66) 0
    ∷ ends_by "a notice at bit 59: four" (every 0) (cut_after 59 62 63) 12
    ∷ ends_by "a notice at bit 59: five" (every 0) (cut_after 59 63 64) 0
    ∷ ends_by "a notice at bit 60: four" (every 0) (cut_after 60 63 64) 12
    ∷ ends_by "a notice at bit 60: five" (every 0) (cut_after 60 64 65) 0
    ∷ ends_by "a notice at bit 61: four" (every 0) (cut_after 61 64 65) 12
    ∷ ends_by "a notice at bit 61: five" (every 0) (cut_after 61 65 66) 0
    ∷ ends_by "a notice at bit 62: four" (every 0) (cut_after 62 65 66) 12
    ∷ ends_by "a notice at bit 62: five" (every 0) (cut_after 62 66 67) 0
    ∷ ends_by "a notice at bit 63: four" (every 0) (cut_after 63 66 67) 12
    ∷ ends_by "a notice at bit 63: five" (every 0) (cut_after 63 67 68) 0
    ∷ ends_by "the last five days of the calendar: four" ending (cut_after 2040 2045 2046) 12
    ∷ ends_by "the last five days of the calendar: five" ending (cut_after 2040 2045 2047) 0
    ∷ ends_by "the calendar's first day counts from its lowest bit" (by 16 (λ k. ltb k 10)) (cut_after 20 23 25) 0
    ∷ ends_by "and its days end where its bits do" (by 16 (λ k. ltb k 9)) (cut_after 20 23 25) 12
    -- what a calendar leaves as it is
    ∷ shows_by "a notice is live before it has waited" (live 21) clear b 1
    ∷ shows_by "a notice is live for twenty days" (live 40) clear b 1
    ∷ shows_by "and no longer" (live 41) (every 0) b 0
    ∷ ends_by "so that no other is sent" clear (b ++ (notice 40 ∷ [])) 11
    ∷ ends_by "a notice lapses by low arrears" (every 0) (bill 0 6000 ∷ bill 5 6000 ∷ notice 20 ∷ call 22 ∷ payment 22 1001 ∷ cut_off 25 ∷ []) 12
    ∷ ends_by "a disconnection uses it up" (every 0) (d ++ (arrangement 26 2 ∷ reconnection 26 0 ∷ call 27 ∷ cut_off 28 ∷ [])) 12
    ∷ ends_by "a call counts for three days, and not for three working days" weeks (cut_after 20 24 28) 13
    ∷ ends_by "a call on a working day, and two days off before the cut" weeks (cut_after 20 25 28) 0
    ∷ ends_by "a certificate bars as before" weeks (b ++ (certificate 21 5 ∷ call 22 ∷ cut_off 25 ∷ [])) 15
    ∷ []

-- ---- the days that a calendar has: 30 to 2,077 of one
abbrev inside : List Case
inside =
    ends_by "notice: a day before the first" (every 30) (bill 0 6000 ∷ notice 29 ∷ []) 24
    ∷ ends_by "notice: the first day" (every 30) (bill 0 6000 ∷ notice 30 ∷ []) 0
    ∷ ends_by "notice: the last day" (every 30) (bill 0 6000 ∷ notice 2077 ∷ []) 0
    ∷ ends_by "notice: a day after the last" (every 30) (bill 0 6000 ∷ notice 2078 ∷ []) 24
    ∷ ends_by "cut: a day before the first" (every 30) (bill 0 6000 ∷ call 28 ∷ cut_off 29 ∷ []) 24
    ∷ ends_by "cut: on the first day there is no notice yet" (every 30) (bill 0 6000 ∷ call 29 ∷ cut_off 30 ∷ []) 12
    ∷ ends_by "cut: the fifth day after a notice of the first" (every 30) (cut_after 30 34 35) 0
    ∷ ends_by "cut: the last day" (every 30) (cut_after 2060 2076 2077) 0
    ∷ ends_by "cut: a day after the last" (every 30) (cut_after 2060 2076 2078) 24
    ∷ ends_by "nothing wraps: the largest first day, day 20" (every 4294967295) b 24
    ∷ ends_by "nothing wraps: the largest first day, the last day" (every 4294967295) (bill 0 6000 ∷ notice 73048 ∷ []) 24
    ∷ ends_by "nothing wraps: the largest first day, a disconnection" (every 4294967295) (cut_off 2046 ∷ []) 24
    ∷ ends_by "a calendar up to the largest day of all" (every 4294965248) b 24
    ∷ ends_by "a calendar up to the largest day of all, a disconnection" (every 4294965248) (cut_off 0 ∷ []) 24
    ∷ ends_by "from the day after the last day" (every 73049) (bill 0 6000 ∷ notice 73048 ∷ []) 24
    ∷ ends_by "from the day after the last day, a disconnection" (every 73049) (cut_off 73048 ∷ []) 24
    ∷ ends_by "from the last day" (every 73048) (bill 0 6000 ∷ notice 73048 ∷ []) 0
    ∷ ends_by "up to the last day" (every 71001) (cut_after 73030 73047 73048) 0
    ∷ ends_by "up to the day before" (every 71000) (cut_after 73030 73047 73048) 24
    -- which kinds, and which row answers
    ∷ ends_by "a call outside" (every 30) (call 29 ∷ []) 0
    ∷ ends_by "a bill outside" (every 30) (bill 29 1 ∷ []) 0
    ∷ ends_by "a reconnection outside" (every 0) (bill 0 6000 ∷ notice 2040 ∷ call 2046 ∷ cut_off 2047 ∷ payment 2048 7500 ∷ reconnection 2048 0 ∷ []) 0
    ∷ ends_by "a closing outside" (every 30) (close 29 ∷ []) 0
    ∷ ends_by "notice: 24 before 10" (every 30) (notice 29 ∷ []) 24
    ∷ ends_by "notice: 24 before 11" (every 0) (bill 0 6000 ∷ notice 2047 ∷ notice 2048 ∷ []) 24
    ∷ ends_by "notice: 5 before 24" (every 0) (bill 0 6000 ∷ notice 2040 ∷ call 2046 ∷ cut_off 2047 ∷ notice 2048 ∷ []) 5
    ∷ ends_by "notice: 4 before 24" (every 30) (close 20 ∷ notice 29 ∷ []) 4
    ∷ ends_by "notice: 3 before 24" (every 30) (event 12 29 1 0 ∷ []) 3
    ∷ ends_by "notice: 24 before 18 and 19" (every 30) (brim ++ (notice 20 ∷ [])) 24
    ∷ ends_by "notice: 2 before 24" (every 30) (call 29 ∷ notice 28 ∷ []) 2
    ∷ ends_by "notice: 1 before 24" (every 30) (notice 73049 ∷ []) 1
    ∷ ends_by "cut: 24 before 10" (every 30) (cut_off 29 ∷ []) 24
    ∷ ends_by "cut: 24 before 12 and 13" (every 30) (bill 0 6000 ∷ cut_off 29 ∷ []) 24
    ∷ ends_by "cut: 5 before 24" (every 0) (bill 0 6000 ∷ notice 2040 ∷ call 2046 ∷ cut_off 2047 ∷ cut_off 2048 ∷ []) 5
    ∷ ends_by "cut: 24 before 14 and 15" (every 0) (bill 0 6000 ∷ notice 2040 ∷ call 2046 ∷ arrangement 2046 2 ∷ certificate 2046 9 ∷ cut_off 2048 ∷ []) 24
    ∷ ends_by "cut: 4 before 24" (every 30) (close 20 ∷ cut_off 29 ∷ []) 4
    ∷ ends_by "cut: 3 before 24" (every 30) (event 14 29 1 0 ∷ []) 3
    ∷ ends_by "cut: 2 before 24" (every 30) (call 29 ∷ cut_off 28 ∷ []) 2
    ∷ ends_by "cut: 1 before 24" (every 30) (cut_off 73049 ∷ []) 1
    ∷ ends_by "reconnection: 5, and never 24" (every 30) (reconnection 29 0 ∷ []) 5
    ∷ []

-- ---- the count by itself, and the days by themselves
abbrev counts : String → Calendar → ℕ → ℕ → ℕ → Case
counts s c n t r = gives s (working_days c n t) r

abbrev lies : String → Calendar → ℕ → ℕ → Case
lies s c d r = gives s (cond (holds c d) 1 0) r

abbrev by_count : List Case
by_count =
    counts "none on the day of the notice" (every 100) 110 110 0
    ∷ counts "none before it" (every 100) 120 110 0
    ∷ counts "one before the first day" (every 100) 90 99 0
    ∷ counts "the first day" (every 100) 99 100 1
    ∷ counts "from before the first day" (every 100) 90 104 5
    ∷ counts "the last day" (every 100) 2146 2147 1
    ∷ counts "one after the last day" (every 100) 2147 2148 0
    ∷ counts "past the last day" (every 100) 2142 2200 5
    ∷ counts "all of them past the last day" (every 100) 2150 2200 0
    ∷ counts "three words" (every 0) 60 130 70
    ∷ counts "the bits below are not counted" across 40 61 0
    ∷ counts "to the last bit of a word" across 61 63 2
    ∷ counts "from the first bit of a word" across 63 70 3
    ∷ counts "all of it" (every 100) 90 2200 2048
    ∷ counts "the last word, two days off in seven" weeks 2040 2047 5
    ∷ counts "the largest first day" (every 4294967295) 4294967290 4294967295 1
    ∷ counts "it has no day from 0 on" (every 4294967295) 0 20 0
    ∷ counts "up to the largest day of all" (every 4294965248) 4294967290 4294967295 5
    ∷ lies "a day before the first" (every 100) 99 0
    ∷ lies "the first" (every 100) 100 1
    ∷ lies "the last" (every 100) 2147 1
    ∷ lies "a day after the last" (every 100) 2148 0
    ∷ lies "the largest day" (every 4294967295) 4294967295 1
    ∷ lies "whole numbers do not wrap" (every 4294967295) 4294967296 1
    ∷ lies "day 0 is not after the largest" (every 4294967295) 0 0
    ∷ []

abbrev pub calendars : List Case
calendars = waits ++ (inside ++ by_count)

-- n and t as far apart as days of 32 bits can be: more steps than the checker goes, so by the law of the count
pub far : working_days (every 1_000) 0 4_294_967_295 ≡ 2_048
unfolding bit_set bit_in
far = counted (every 1_000) 0 4_294_967_295 ∙ refl
