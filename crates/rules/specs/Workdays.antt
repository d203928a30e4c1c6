-- Working days (document 02, ticket 5): the calendar that an account may be given when it is begun, and how long a notice waits by it.
use Rattle.std.specs.Prelude.{ℕ, zero, suc, ◌+◌, ◌-◌, ◌/◌, ◌%◌, ◌^◌, ◌≡◌, ◌≤◌, Bool, true, cond, ◌&&◌, List, leb, ltb, eqb, length, get_or, Option, Some, None}
use Rattle.basics.specs.Machine.{largest_u32}
use Rattle.rules.specs.declared.Calendar.{Calendar}
use Rattle.rules.specs.Limits.{calendar_words, calendar_days, notice_from}

-- day d lies in it when first ≤ d and d < first + 2,048, in whole numbers
abbrev pub holds : Calendar → ℕ → Bool
holds c d = leb c.first d && ltb d (c.first + calendar_days)

-- bit i of a word, the lowest being 0, is set
unfoldable pub bit_set : ℕ → ℕ → Bool
bit_set word i = eqb (word / 2 ^ i % 2) 1

-- of words of 64 bits, bit k is set, in order of days, lowest bit first
unfoldable pub bit_in : List ℕ → ℕ → Bool
bit_in words k = bit_set (get_or words (k / 64) 0) (k % 64)

-- a working day: it lies in the calendar, and its bit is set
unfoldable pub working : Calendar → ℕ → Bool
working c d = holds c d && bit_in c.bits (d - c.first)

-- how many of the n days from a on pass p
abbrev pub how_many : (ℕ → Bool) → ℕ → ℕ → ℕ
how_many p a zero = 0
how_many p a (suc n) = cond (p a) 1 0 + how_many p (suc a) n

-- the working days among n + 1 to t
unfoldable pub working_days : Calendar → ℕ → ℕ → ℕ
working_days c n t = how_many (working c) (n + 1) (t - n)

-- the working days that a calendar counts among n + 1 to t: none are counted without one
abbrev pub counted_by : Option Calendar → ℕ → ℕ → Option ℕ
counted_by None n t = None
counted_by (Some c) n t = Some (working_days c n t)

-- a notice of day n has waited long enough on t: n + 5 ≤ t; with a calendar at least five working days among n + 1 to t, in place of that
abbrev pub waited : Option Calendar → ℕ → ℕ → Bool
waited None n t = leb (n + notice_from) t
waited (Some c) n t = leb notice_from (working_days c n t)

-- day t lies in the calendar, if there is one
abbrev pub in_calendar : Option Calendar → ℕ → Bool
in_calendar None t = true
in_calendar (Some c) t = holds c t

-- any first day is taken, and any bits: 2,048 of them, in 32 words
abbrev pub Taken : Option Calendar → Type 0
Taken None = Unit {0}
Taken (Some c) = (c.first ≤ largest_u32) × (length c.bits ≡ calendar_words)
