-- The calendar that an account keeps, in 34 words of its memory. It is given when the account is begun, and no event changes it.
use Rattle.std.specs.Prelude.{ℕ, Bool, cond, ◌&&◌, List, ◌∷◌, leb, eqb, get_or, drop, replicate, Option, Some, None}
use Rattle.basics.specs.Machine.{largest_u32}
use Rattle.rules.specs.declared.Calendar.{Calendar}
use Rattle.rules.specs.Limits.{calendar_words}

pub record Workdays : Type 0 where
  -- 1 where there is a calendar, else 0
  pub given : ℕ
  -- its first day
  pub first : ℕ
  -- and 64 of its days in each word
  pub bits : List ℕ

-- ---- its words
abbrev pub workdays_size : ℕ
workdays_size = 34

abbrev pub workdays_on : List ℕ → Workdays
workdays_on w = record { given = get_or w 0 0; first = get_or w 1 0; bits = drop 2 w }

-- all of them: equal parts are equal memory
abbrev pub workdays_words : Workdays → List ℕ
workdays_words s = s.given ∷ s.first ∷ s.bits

-- ---- the calendar
-- the part of an account that is begun with it; all words are 0 without one
abbrev pub workdays_of : Option Calendar → Workdays
workdays_of None = record { given = 0; first = 0; bits = replicate calendar_words 0 }
workdays_of (Some c) = record { given = 1; first = c.first; bits = c.bits }

-- what it tells: the calendar, if there is one
abbrev pub calendar_by : Workdays → Option Calendar
calendar_by s = cond (eqb s.given 1) (Some (record { first = s.first; bits = s.bits })) None

-- the test; not of the bits, since any are a calendar's, and without one they are never read
abbrev pub workdays_ok : Workdays → Bool
workdays_ok s = leb s.given 1 && leb s.first largest_u32
