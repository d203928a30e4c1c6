-- The law of the part: what is asked of it is asked of the calendar that the account was begun with.
use Prim.Native.Nat.{ℕ, ◌+◌, ◌-◌, min}
use mathlib.Core.Path.{◌≡◌, refl, ap}
use mathlib.Core.Bool.{true}
use mathlib.Core.List.{List}
use native.Mathlib.Omega.{arith}
use lib.ListN.{length, get_or, drop}
use borrow.Author.Tests.{le-leb}
use Rattle.std.proofs.Common.{Option, Some, None}
use Rattle.basics.specs.Machine.{largest_u32}
use Rattle.rules.specs.declared.Calendar.{Calendar}
use Rattle.rules.specs.Limits.{calendar_words, calendar_days}
use Rattle.rules.specs.Workdays.{bit_in, how_many, counted_by, Taken}
use Rattle.rules.proofs.Workdays.{counted}
use Rattle.workdays.specs.Kept.{workdays_size, workdays_on, workdays_words, workdays_of, calendar_by, workdays_ok}

-- ---- what it tells is what was given
pub calendar_back : (c : Option Calendar) → calendar_by (workdays_of c) ≡ c
calendar_back None = refl
calendar_back (Some c) = refl

-- it passes its test, and takes all of its words
pub workdays_pass : (c : Option Calendar) → Taken c → workdays_ok (workdays_of c) ≡ true
workdays_pass None t = refl
workdays_pass (Some c) t = le-leb c.first largest_u32 t.0

pub bits_length : (c : Option Calendar) → Taken c → length (workdays_of c).bits ≡ calendar_words
bits_length None t = refl
bits_length (Some c) t = t.1

pub workdays_length : (c : Option Calendar) → Taken c → length (workdays_words (workdays_of c)) ≡ workdays_size
workdays_length c t = omega (arith, bits_length c t)

-- ---- its count, as the code has it: of words that are marked, over their own days alone
pub counted_on : (w : List ℕ) (n t x : ℕ) → get_or w 0 0 ≡ 1
    → x ≡ how_many (bit_in (drop 2 w)) (min (n + 1 - get_or w 1 0) calendar_days)
    (min (t + 1 - get_or w 1 0) calendar_days - min (n + 1 - get_or w 1 0) calendar_days)
    → Some x ≡ counted_by (calendar_by (workdays_on w)) n t
counted_on w n t x g e = rw (g, counted (record { first = get_or w 1 0; bits = drop 2 w }) n t) (ap (λ m. Some m) e)
