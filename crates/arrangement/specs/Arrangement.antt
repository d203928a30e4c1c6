-- The arrangement that an account keeps, in five words of its memory.
use Rattle.std.specs.Prelude.{ℕ, ◌+◌, ◌*◌, ◌≤◌, Bool, cond, ◌&&◌, List, [], ◌∷◌, leb, ltb, get_or}
use Rattle.rules.specs.declared.Event.{Event}
use Rattle.rules.specs.Kinds.{payment, returned_payment, arrangement}
use Rattle.rules.specs.Limits.{final_day, limit, part_days, most_parts}
use Rattle.rules.specs.History.{History, is, amount_if}
use Rattle.rules.specs.Receipts.{named_payment}
use Rattle.rules.specs.Money.{arrears}
use Rattle.rules.specs.Arrangement.{Terms, due_by}
use Rattle.arrangement.specs.declared.Arrangement.{Arrangement}

-- ---- its words
abbrev pub arrangement_size : ℕ
arrangement_size = 5

abbrev pub arrangement_on : List ℕ → Arrangement
arrangement_on w = record { day = get_or w 0 0; parts = get_or w 1 0; debt = get_or w 2 0; paid = get_or w 3 0; returned = get_or w 4 0 }

-- all of them: equal parts are equal memory
abbrev pub arrangement_words : Arrangement → List ℕ
arrangement_words a = a.day ∷ a.parts ∷ a.debt ∷ a.paid ∷ a.returned ∷ []

-- ---- its step
abbrev pub no_arrangement : Arrangement
no_arrangement = record { day = 0; parts = 0; debt = 0; paid = 0; returned = 0 }

-- owing are the arrears before e, back the payment that a returned payment names
abbrev pub arrangement_after : Arrangement → Event → ℕ → ℕ → Arrangement
arrangement_after a e owing back =
    record {
      day = cond (is arrangement e) e.day a.day;
      parts = cond (is arrangement e) e.option a.parts;
      debt = cond (is arrangement e) owing a.debt;
      paid = cond (is arrangement e) 0 (a.paid + amount_if payment e);
      returned = cond (is arrangement e) 0 (a.returned + cond (is returned_payment e) back 0);
    }

-- the part after a history
unfoldable pub arrangement_of : History → Arrangement
arrangement_of [] = no_arrangement
arrangement_of (e ∷ h) = arrangement_after (arrangement_of h) e (arrears h e.day) (named_payment h e)

-- ---- what it tells
abbrev pub terms_by : Arrangement → Terms
terms_by a = record { day = a.day; parts = a.parts; debt = a.debt }

abbrev pub in_force_by : Arrangement → ℕ → Bool
in_force_by a u = ltb u (a.day + part_days * a.parts) && leb (due_by (terms_by a) u + a.returned) a.paid

-- in at most six parts, on a day in range, and on none where there is none; sums within the limit
abbrev pub arrangement_ok : Arrangement → Bool
arrangement_ok a =
    leb a.parts most_parts
    && leb a.day (final_day * a.parts)
    && leb a.debt limit
    && leb a.paid limit
    && leb a.returned limit

-- what the test tells
pub record ArrangementFit (a : Arrangement) : Type 0 where
  pub parts_le : a.parts ≤ most_parts
  pub day_le : a.day ≤ final_day * a.parts
  pub debt_le : a.debt ≤ limit
  pub paid_le : a.paid ≤ limit
  pub returned_le : a.returned ≤ limit
