-- The deposit that an account keeps.
use Rattle.std.specs.Prelude.{ℕ, ◌+◌, ◌≤◌, Bool, cond, ◌&&◌, ◌||◌, List, [], ◌∷◌, leb, ltb, eqb, get_or}
use Rattle.rules.specs.declared.Event.{Event}
use Rattle.rules.specs.Kinds.{deposit_asked, deposit_paid, deposit_moved, final_notice, disconnection, closing}
use Rattle.rules.specs.Limits.{final_day, most_deposit}
use Rattle.rules.specs.Dates.{year_later, has_come}
use Rattle.rules.specs.History.{History, is, amount_if}
use Rattle.rules.specs.Deposit.{moves}
use Rattle.deposit.specs.declared.Deposit.{Deposit}
use Rattle.deposit.specs.Conduct.{no_conduct, conduct_after, quiet_by, conduct_ok}

abbrev pub no_deposit : Deposit
no_deposit = record { held = 0; required = 0; full_on = 0; conduct = no_conduct }

abbrev pub is_full : Deposit → Bool
is_full d = ltb 0 d.required && eqb d.held d.required

-- a deposit paid adds, a sum asked replaces, a move and a closing clear; full since the newest paid, by which alone it can become full
abbrev pub deposit_after : Deposit → Event → Deposit
deposit_after d e =
    record {
      held = cond (moves e) 0 (d.held + amount_if deposit_paid e);
      required = cond (moves e) 0 (cond (is deposit_asked e) e.amount d.required);
      full_on = cond (is deposit_paid e) e.day d.full_on;
      conduct = conduct_after d.conduct e;
    }

-- an event of one of the kinds that change it: the deposit's own, a final notice, a disconnection, a closing
abbrev pub concerns : Event → Bool
concerns e =
    (leb deposit_asked e.kind && leb e.kind deposit_moved)
    || is final_notice e
    || is disconnection e
    || is closing e

-- the part after a history
unfoldable pub deposit_of : History → Deposit
deposit_of [] = no_deposit
deposit_of (e ∷ h) = deposit_after (deposit_of h) e

abbrev pub earned_by : Deposit → ℕ → Bool
earned_by d t = is_full d && has_come (year_later d.full_on) t && quiet_by d.conduct t

abbrev pub deposit_ok : Deposit → Bool
deposit_ok d =
    leb d.held d.required
    && leb d.required most_deposit
    && leb d.full_on final_day
    && conduct_ok d.conduct

-- what the test tells
pub record DepositFit (d : Deposit) : Type 0 where
  pub held_le : d.held ≤ d.required
  pub required_le : d.required ≤ most_deposit

-- ---- its words
abbrev pub deposit_size : ℕ
deposit_size = 7

abbrev pub deposit_on : List ℕ → Deposit
deposit_on w =
    record {
      held = get_or w 0 0;
      required = get_or w 1 0;
      full_on = get_or w 2 0;
      conduct = record { first = get_or w 3 0; second = get_or w 4 0; third = get_or w 5 0; cut = get_or w 6 0 };
    }

abbrev pub deposit_words : Deposit → List ℕ
deposit_words d =
    d.held
    ∷ d.required
    ∷ d.full_on
    ∷ d.conduct.first
    ∷ d.conduct.second
    ∷ d.conduct.third
    ∷ d.conduct.cut
    ∷ []
