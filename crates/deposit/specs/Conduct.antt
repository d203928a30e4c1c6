-- The final notices and disconnections that an account keeps for the deposit.
use Rattle.std.specs.Prelude.{ℕ, ◌+◌, ◌-◌, Bool, cond, not, ◌&&◌, [], ◌∷◌, leb}
use Rattle.rules.specs.declared.Event.{Event}
use Rattle.rules.specs.Kinds.{final_notice, disconnection}
use Rattle.rules.specs.Limits.{final_day, conduct_days}
use Rattle.rules.specs.History.{History, is}
use Rattle.deposit.specs.declared.Conduct.{Conduct}

abbrev pub no_conduct : Conduct
no_conduct = record { first = 0; second = 0; third = 0; cut = 0 }

abbrev pub conduct_after : Conduct → Event → Conduct
conduct_after w e =
    record {
      first = cond (is final_notice e) (e.day + 1) w.first;
      second = cond (is final_notice e) w.first w.second;
      third = cond (is final_notice e) w.second w.third;
      cut = cond (is disconnection e) (e.day + 1) w.cut;
    }

unfoldable pub conduct_of : History → Conduct
conduct_of [] = no_conduct
conduct_of (e ∷ h) = conduct_after (conduct_of h) e

-- next is the day after some day of the 365 up to t
unfoldable pub recent_by : ℕ → ℕ → Bool
recent_by next t = leb 1 next && leb t (next + (conduct_days - 2))

-- at most two notices, and no disconnection, in the 365 days up to t
abbrev pub quiet_by : Conduct → ℕ → Bool
quiet_by w t = not (recent_by w.third t) && not (recent_by w.cut t)

abbrev pub conduct_ok : Conduct → Bool
conduct_ok w = leb w.first (final_day + 1) && leb w.second w.first && leb w.third w.second && leb w.cut (final_day + 1)
