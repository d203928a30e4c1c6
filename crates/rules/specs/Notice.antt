-- Final notices and calls.
use Rattle.std.specs.Prelude.{ℕ, ◌+◌, Bool, false, not, ◌&&◌, ◌||◌, [], ◌∷◌, leb, Option}
use Rattle.std.specs.List.{list_any}
use Rattle.rules.specs.declared.Calendar.{Calendar}
use Rattle.rules.specs.Limits.{enough, notice_to, call_days}
use Rattle.rules.specs.Kinds.{final_notice, call, disconnection}
use Rattle.rules.specs.History.{History, is, within}
use Rattle.rules.specs.Money.{arrears}
use Rattle.rules.specs.Workdays.{waited}

-- some notice whose day passes p: no later disconnection used it up, and after it and after each later event the arrears on that
-- event's day were at least 5,000
abbrev pub surviving : (ℕ → Bool) → History → Bool
surviving p [] = false
surviving p (e ∷ h) =
    ((is final_notice e && p e.day) || surviving p h)
    && not (is disconnection e)
    && leb enough (arrears (e ∷ h) e.day)

-- a notice of day n is live on n to n + 20
abbrev pub notice_live : History → ℕ → Bool
notice_live h t = surviving (λ n. within n (n + notice_to) t) h

-- a live notice of day n in its days: t ≤ n + 20, and it has waited, five days or with a calendar five working days
abbrev pub notice_in_days : Option Calendar → History → ℕ → Bool
notice_in_days c h t = surviving (λ n. leb t (n + notice_to) && waited c n t) h

-- a call on some day from t − 3 to t − 1
abbrev pub called : History → ℕ → Bool
called h t = list_any (λ e. is call e && within (e.day + 1) (e.day + call_days) t) h
