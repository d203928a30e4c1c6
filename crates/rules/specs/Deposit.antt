-- The deposit: asked, paid, moved to the credits.
use Rattle.std.specs.Prelude.{ℕ, ◌+◌, ◌-◌, Bool, cond, not, ◌&&◌, ◌||◌, [], ◌∷◌, leb, ltb, eqb}
use Rattle.std.specs.List.{list_any}
use Rattle.rules.specs.Limits.{conduct_days, most_notices}
use Rattle.rules.specs.declared.Event.{Event}
use Rattle.rules.specs.Dates.{year_later, has_come}
use Rattle.rules.specs.Kinds.{deposit_asked, deposit_paid, deposit_moved, final_notice, disconnection, closing}
use Rattle.rules.specs.History.{History, is, within, count, since, total, newest}

-- a deposit is moved by 7, and by closing, earned or not
abbrev pub moves : Event → Bool
moves e = is deposit_moved e || is closing e

-- held: the deposits paid since the last was moved
abbrev pub held : History → ℕ
held h = total deposit_paid (since moves h)

-- the deposits moved: each is what was held before it
abbrev pub moved : History → ℕ
moved [] = 0
moved (e ∷ h) = moved h + cond (moves e) (held h) 0

-- required: the sum last asked since the last was moved, 0 for none
abbrev pub required : History → ℕ
required h = newest deposit_asked (since moves h)

-- full: a sum is required, and it is held
abbrev pub full : History → Bool
full h = ltb 0 (required h) && eqb (held h) (required h)

-- of a full deposit, the day on which held and required became equal
abbrev pub full_on : History → ℕ
full_on [] = 0
full_on (e ∷ h) = cond (full h) (full_on h) e.day

-- e's day lies in t − 364 to t
abbrev pub recent : ℕ → Event → Bool
recent t e = within e.day (e.day + (conduct_days - 1)) t

-- earned on t: the same date one year after it became full has come, at most two notices in t − 364 to t, and no disconnection in those days
abbrev pub earned : History → ℕ → Bool
earned h t =
    full h
    && has_come (year_later (full_on h)) t
    && leb (count (λ e. is final_notice e && recent t e) h) most_notices
    && not (list_any (λ e. is disconnection e && recent t e) h)
