-- The exact condition for a disconnection (document 01: a cut).
use Prim.Native.Nat.{ℕ, ◌≤◌}
use mathlib.Core.Path.{◌≡◌, refl, ap, ◌∙◌}
use mathlib.Core.Bool.{Bool, true, false, cond, not, ◌&&◌, ◌||◌}
use lib.Dec.{leb, ltb, eqb}
use borrow.Author.Tests.{le-ltb, le-leb, lt-leb}
use Rattle.basics.proofs.Cases.{on_lt}
use Rattle.std.specs.Prelude.{Option}
use Rattle.rules.specs.declared.Calendar.{Calendar}
use Rattle.rules.specs.declared.Service.{Service}
use Rattle.rules.specs.declared.Service.TheVariants.{On, Off, Closed}
use Rattle.rules.specs.Limits.{final_day, enough}
use Rattle.rules.specs.History.{History, within, last_posted}
use Rattle.rules.specs.Service.{service, is_on, is_closed}
use Rattle.rules.specs.Money.{arrears}
use Rattle.rules.specs.Workdays.{in_calendar}
use Rattle.rules.specs.Notice.{notice_in_days, called}
use Rattle.rules.specs.Medical.{certified, approved}
use Rattle.rules.specs.Arrangement.{in_force}
use Rattle.rules.specs.Range.{in_range}
use Rattle.rules.specs.Table.{refusal_by}
use Rattle.rules.specs.Accepted.{refusal, cut_on, may_cut}

-- the rows that concern a disconnection, of the values they look at: the service, the day in the calendar, arrears too low, and the rest
rows : (s : Service) (k low n c f m p : Bool)
    → eqb (cond (is_closed s && true) 4
    (cond ((not (is_on s)) || false) 5 (cond (not k) 24 (cond low 10 (cond (not n) 12 (cond (not c) 13 (cond f 14 (cond (m && not p) 15 0)))))))) 0
    ≡ (is_on s && k && not low && n && c && not f && (not m || p))
rows Closed k low n c f m p = refl
rows Off k low n c f m p = refl
rows On false low n c f m p = refl
rows On true true n c f m p = refl
rows On true false false c f m p = refl
rows On true false true false f m p = refl
rows On true false true true true m p = refl
rows On true false true true false false p = refl
rows On true false true true false true true = refl
rows On true false true true false true false = refl

not_low : (a : ℕ) → not (ltb a enough) ≡ leb enough a
not_low a = on_lt a enough (λ q l. rw (q, lt-leb enough a l)) (λ q l. rw (q, le-leb enough a l))

-- on a day in range and not before the last accepted, a well-formed disconnection is accepted exactly when it is lawful
pub cut_exact : (c : Option Calendar) (h : History) (t : ℕ) → t ≤ final_day → last_posted h ≤ t → eqb (refusal c h (cut_on t)) 0 ≡ may_cut c h t
unfolding within in_range refusal_by
cut_exact c h t p q =
    rw (le-ltb final_day t p, le-ltb t (last_posted h) q)
    (rows (service h) (in_calendar c t) (ltb (arrears h t) enough) (notice_in_days c h t) (called h t) (in_force h t) (certified h t) (approved h t)
    ∙ ap (λ b. is_on (service h) && in_calendar c t && b && notice_in_days c h t && called h t && not (in_force h t) && (not (certified h t) || approved h t)) (not_low (arrears h t)))
