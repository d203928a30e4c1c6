-- Payment arrangements.
use Rattle.std.specs.Prelude.{ℕ, ◌+◌, ◌*◌, ◌-◌, ◌/◌, min, Bool, cond, ◌&&◌, [], ◌∷◌, leb, ltb}
use Rattle.rules.specs.Limits.{part_days}
use Rattle.rules.specs.Kinds.{payment, returned_payment, arrangement}
use Rattle.rules.specs.History.{History, is, since, total}
use Rattle.rules.specs.Receipts.{named_payment}
use Rattle.rules.specs.Money.{arrears}

-- what was arranged: the day t, in n parts, and D, the arrears before it
pub record Terms : Type 0 where
  pub day : ℕ
  pub parts : ℕ
  pub debt : ℕ

-- the latest arrangement, which replaces the old for good; in no parts where there is none
abbrev pub terms : History → Terms
terms [] = record { day = 0; parts = 0; debt = 0 }
terms (e ∷ h) =
    cond (is arrangement e) (record { day = e.day; parts = e.option; debt = arrears h e.day }) (terms h)

-- the payments posted after the latest arrangement
abbrev pub paid_since : History → ℕ
paid_since h = total payment (since (is arrangement) h)

-- the returned payments, without fee 5, posted after the latest arrangement, whenever they were paid
abbrev pub returned_since : History → ℕ
returned_since [] = 0
returned_since (e ∷ h) =
    cond (is arrangement e) 0 (returned_since h + cond (is returned_payment e) (named_payment h e) 0)

-- q: D / n rounded up
abbrev pub instalment : Terms → ℕ
instalment a = (a.debt + (a.parts - 1)) / a.parts

-- what must be paid by day u: min(D, q × j), j = (u − t) div 30
abbrev pub due_by : Terms → ℕ → ℕ
due_by a u = min a.debt (instalment a * ((u - a.day) / part_days))

-- in force on u (document 01: stands): u < t + 30n, and payments less returned payments are at least what must be paid
abbrev pub in_force : History → ℕ → Bool
in_force h u =
    ltb u ((terms h).day + part_days * (terms h).parts)
    && leb (due_by (terms h) u + returned_since h) (paid_since h)
