-- The fees, as one table by number, and which of them an event brings.
use Rattle.std.specs.Prelude.{ℕ, ◌+◌, cond, List, [], ◌∷◌, get_or}
use Rattle.rules.specs.declared.Event.{Event}
use Rattle.rules.specs.Kinds.{returned_payment, fee, final_notice, reconnection}
use Rattle.rules.specs.History.{is}

-- 1 connection after hours, 2 tampering, 3 meter test, 4 final notice, 5 returned check, 6 reconnection in hours, 7 reconnection after hours
abbrev pub fees : List ℕ
fees = 7_500 ∷ 15_000 ∷ 3_000 ∷ 1_500 ∷ 2_500 ∷ 2_000 ∷ 7_500 ∷ []

-- the fee of number n; no other number has one
abbrev pub fee_of : ℕ → ℕ
fee_of n = get_or (0 ∷ fees) n 0

-- the number of the fee that e brings, 0 for none: a fee event names it; notice 4, returned payment 5, reconnection 6 or 7 by its option
abbrev pub fee_number : Event → ℕ
fee_number e =
    cond (is fee e) e.option
    (cond (is final_notice e) 4
    (cond (is returned_payment e) 5
    (cond (is reconnection e) (6 + e.option) 0)))
