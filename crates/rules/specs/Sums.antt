-- The sums that demand 3 speaks of beside the sums by kind, each over the accepted events.
use Rattle.std.specs.Prelude.{ℕ, ◌+◌, cond, [], ◌∷◌}
use Rattle.rules.specs.declared.Event.{Event}
use Rattle.rules.specs.Kinds.{returned_payment}
use Rattle.rules.specs.History.{History, is}
use Rattle.rules.specs.Fees.{fee_of, fee_number}
use Rattle.rules.specs.Receipts.{named_payment}
use Rattle.rules.specs.Money.{charged, credits, late_in}

-- f of the events before each event and of the event, added up
abbrev pub sum_over : (History → Event → ℕ) → History → ℕ
sum_over f [] = 0
sum_over f (e ∷ h) = sum_over f h + f h e

-- the late charges in the bills, each on what was owed before its bill
abbrev pub late_charges : History → ℕ
late_charges h = sum_over (λ before e. late_in (charged before) (credits before) e) h

-- the fees, fee 5 among them
abbrev pub fees_charged : History → ℕ
fees_charged h = sum_over (λ before e. fee_of (fee_number e)) h

-- the returned payments, without fee 5
abbrev pub returned_payments : History → ℕ
returned_payments h = sum_over (λ before e. cond (is returned_payment e) (named_payment before e) 0) h
