-- Charges and credits: C, P, the items, their unpaid parts, the arrears.
use Rattle.std.specs.Prelude.{ℕ, ◌+◌, ◌*◌, ◌-◌, ◌/◌, min, Bool, cond, ◌||◌, List, [], ◌∷◌, ◌++◌, leb, ltb, ℤ}
use Rattle.std.specs.List.{filter}
use Rattle.std.proofs.Math.IntN.{sub_ℕ}
use Rattle.rules.specs.Limits.{grace}
use Rattle.rules.specs.declared.Event.{Event}
use Rattle.rules.specs.Kinds.{bill, payment, returned_payment, fee, payout, final_notice, reconnection}
use Rattle.rules.specs.History.{History, is, amount_if, total}
use Rattle.rules.specs.Fees.{fee_of, fee_number}
use Rattle.rules.specs.Receipts.{named_payment}
use Rattle.rules.specs.Deposit.{moves, moved}

-- ---- credits
-- what e credits, held being the deposit before it: a payment, or the deposit where e moves it
abbrev pub credit_by : ℕ → Event → ℕ
credit_by held e = amount_if payment e + cond (moves e) held 0

-- payments plus deposits moved
abbrev pub credited : History → ℕ
credited h = total payment h + moved h

-- P: payments plus deposits moved, less payouts
abbrev pub credits : History → ℕ
credits h = credited h - total payout h

-- ---- charges
-- e makes an item: a bill, a returned payment, a fee, a final notice, a reconnection
abbrev pub charges : Event → Bool
charges e = is bill e || is returned_payment e || is fee e || is final_notice e || is reconnection e

-- the late charge on what is owed above 0, 3/4 per cent: times 3, a quarter, a hundredth, fractions dropped at both divisions
abbrev pub late_charge : ℕ → ℕ
late_charge owed = 3 * owed / 4 / 100

-- the late charge in a bill, of C and P before it; no event but a bill has one
abbrev pub late_in : ℕ → ℕ → Event → ℕ
late_in c p e = cond (is bill e) (late_charge (c - p)) 0

-- the amount of the item that e makes, 0 where it makes none; c is C, p is P, r the payment that it names, all before e
abbrev pub charge_by : ℕ → ℕ → ℕ → Event → ℕ
charge_by c p r e = amount_if bill e + late_in c p e + cond (is returned_payment e) r 0 + fee_of (fee_number e)

-- C: the sum of all items
abbrev pub charged : History → ℕ
charged [] = 0
charged (e ∷ h) = charged h + charge_by (charged h) (credits h) (named_payment h e) e

-- the amount of the item that e makes after h
abbrev pub charge : History → Event → ℕ
charge h e = charge_by (charged h) (credits h) (named_payment h e) e

-- owed: C − P, which may be negative
abbrev pub owed : History → ℤ
owed h = sub_ℕ (charged h) (credits h)

-- ---- items
-- an item: its event's day, its amount a_k, and C_k, the sum of items 1 to k
pub record Item : Type 0 where
  pub day : ℕ
  pub amount : ℕ
  pub upto : ℕ

-- every item in the order posted
abbrev pub items : History → List Item
items [] = []
items (e ∷ h) =
    cond (charges e)
    (items h ++ (record { day = e.day; amount = charge h e; upto = charged (e ∷ h) } ∷ []))
    (items h)

-- the unpaid part of an item: min(a_k, max(0, C_k − P)); credits pay the oldest first
abbrev pub unpaid : ℕ → Item → ℕ
unpaid p x = min x.amount (x.upto - p)

-- f of each item, added up
abbrev pub sum_of : (Item → ℕ) → List Item → ℕ
sum_of f [] = 0
sum_of f (x ∷ xs) = f x + sum_of f xs

-- open: the unpaid part is above 0
abbrev pub open_items : History → List Item
open_items h = filter (λ x. ltb 0 (unpaid (credits h) x)) (items h)

-- the unpaid part of an item that is delinquent on t: its day + 20 ≤ t
abbrev pub due : ℕ → ℕ → Item → ℕ
due p t x = cond (leb (x.day + grace) t) (unpaid p x) 0

-- arrears on t: the unpaid parts of delinquent items
abbrev pub arrears : History → ℕ → ℕ
arrears h t = sum_of (due (credits h) t) (items h)
