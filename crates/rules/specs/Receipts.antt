-- Receipts: each till counts its own, 1, 2, 3 .. over its accepted payments. The option of a payment, and of a returned one, names the till.
use Rattle.std.specs.Prelude.{ℕ, ◌-◌, Bool, cond, not, ◌&&◌, List, [], ◌∷◌, ltb, eqb, length, get_or}
use Rattle.std.specs.List.{list_any}
use Rattle.rules.specs.declared.Event.{Event}
use Rattle.rules.specs.Limits.{known_receipts}
use Rattle.rules.specs.Kinds.{payment, returned_payment}
use Rattle.rules.specs.History.{History, is, within}

-- e is of kind k, and names the till
abbrev pub is_at : ℕ → ℕ → Event → Bool
is_at till k e = is k e && eqb e.option till

-- the amounts of a till's payments, newest first: the receipt of the newest is how many there are
abbrev pub payments : ℕ → History → List ℕ
payments till [] = []
payments till (e ∷ h) = cond (is_at till payment e) (e.amount ∷ payments till h) (payments till h)

-- the payment of the till's receipt r has been returned
abbrev pub returned : ℕ → History → ℕ → Bool
returned till h r = list_any (λ e. is_at till returned_payment e && eqb e.amount r) h

-- known: each till's newest 16 payments, each returned once
abbrev pub known : ℕ → History → ℕ → Bool
known till h r = within 1 (length (payments till h)) r && ltb (length (payments till h) - r) known_receipts && not (returned till h r)

-- the accepted payment of a till's known receipt; 0, which no payment is, of any other
abbrev pub returnable : ℕ → History → ℕ → ℕ
returnable till h r = cond (known till h r) (get_or (payments till h) (length (payments till h) - r) 0) 0

-- the payment that e names where it is a returned one, by till and receipt
abbrev pub named_payment : History → Event → ℕ
named_payment h e = returnable e.option h e.amount
