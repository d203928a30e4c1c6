-- A history: the accepted events, newest first; and the few ways in which the rules look through one.
use Rattle.std.specs.Prelude.{ℕ, ◌+◌, Bool, cond, ◌&&◌, List, [], ◌∷◌, leb, eqb}
use Rattle.rules.specs.declared.Event.{Event}

-- `e ∷ h` is "h, and then e"; `[]` is before the first event
abbrev pub History : Type 0
History = List Event

-- e is of kind k
abbrev pub is : ℕ → Event → Bool
is k e = eqb e.kind k

-- t lies in the days from a to b, both of them included
unfoldable pub within : ℕ → ℕ → ℕ → Bool
within a b t = leb a t && leb t b

-- the day of the last accepted event, 0 for none
abbrev pub last_posted : History → ℕ
last_posted [] = 0
last_posted (e ∷ h) = e.day

-- how many events pass p
abbrev pub count : (Event → Bool) → History → ℕ
count p [] = 0
count p (e ∷ h) = count p h + cond (p e) 1 0

-- the events posted after the newest that passes p; all of them where none does
abbrev pub since : (Event → Bool) → History → History
since p [] = []
since p (e ∷ h) = cond (p e) [] (e ∷ since p h)

-- the amount of an event of kind k, 0 of any other
abbrev pub amount_if : ℕ → Event → ℕ
amount_if k e = cond (is k e) e.amount 0

-- the amounts of the events of kind k, added up: the one sum by kind. It opens for computing alone; a proof goes by its one law, `total_grows`
unfoldable pub total : ℕ → History → ℕ
total k [] = 0
total k (e ∷ h) = total k h + amount_if k e

-- the amount of the newest event of kind k, 0 for none
abbrev pub newest : ℕ → History → ℕ
newest k [] = 0
newest k (e ∷ h) = cond (is k e) e.amount (newest k h)
