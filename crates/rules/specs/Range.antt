-- Row 3: each kind has its fields, in their ranges; a field that it does not name is 0. How many days a certificate may have goes by its own day.
use Rattle.std.specs.Prelude.{ℕ, ◌≤◌, Bool, true, ◌&&◌, cond, ◌≡◌, List, [], ◌∷◌, get_or, ltb}
use Rattle.rules.specs.declared.Event.{Event}
use Rattle.rules.specs.declared.Fields.{Fields}
use Rattle.rules.specs.Limits.{final_day, most_amount, most_deposit, most_receipt, last_till, certificate_days, short_certificate_days, short_certificates_from, approval_days, least_parts, most_parts}
use Rattle.rules.specs.History.{within}

-- the amount lies in 1 to n, and the option is not named
abbrev pub amount_to : ℕ → Fields
amount_to n = record { option_from = 0; option_to = 0; amount_from = 1; amount_to = n }

-- the option names a till, and the amount lies in 1 to n
abbrev pub at_till : ℕ → Fields
at_till n = record { option_from = 0; option_to = last_till; amount_from = 1; amount_to = n }

-- the option lies in m to n, and the amount is not named
abbrev pub option_in : ℕ → ℕ → Fields
option_in m n = record { option_from = m; option_to = n; amount_from = 0; amount_to = 0 }

-- neither is named
abbrev pub plain : Fields
plain = option_in 0 0

-- of a kind that is not known: no option is in range
abbrev pub unknown : Fields
unknown = option_in 1 0

-- the most days of a certificate whose event is of day t: from 1 January 2026 on certificates are shorter (document 02, ticket 6)
abbrev pub longest_certificate : ℕ → ℕ
longest_certificate t = cond (ltb t short_certificates_from) certificate_days short_certificate_days

-- the fields of the kinds in an event of day t, by number, from 0 on
abbrev pub fields : ℕ → List Fields
fields t =
    -- 0 is no kind
    unknown
    -- 1 bill: an amount A
    ∷ amount_to most_amount
    -- 2 payment: its till, and an amount A; 3 returned payment: its till, and its receipt there
    ∷ at_till most_amount
    ∷ at_till most_receipt
    -- 4 fee: its number
    ∷ option_in 1 3
    -- 5 deposit asked, 6 deposit paid: an amount; 7 deposit moved
    ∷ amount_to most_deposit
    ∷ amount_to most_amount
    ∷ plain
    -- 8 payout: an amount A
    ∷ amount_to most_amount
    -- 9 certificate, 10 approval: a number of days
    ∷ amount_to (longest_certificate t)
    ∷ amount_to approval_days
    -- 11 arrangement: a number of parts
    ∷ option_in least_parts most_parts
    -- 12 final notice, 13 call, 14 disconnection
    ∷ plain
    ∷ plain
    ∷ plain
    -- 15 reconnection: 0 in hours, 1 after hours
    ∷ option_in 0 1
    -- 16 closing
    ∷ plain
    ∷ []

-- the fields of kind k in an event of day t
abbrev pub fields_of : ℕ → ℕ → Fields
fields_of k t = get_or (fields t) k unknown

-- e's option and amount lie in the ranges
abbrev pub fits : Fields → Event → Bool
fits f e = within f.option_from f.option_to e.option && within f.amount_from f.amount_to e.amount

-- the kind is known, and its fields are in range on the event's day
unfoldable pub in_range : Event → Bool
in_range e = fits (fields_of e.kind e.day) e

-- an event that rows 1 and 3 let pass: its day and its fields are in range
pub record WellFormed (e : Event) : Type 0 where
  pub in_time : e.day ≤ final_day
  pub fields_fit : in_range e ≡ true
