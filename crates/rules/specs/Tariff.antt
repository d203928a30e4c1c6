-- Bills from the reading (document 02, ticket 1): the amount for a bill, worked out from a class and its kilowatt-hours.
use Rattle.std.specs.Prelude.{ℕ, ◌+◌, ◌*◌, ◌-◌, ◌/◌, min, Bool, cond, ◌&&◌, List, [], ◌∷◌, leb, eqb, get_or, Result}
use Rattle.rules.specs.declared.Block.{Block}
use Rattle.rules.specs.declared.Line.{Line}
use Rattle.rules.specs.declared.refusals.Refusal.{Refusal}
use Rattle.rules.specs.Limits.{last_class, most_usage}
use Rattle.rules.specs.Answer.{answered}

-- the basic charges in cents: class 1 residential, class 2 single phase, class 3 three phase
abbrev pub basic_charges : List ℕ
basic_charges = 1_031 ∷ 1_229 ∷ 2_218 ∷ []

abbrev block : ℕ → ℕ → Block
block l p = record { limit = l; price = p }

abbrev pub limit_of : Block → ℕ
limit_of b = b.limit

abbrev pub price_of : Block → ℕ
price_of b = b.price

-- the schedules, a row of block limits and prices for each class: all energy 731; all 767; 767, 647 and 467
abbrev pub schedules : List (List Block)
schedules =
    (block 15_000 731 ∷ block 50_000 731 ∷ block most_usage 731 ∷ [])
    ∷ (block 15_000 767 ∷ block 50_000 767 ∷ block most_usage 767 ∷ [])
    ∷ (block 15_000 767 ∷ block 50_000 647 ∷ block most_usage 467 ∷ [])
    ∷ []

-- the lines of a usage by any row of blocks, of which the first begins at `from`: what of the usage lies in each block, at its price
abbrev pub lines_from : ℕ → List Block → ℕ → List Line
lines_from from [] usage = []
lines_from from (b ∷ row) usage =
    record { used = min usage (limit_of b) - from; price = price_of b } ∷ lines_from (limit_of b) row usage

-- E, the energy sum in hundredths of a cent: the kilowatt-hours of each line at its price
abbrev pub energy_of : List Line → ℕ
energy_of [] = 0
energy_of (l ∷ ls) = l.price * l.used + energy_of ls

-- E by any row of blocks
abbrev pub energy_by : List Block → ℕ → ℕ
energy_by row usage = energy_of (lines_from 0 row usage)

-- the row and the basic charge of a class
abbrev pub row_of : ℕ → List Block
row_of class = get_or schedules (class - 1) []

abbrev pub basic_of : ℕ → ℕ
basic_of class = get_or basic_charges (class - 1) 0

-- the bill in cents: the basic charge plus (E + 50) div 100
unfoldable pub cents_of : ℕ → ℕ → ℕ
cents_of class usage = basic_of class + (energy_by (row_of class) usage + 50) / 100

abbrev pub is_class : ℕ → Bool
is_class class = leb 1 class && leb class last_class

-- 23: class not 1 to 3 or usage over 10,000,000, before anything else; 0 where neither is so
abbrev pub bill_refusal : ℕ → ℕ → ℕ
bill_refusal class usage = cond (is_class class && leb usage most_usage) 0 23

-- the bill of a class and a usage, or refused with the number
abbrev pub bill_of : ℕ → ℕ → Result ℕ Refusal
bill_of class usage = answered (bill_refusal class usage) (cents_of class usage)

-- the lines of a bill, in the order of the blocks; none where it is refused
abbrev pub bill_lines : ℕ → ℕ → List Line
bill_lines class usage = cond (eqb (bill_refusal class usage) 0) (lines_from 0 (row_of class) usage) []

-- past the last line there is none
abbrev pub no_line : Line
no_line = record { used = 0; price = 0 }
