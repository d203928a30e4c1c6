-- Reading for a budget (document 02, ticket 4): the largest usage that a sum pays for.
use Rattle.std.specs.Prelude.{ℕ, zero, suc, Bool, cond, leb, ltb, Option, Some, None, Result}
use Rattle.rules.specs.declared.refusals.Refusal.{Refusal}
use Rattle.rules.specs.Limits.{most_usage}
use Rattle.rules.specs.Answer.{answered}
use Rattle.rules.specs.Tariff.{is_class, cents_of}

-- the largest number from 0 to n of which p holds: the first on the way down; 0 where it holds of none above
unfoldable pub largest_where : (ℕ → Bool) → ℕ → ℕ
largest_where p zero = 0
largest_where p (suc n) = cond (p (suc n)) (suc n) (largest_where p n)

-- the sum pays for a usage whose bill is at most that sum
abbrev pub pays : ℕ → ℕ → ℕ → Bool
pays class sum usage = leb (cents_of class usage) sum

-- the largest usage, 0 to 10,000,000, that the sum pays for, or none when even usage 0 costs more
abbrev pub usage_for : ℕ → ℕ → Option ℕ
usage_for class sum = cond (ltb sum (cents_of class 0)) None (Some (largest_where (pays class sum) most_usage))

-- a class not 1 to 3 gets number 23
abbrev pub class_refusal : ℕ → ℕ
class_refusal class = cond (is_class class) 0 23

-- a usage or none, or refused
abbrev pub Reading : Type 0
Reading = Result (Option ℕ) Refusal

-- the reading for a class and a sum: that usage or none, or refused with the number
abbrev pub reading_of : ℕ → ℕ → Reading
reading_of class sum = answered (class_refusal class) (usage_for class sum)
