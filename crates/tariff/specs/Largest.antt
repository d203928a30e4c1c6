-- What a sum pays for, as facts: the largest usage, or none.
use Rattle.std.specs.Prelude.{ℕ, ◌≤◌, ◌<◌}
use Rattle.rules.specs.Limits.{most_usage}
use Rattle.rules.specs.Tariff.{cents_of}

-- exact, and maximal
pub record Largest (class sum usage : ℕ) : Type 0 where
  pub in_range : usage ≤ most_usage
  -- its bill is at most the sum
  pub paid : cents_of class usage ≤ sum
  -- every larger allowed usage costs more than the sum
  pub maximal : (more : ℕ) → usage < more → more ≤ most_usage → sum < cents_of class more

-- every allowed usage costs more than the sum
abbrev pub NonePaid : ℕ → ℕ → Type 0
NonePaid class sum = (usage : ℕ) → usage ≤ most_usage → sum < cents_of class usage
