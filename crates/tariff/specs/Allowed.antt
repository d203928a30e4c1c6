-- A class and a usage that are not refused, as facts.
use Rattle.std.specs.Prelude.{ℕ, ◌≤◌}
use Rattle.rules.specs.Limits.{last_class, most_usage}

pub record Allowed (class usage : ℕ) : Type 0 where
  pub from_1 : 1 ≤ class
  pub to_last : class ≤ last_class
  pub usage_in_range : usage ≤ most_usage
