-- The search by halves for the largest usage that a sum pays for: what holds between its turns.
use Prim.Native.Nat.{ℕ, suc, ◌+◌, ◌*◌, ◌-◌, ◌/◌, ◌^◌, ◌≤◌, ◌<◌}
use mathlib.Core.Path.{◌≡◌}
use mathlib.Core.Bool.{true}
use native.Mathlib.Omega.{arith}
use Rattle.rules.specs.Limits.{most_usage}
use Rattle.rules.specs.Tariff.{cents_of, is_class}
use Rattle.tariff.proofs.Law.{allowed_in, rises}

-- the turns of a search, the code's HALVINGS
abbrev pub halvings : ℕ
halvings = 24

-- after so many turns: low is paid for, and high and what lies above it are not; the turns that are left search what lies between
pub record Between (class sum low high turns : ℕ) : Type 0 where
  pub low_in_range : low ≤ most_usage
  pub paid : cents_of class low ≤ sum
  pub unpaid : (more : ℕ) → high ≤ more → more ≤ most_usage → sum < cents_of class more
  pub high_in_range : high ≤ most_usage + 1
  pub near : high ≤ low + 2 ^ (halvings - turns)

-- a turn leaves half of what was to be searched
half_left : (left more : ℕ) → left ≡ suc more → 2 ^ left ≡ 2 * 2 ^ more
half_left left more e = rw e (omega arith)

module _ (class sum low high turns : ℕ) (b : Between class sum low high turns) (l : turns < halvings) where
  halved : 2 ^ (halvings - turns) ≡ 2 * 2 ^ (halvings - (turns + 1))
  halved = half_left (halvings - turns) (halvings - (turns + 1)) (omega arith)

  middle_in_range : (low + high) / 2 ≤ most_usage
  middle_in_range = omega (arith, b.low_in_range, b.high_in_range)

  pub upper_half : cents_of class ((low + high) / 2) ≤ sum → Between class sum ((low + high) / 2) high (turns + 1)
  upper_half p =
      record { low_in_range = middle_in_range; paid = p; unpaid = b.unpaid; high_in_range = b.high_in_range; near = omega (arith, b.near, halved) }

  pub lower_half : is_class class ≡ true → sum < cents_of class ((low + high) / 2) → Between class sum low ((low + high) / 2) (turns + 1)
  lower_half k p =
      record {
        low_in_range = b.low_in_range;
        paid = b.paid;
        unpaid = λ more h m. omega (arith, rises class more (allowed_in class more k m) ((low + high) / 2) h, p);
        high_in_range = omega (arith, middle_in_range);
        near = omega (arith, b.near, halved);
      }
