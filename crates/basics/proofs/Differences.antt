-- Differences of two naturals that may be negative.
use Prim.Native.Nat.{ℕ, zero, suc, ◌+◌, ◌-◌}
use mathlib.Core.Path.{◌≡◌, ap, ◌∙◌}
use native.Mathlib.Omega.{arith}
use lib.IntN.{pos, negsuc, sub_ℕ, ◌-ℤ◌, +ℤ_idr}
use borrow.Author.Tests.{lt-ltb, le-ltb}
use Rattle.basics.proofs.Cases.{on_lt}

-- two differences are equal where the sums across are
pub difference : (a b c d : ℕ) → a + d ≡ c + b → sub_ℕ a b ≡ sub_ℕ c d
difference a b c d e =
    on_lt a b
    (λ q l. rw (q, lt-ltb c d (omega arith)) (ap negsuc (omega arith)))
    (λ q l. rw (q, le-ltb c d (omega arith)) (ap pos (omega arith)))

-- a difference less a number
pub less_more : (a b n : ℕ) → sub_ℕ a b -ℤ pos n ≡ sub_ℕ a (b + n)
less_more a b zero = +ℤ_idr (sub_ℕ a b) ∙ difference a b a (b + 0) (omega arith)
less_more a b (suc n) =
    on_lt a b
    (λ q l. rw (q, lt-ltb a (b + suc n) (omega arith)) (ap negsuc (omega arith)))
    (λ q l. rw q (difference (a - b) (suc n) a (b + suc n) (omega arith)))
