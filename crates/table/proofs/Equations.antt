-- Sums against the limit.
use Prim.Native.Nat.{ℕ, ◌+◌, ◌≤◌, ◌<◌, min}
use mathlib.Core.Path.{◌≡◌, sym, ◌∙◌}
use native.Mathlib.Omega.{arith}
use lib.Dec.{ltb}
use borrow.Author.Tests.{lt-ltb, le-ltb}
use Rattle.basics.specs.Machine.{largest}
use Rattle.basics.proofs.Cases.{on_lt}
use Rattle.rules.specs.Limits.{limit}

same_test : (x y : ℕ) → (limit < x → limit < y) → (x ≤ limit → y ≤ limit) → ltb limit x ≡ ltb limit y
same_test x y f g = on_lt limit x (λ q l. q ∙ sym (lt-ltb limit y (f l))) (λ q l. q ∙ sym (le-ltb limit y (g l)))

-- a sum with an amount that stops at the largest number passes the limit where the sum does
pub passing : (a b : ℕ) → ltb limit (a + min b largest) ≡ ltb limit (a + b)
passing a b = same_test (a + min b largest) (a + b) (λ l. omega arith) (λ l. omega arith)
