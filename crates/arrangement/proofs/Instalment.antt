-- The library's quotient rounded up is the one that the instalments are told by.
use Prim.Native.Nat.{ℕ, ◌+◌, ◌-◌, ◌*◌, ◌/◌, ◌%◌, ◌<◌, min}
use mathlib.Core.Path.{◌≡◌, sym, ◌∙◌}
use native.Mathlib.Omega.{arith}
use Rattle.std.proofs.lemmas.Grind.{div_ceil_times}
use Rattle.std.proofs.lemmas.Nat.{div-mul-add}

pub rounded_up : (a b : ℕ) → 0 < b → a / b + min 1 (a % b) ≡ (a + (b - 1)) / b
rounded_up a b h =
    let c = a / b + min 1 (a % b) in
    let t = div_ceil_times a b h in
    let r = (a + (b - 1)) - c * b in
    let e : a + (b - 1) ≡ c * b + r = omega (arith, t.1) in
    let s : r < b = omega (arith, t.0, h) in
    rw e (sym (div-mul-add c b r s))

-- .. and the quotient of any sum a that equals d is the instalment of d
pub instalment_is : {q a : ℕ} (d b : ℕ) → q ≡ a / b + min 1 (a % b) → a ≡ d → 0 < b → q ≡ (d + (b - 1)) / b
instalment_is d b e s h = rw s at e ∙ rounded_up d b h
