-- What a loop over the records of a book is given: their places under `enumerate`.
use mathlib.Core.Path.{◌≡◌, ap}
use mathlib.Core.List.{List, [], ◌∷◌, ◌++◌, map}
use Prim.Native.Nat.{ℕ, ◌+◌}
use native.Mathlib.Omega.{arith}
use lib.ListN.{length}
use Rattle.std.specs.declared.iter.Enumerate.{Enumerate}
use Rattle.std.specs.Iterator.{Yields, YieldsFirst}
use Rattle.std.specs.Iterator.Adapters.{enumerate_count, enumerate_steps}
use Rattle.std.proofs.lemmas.List.{map-append}
use Rattle.rules.specs.declared.Event.{Event}

-- the events of numbered records
abbrev pub unnumbered : List (ℕ × Event) → List Event
unnumbered xs = map (λ p. p.1) xs

pub unnumbered_more : (xs : List (ℕ × Event)) (x : ℕ × Event) → unnumbered (xs ++ (x ∷ [])) ≡ unnumbered xs ++ (x.1 ∷ [])
unnumbered_more xs x = map-append (λ p. p.1) xs (x ∷ [])

-- a record is numbered by those before it
pub numbered : (s t : Enumerate (List Event)) (xs : List (ℕ × Event)) → Yields (enumerate_steps (YieldsFirst (λ rest. rest))) s xs t
    → enumerate_count t ≡ enumerate_count s + length (unnumbered xs)
numbered s t [] y = omega (arith, ap enumerate_count y)
numbered s t (x ∷ xs) y = omega (arith, y.1.2, numbered y.0 t xs y.2)
