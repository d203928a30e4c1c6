-- Days: what a window says of a day, and that the days of a lawful history are in order and in range.
use Prim.Native.Nat.{ℕ, ◌≤◌}
use mathlib.Core.Path.{◌≡◌}
use mathlib.Core.Bool.{true}
use mathlib.Core.List.{[], ◌∷◌}
use lib.Dec.{leb}
use borrow.Author.Tests.{leb-true, le-leb}
use Rattle.std.proofs.lemmas.Bool.{and_from, and_parts}
use Rattle.rules.specs.History.{History, within, last_posted}

pub within_true : (a b t : ℕ) → within a b t ≡ true → (a ≤ t) × (t ≤ b)
unfolding within
within_true a b t e = (leb-true a t (and_parts (leb a t) (leb t b) e).0, leb-true t b (and_parts (leb a t) (leb t b) e).1)

pub within_in : (a b t : ℕ) → a ≤ t → t ≤ b → within a b t ≡ true
unfolding within
within_in a b t p q = and_from (leb a t) (leb t b) (le-leb a t p) (le-leb t b q)

-- no event is posted before the one before it
abbrev pub Sorted : History → Type 0
Sorted [] = Unit {0}
Sorted (e ∷ h) = (last_posted h ≤ e.day) × Sorted h
