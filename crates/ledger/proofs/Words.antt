-- The ledger and its words: equal ledgers are equal memory.
use Prim.Native.Nat.{ℕ, ◌≤◌}
use mathlib.Core.Path.{◌≡◌, refl, sym}
use mathlib.Core.List.{List, [], ◌∷◌}
use native.Mathlib.Omega.{arith}
use lib.ListN.{length}
use Rattle.ledger.specs.Ledger.{ledger_size, ledger_on, ledger_words}

-- ---- the words are the ledger, and the ledger is its words
whole : (w : List ℕ) → 6 ≤ length w → w ≡ ledger_words (ledger_on w)
whole [] h = absurd (omega arith)
whole (a ∷ []) h = absurd (omega arith)
whole (a ∷ b ∷ []) h = absurd (omega arith)
whole (a ∷ b ∷ c ∷ []) h = absurd (omega arith)
whole (a ∷ b ∷ c ∷ d ∷ []) h = absurd (omega arith)
whole (a ∷ b ∷ c ∷ d ∷ e ∷ []) h = absurd (omega arith)
whole (a ∷ b ∷ c ∷ d ∷ e ∷ f ∷ r) h = refl

pub ledger_whole : (w : List ℕ) → length w ≡ ledger_size → ledger_words (ledger_on w) ≡ w
ledger_whole w l = sym (whole w (omega arith))
