-- Text stored into lent bytes.
use Rattle.std.specs.Prelude.{ℕ, ◌+◌, ◌≡◌, List, length}
use Rattle.std.proofs.lemmas.List.Edits.{sets}

-- x is stored from p on, and the text goes on at next
pub record Put (x old new : List ℕ) (p next : ℕ) : Type 0 where
  pub bytes : new ≡ sets old p x
  pub end : next ≡ p + length x
