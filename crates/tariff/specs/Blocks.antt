-- Where the blocks of a row lie.
use Rattle.std.specs.Prelude.{ℕ, List, ◌∷◌, map, get_or}
use Rattle.rules.specs.declared.Block.{Block}
use Rattle.rules.specs.Tariff.{limit_of}

-- block i begins where the one before it ends, the first at 0
abbrev pub start_of : List Block → ℕ → ℕ
start_of row i = get_or (0 ∷ map limit_of row) i 0
