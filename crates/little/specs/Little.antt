-- Numbers in bytes, the lowest byte first.
use Rattle.std.specs.Prelude.{List, [], ◌∷◌, ℕ, zero, suc, ◌+◌, ◌*◌, ◌/◌, ◌%◌, ◌<◌, take, drop, get_or}

-- how many numbers w bytes have: 256 to the w
abbrev pub top : ℕ → ℕ
top zero = 1
top (suc w) = 256 * top w

-- the w bytes of n
unfoldable pub le : ℕ → ℕ → List ℕ
le zero n = []
le (suc w) n = n % 256 ∷ le w (n / 256)

-- the number that bytes make
unfoldable pub un : List ℕ → ℕ
un [] = 0
un (b ∷ l) = b + 256 * un l

-- the w elements from index p on, and the number they make
abbrev pub part : ℕ → ℕ → List ℕ → List ℕ
part w p b = take w (drop p b)

unfoldable pub num : ℕ → ℕ → List ℕ → ℕ
num w p b = un (part w p b)

-- every element is below m; every element is a byte
abbrev pub Under : ℕ → List ℕ → Type 0
Under m l = (i : ℕ) → get_or l i 0 < m

abbrev pub Bytes : List ℕ → Type 0
Bytes l = Under 256 l
