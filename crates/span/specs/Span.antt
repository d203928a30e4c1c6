-- Memory in spans of words, one after the other.
use Rattle.std.specs.Prelude.{ℕ, zero, suc, ◌+◌, List, [], ◌∷◌, ◌++◌, take, drop}

-- m after its k words from a on were lent and came back as ys
abbrev pub put : ℕ → ℕ → List ℕ → List ℕ → List ℕ
put a k ys m = take a m ++ (ys ++ drop k (drop a m))

-- the spans of m from a on, of so many words each
abbrev pub cut : ℕ → List ℕ → List ℕ → List (List ℕ)
cut a [] m = []
cut a (n ∷ ns) m = take n (drop a m) ∷ cut (a + n) ns m

-- where the spans end, and where span i starts
abbrev pub end : ℕ → List ℕ → ℕ
end a [] = a
end a (n ∷ ns) = end (a + n) ns

abbrev pub start : ℕ → List ℕ → ℕ → ℕ
start a [] i = a
start a (n ∷ ns) zero = a
start a (n ∷ ns) (suc i) = start (a + n) ns i

-- spans one after another
abbrev pub joined : List (List ℕ) → List ℕ
joined [] = []
joined (s ∷ ss) = s ++ joined ss
