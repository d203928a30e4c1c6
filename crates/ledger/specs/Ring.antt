-- A ring of 64 places of two words: item k, counted from 0 over all charges, stands at place k mod 64 with its day and C_k. An item that is paid stays
-- in its place until item k + 64 is stored there.
use Rattle.std.specs.Prelude.{ℕ, zero, suc, ◌+◌, ◌-◌, ◌*◌, ◌%◌, cond, List, [], ◌∷◌, ltb, get_or, set}
use Rattle.rules.specs.Limits.{most_open}
use Rattle.rules.specs.Money.{Item}

abbrev pub places : ℕ
places = most_open

-- its words
abbrev pub ring_size : ℕ
ring_size = 2 * places

-- the words of the place of item k
abbrev pub day_in : ℕ → ℕ
day_in k = 2 * (k % places)

abbrev pub upto_in : ℕ → ℕ
upto_in k = 2 * (k % places) + 1

abbrev pub day_at : List ℕ → ℕ → ℕ
day_at s k = get_or s (day_in k) 0

abbrev pub upto_at : List ℕ → ℕ → ℕ
upto_at s k = get_or s (upto_in k) 0

-- the ring with item k stored
abbrev pub stored : List ℕ → ℕ → (day upto : ℕ) → List ℕ
stored s k d u = set (set s (day_in k) d) (upto_in k) u

-- item k, where the sum of the items before it is b: amounts are not kept
abbrev pub item_at : List ℕ → ℕ → ℕ → Item
item_at s k b = record { day = day_at s k; amount = upto_at s k - b; upto = upto_at s k }

-- n items from item k on
abbrev pub items_from : ℕ → (k b : ℕ) → List ℕ → List Item
items_from zero k b s = []
items_from (suc n) k b s = item_at s k b ∷ items_from n (suc k) (upto_at s k) s

-- the first of n items from k on that credits of p leave open
abbrev pub closed_from : ℕ → (k p : ℕ) → List ℕ → ℕ
closed_from zero k p s = k
closed_from (suc n) k p s = cond (ltb p (upto_at s k)) k (closed_from n (suc k) p s)

-- and the sum of the items before that one
abbrev pub below_from : ℕ → (k b p : ℕ) → List ℕ → ℕ
below_from zero k b p s = b
below_from (suc n) k b p s = cond (ltb p (upto_at s k)) b (below_from n (suc k) (upto_at s k) p s)
