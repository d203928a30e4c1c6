-- One record and one account of a book at a time: what is answered for any bytes, and what that is in an accepted book.
use Rattle.std.specs.Prelude.{cond, List, [], ◌≡◌, ℕ, ◌+◌, ◌*◌, ◌-◌, ◌/◌, ◌≤◌, leb, ltb, length, take, drop, get_or}
use Rattle.rules.specs.declared.Event.{Event}
use Rattle.bookformat.specs.declared.Span.{Span}
use Rattle.little.specs.Little.{num}
use Rattle.bookformat.specs.Book.{accounts, records, base, event_at, flat, decode}

-- kind 0, which no accepted book has
abbrev pub no_event : Event
no_event = record { kind = 0; option = 0; day = 0; amount = 0 }

abbrev pub no_span : Span
no_span = record { first = 0; count = 0 }

-- how many accounts the table has and how many whole records lie behind it, 0 where the table is not whole
abbrev pub entries : List ℕ → ℕ
entries b = cond (leb (base (accounts b)) (length b)) (accounts b) 0

abbrev pub whole_records : List ℕ → ℕ
whole_records b = (length b - base (accounts b)) / 16

-- what lies at record k of any bytes, and at account i
abbrev pub record_at : List ℕ → ℕ → Event
record_at b k = cond (ltb k (whole_records b)) (event_at (base (accounts b) + 16 * k) b) no_event

abbrev pub span_at : List ℕ → ℕ → Span
span_at b i =
    cond (ltb i (entries b)) (record { first = (num 4 (8 + 8 * i) b - base (accounts b)) / 16; count = num 4 (8 + 8 * i + 4) b }) no_span

-- record k of a book, over all accounts, and the records of account i: no_event and no records past the end
abbrev pub record_of : List ℕ → ℕ → Event
record_of b k = get_or (flat (decode b)) k no_event

abbrev pub book_account : List ℕ → ℕ → List Event
book_account b i = get_or (decode b) i []

-- a span holds the records of account i
pub record IsAccount (b : List ℕ) (i : ℕ) (s : Span) : Type 0 where
  pub within : s.first + s.count ≤ records b
  -- a record's number and the next one are far from wrapping
  pub small : records b ≤ 268435455
  pub events : take s.count (drop s.first (flat (decode b))) ≡ book_account b i
