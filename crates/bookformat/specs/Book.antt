-- The book file of document 01: what its bytes say, what is refused, and the bytes of an account list.
use Rattle.std.specs.Prelude.{Bool, true, cond, ◌&&◌, List, [], ◌∷◌, ◌++◌, map, ℕ, zero, suc, ◌+◌, ◌*◌, leb, eqb, length, take, drop, get_or}
use Rattle.rules.specs.declared.Event.{Event}
use Rattle.rules.specs.Kinds.{is_kind}
use Rattle.little.specs.Little.{le, num}

-- the most accounts of a book, and its greatest length
abbrev pub most_accounts : ℕ
most_accounts = 1024

abbrev pub longest : ℕ
longest = 4294967295

-- the records of each account, in turn, before any posting
abbrev pub AccountList : Type 0
AccountList = List (List Event)

-- where the records of a book of n accounts begin, and its length with r records
abbrev pub base : ℕ → ℕ
base n = 8 + 8 * n

abbrev pub size : ℕ → ℕ → ℕ
size n r = base n + 16 * r

-- every one of some tests holds, `a && (b && c)`
abbrev pub all : List Bool → Bool
all [] = true
all (a ∷ []) = a
all (a ∷ b ∷ l) = a && all (b ∷ l)

-- ---- what is refused

-- the header: how many accounts, and R, how many records
abbrev pub accounts : List ℕ → ℕ
accounts b = num 4 0 b

abbrev pub records : List ℕ → ℕ
records b = num 4 4 b

-- the n entries from byte p on, where sum records were before: no gap between offsets, and the counts come to R
abbrev pub table_fine : ℕ → ℕ → ℕ → ℕ → ℕ → List ℕ → Bool
table_fine start r zero p sum b = eqb sum r
table_fine start r (suc n) p sum b = eqb (num 4 p b) (start + 16 * sum) && table_fine start r n (p + 8) (sum + num 4 (p + 4) b) b

-- the length and the header, before any record
abbrev pub header_tests : List ℕ → List Bool
header_tests b =
    leb 8 (length b)
    ∷ leb (length b) longest
    ∷ leb (accounts b) most_accounts
    ∷ eqb (length b) (size (accounts b) (records b))
    ∷ table_fine (base (accounts b)) (records b) (accounts b) 8 0 b
    ∷ []

abbrev pub header_fine : List ℕ → Bool
header_fine b = all (header_tests b)

-- one of the sixteen kinds
abbrev pub kind_fine : ℕ → Bool
kind_fine k = is_kind k

-- the record at byte p: a known kind, and both spare bytes 0
abbrev pub record_fine : ℕ → List ℕ → Bool
record_fine p b = kind_fine (get_or b p 0) && (eqb (get_or b (p + 2) 0) 0 && eqb (get_or b (p + 3) 0) 0)

-- n records from byte p on, in order
abbrev pub records_fine : ℕ → ℕ → List ℕ → Bool
records_fine zero p b = true
records_fine (suc n) p b = record_fine p b && records_fine n (p + 16) b

-- rows 20 and 21: the number of the refusal, or 0
abbrev pub book_refusal : List ℕ → ℕ
book_refusal b = cond (header_fine b) (cond (records_fine (records b) (base (accounts b)) b) 0 21) 20

-- ---- bytes to account list

-- a record in 16 bytes: kind, option, two spare bytes, day in 4, amount in 8
abbrev pub event_at : ℕ → List ℕ → Event
event_at p b = record { kind = get_or b p 0; option = get_or b (p + 1) 0; day = num 4 (p + 4) b; amount = num 8 (p + 8) b }

abbrev pub events_at : ℕ → ℕ → List ℕ → List Event
events_at zero p b = []
events_at (suc n) p b = event_at p b ∷ events_at n (p + 16) b

-- the counts of the n entries from byte p on
abbrev pub counts_at : ℕ → ℕ → List ℕ → List ℕ
counts_at zero p b = []
counts_at (suc n) p b = num 4 (p + 4) b ∷ counts_at n (p + 8) b

-- records cut into accounts by their counts
abbrev pub split : List ℕ → List Event → AccountList
split [] es = []
split (c ∷ cs) es = take c es ∷ split cs (drop c es)

abbrev pub decode : List ℕ → AccountList
decode b = split (counts_at (accounts b) 8 b) (events_at (records b) (base (accounts b)) b)

-- ---- account list to bytes

abbrev pub record_bytes : Event → List ℕ
record_bytes e = e.kind ∷ e.option ∷ 0 ∷ 0 ∷ (le 4 e.day ++ le 8 e.amount)

abbrev pub body : List Event → List ℕ
body [] = []
body (e ∷ es) = record_bytes e ++ body es

-- for each account the offset of its first record and its count; the first account's records begin at byte p
abbrev pub account_table : ℕ → List ℕ → List ℕ
account_table p [] = []
account_table p (c ∷ cs) = le 4 p ++ (le 4 c ++ account_table (p + 16 * c) cs)

-- the book of these counts and records
abbrev pub book_of : List ℕ → List Event → List ℕ
book_of cs es = le 4 (length cs) ++ (le 4 (length es) ++ (account_table (base (length cs)) cs ++ body es))

-- all records, account after account
abbrev pub flat : AccountList → List Event
flat [] = []
flat (a ∷ rest) = a ++ flat rest

abbrev pub encode : AccountList → List ℕ
encode l = book_of (map length l) (flat l)
