-- Account lists in lent memory: the counts of the accounts, and a slice for each field of the records.
use Rattle.std.specs.Prelude.{Bool, cond, List, [], ◌∷◌, ◌++◌, map, ◌≡◌, ℕ, zero, suc, ◌+◌, leb, eqb, length, drop, get_or}
use Rattle.std.specs.List.{sum, list_all}
use Rattle.rules.specs.declared.Event.{Event}
use Rattle.bookformat.specs.Book.{AccountList, all, size, most_accounts, longest, kind_fine, accounts, records, book_refusal, split, flat, encode, decode}

-- lent memory after a call with this number: what is new and then the old tail, or all as it was
abbrev pub after : {A : Type 0} → ℕ → List A → List A → List A
after zero new old = new ++ drop (length new) old
after (suc n) new old = old

-- the first of two refusals
abbrev pub or_else : ℕ → ℕ → ℕ
or_else zero n = n
or_else (suc k) n = suc k

-- five lists: how many records each account has, and each field of all records
pub record Columns : Type 0 where
  pub counts : List ℕ
  pub kinds : List ℕ
  pub options : List ℕ
  pub days : List ℕ
  pub amounts : List ℕ

-- ---- writing

-- the n records from index i on
abbrev pub lent_at : ℕ → Columns → Event
lent_at i lists = record { kind = get_or lists.kinds i 0; option = get_or lists.options i 0; day = get_or lists.days i 0; amount = get_or lists.amounts i 0 }

abbrev pub lent : ℕ → ℕ → Columns → List Event
lent zero i lists = []
lent (suc n) i lists = lent_at i lists ∷ lent n (i + 1) lists

-- the account list lent
abbrev pub lent_list : Columns → AccountList
lent_list lists = split lists.counts (lent (length lists.kinds) 0 lists)

-- 20: too many accounts, a book too long, counts that do not come to the records lent, or slices of different lengths
abbrev pub sizes_tests : Columns → List Bool
sizes_tests lists =
    leb (length lists.counts) most_accounts
    ∷ leb (size (length lists.counts) (length lists.kinds)) longest
    ∷ eqb (sum lists.counts) (length lists.kinds)
    ∷ eqb (length lists.options) (length lists.kinds)
    ∷ eqb (length lists.days) (length lists.kinds)
    ∷ eqb (length lists.amounts) (length lists.kinds)
    ∷ []

abbrev pub sizes_fine : Columns → Bool
sizes_fine lists = all (sizes_tests lists)

-- 21: some kind is not known
abbrev pub kinds_fine : List ℕ → Bool
kinds_fine ks = list_all kind_fine ks

-- the number of the refusal for output of room bytes, or 0
abbrev pub write_refusal : Columns → ℕ → ℕ
write_refusal lists room =
    cond (sizes_fine lists) (cond (kinds_fine lists.kinds) (cond (leb (size (length lists.counts) (length lists.kinds)) room) 0 22) 21) 20

-- what writing does: the number of its answer, and every byte of the output afterwards
pub record WroteBook (lists : Columns) (old new : List ℕ) (n : ℕ) : Type 0 where
  pub answer : n ≡ write_refusal lists (length old)
  pub bytes : new ≡ after (write_refusal lists (length old)) (encode (lent_list lists)) old

-- ---- reading

-- the lengths lent, of the counts and of each field, are enough
abbrev pub room_tests : List ℕ → Columns → List Bool
room_tests b lists =
    leb (accounts b) (length lists.counts)
    ∷ leb (records b) (length lists.kinds)
    ∷ leb (records b) (length lists.options)
    ∷ leb (records b) (length lists.days)
    ∷ leb (records b) (length lists.amounts)
    ∷ []

abbrev pub long_enough : List ℕ → Columns → Bool
long_enough b lists = all (room_tests b lists)

-- 22, after 20 and 21: some slice is too short for the list
abbrev pub read_refusal : List ℕ → Columns → ℕ
read_refusal b lists = or_else (book_refusal b) (cond (long_enough b lists) 0 22)

abbrev pub kinds_of : List Event → List ℕ
kinds_of es = map (λ e. e.kind) es

abbrev pub options_of : List Event → List ℕ
options_of es = map (λ e. e.option) es

abbrev pub days_of : List Event → List ℕ
days_of es = map (λ e. e.day) es

abbrev pub amounts_of : List Event → List ℕ
amounts_of es = map (λ e. e.amount) es

-- every element of the memory lent, after a call that reads this list or is refused
pub record Left (n : ℕ) (list : AccountList) (old new : Columns) : Type 0 where
  pub counts : new.counts ≡ after n (map length list) old.counts
  pub kinds : new.kinds ≡ after n (kinds_of (flat list)) old.kinds
  pub options : new.options ≡ after n (options_of (flat list)) old.options
  pub days : new.days ≡ after n (days_of (flat list)) old.days
  pub amounts : new.amounts ≡ after n (amounts_of (flat list)) old.amounts

-- what reading does: the number of its answer, and every element of the memory lent afterwards
pub record Gave (b : List ℕ) (old new : Columns) (n : ℕ) : Type 0 where
  pub answer : n ≡ read_refusal b old
  pub memory : Left (read_refusal b old) (decode b) old new
