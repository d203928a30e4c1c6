-- Books, lists and memory, each with the number it earns: one list and one theorem, which the checker computes. The first of
-- each group are document 01's examples, the others ours.
use mathlib.Core.Path.{◌≡◌, refl}
use mathlib.Core.Bool.{cond}
use mathlib.Core.List.{List, [], ◌∷◌, ◌++◌}
use Prim.Native.Nat.{ℕ, ◌<◌}
use Prim.Native.String.{String}
use borrow.Author.Tests.{lt-leb}
use lib.Dec.{leb, eqb}
use lib.ListN.{length, set, replicate, take}
use Rattle.basics.proofs.Cases.{on}
use Rattle.little.specs.Little.{num, un, le}
use Rattle.bookformat.specs.Book.{AccountList, size, accounts, book_refusal, encode, decode}
use Rattle.bookformat.specs.Lent.{Columns, write_refusal, read_refusal}
use Rattle.bookformat.specs.Finding.{record_at, span_at}

-- ---- one book in full

-- an account with a bill of 10,000 on day 100, one without events, one with the largest fields
abbrev pub list : AccountList
list =
    (record { kind = 1; option = 0; day = 100; amount = 10000 } ∷ [])
    ∷ []
    ∷ (record { kind = 16; option = 255; day = 4294967295; amount = 18446744073709551615 } ∷ [])
    ∷ []

abbrev pub book : List ℕ
book =
    3 ∷ 0 ∷ 0 ∷ 0 ∷ 2 ∷ 0 ∷ 0 ∷ 0
    ∷ 32 ∷ 0 ∷ 0 ∷ 0 ∷ 1 ∷ 0 ∷ 0 ∷ 0
    ∷ 48 ∷ 0 ∷ 0 ∷ 0 ∷ 0 ∷ 0 ∷ 0 ∷ 0
    ∷ 48 ∷ 0 ∷ 0 ∷ 0 ∷ 1 ∷ 0 ∷ 0 ∷ 0
    ∷ 1 ∷ 0 ∷ 0 ∷ 0 ∷ 100 ∷ 0 ∷ 0 ∷ 0 ∷ 16 ∷ 39 ∷ 0 ∷ 0 ∷ 0 ∷ 0 ∷ 0 ∷ 0
    ∷ 16 ∷ 255 ∷ 0 ∷ 0 ∷ 255 ∷ 255 ∷ 255 ∷ 255 ∷ 255 ∷ 255 ∷ 255 ∷ 255 ∷ 255 ∷ 255 ∷ 255 ∷ 255 ∷ []

pub written : encode list ≡ book
unfolding le
written = refl

pub gets_back : decode book ≡ list
unfolding num un
gets_back = refl

-- ---- cases: a name, the number found, the number expected
pub record Sample : Type 0 where
  pub name : String
  pub found : ℕ
  pub expected : ℕ

abbrev case : String → ℕ → ℕ → Sample
case s f n = record { name = s; found = f; expected = n }

-- the names of the cases that do not hold
abbrev wrong : List Sample → List String
wrong [] = []
wrong (c ∷ cs) = cond (eqb c.found c.expected) (wrong cs) (c.name ∷ wrong cs)

-- numbers of 4 bytes: headers and tables
abbrev words : List ℕ → List ℕ
words [] = []
words (n ∷ l) = le 4 n ++ words l

-- a record of this kind
abbrev event : ℕ → List ℕ
event k = k ∷ 0 ∷ 0 ∷ 0 ∷ replicate 12 0

-- a book of two accounts whose header says this, with two records
abbrev two : ℕ → ℕ → ℕ → ℕ → ℕ → List ℕ
two r first m second n = words (2 ∷ r ∷ first ∷ m ∷ second ∷ n ∷ []) ++ (event 2 ++ event 13)

abbrev books : List Sample
books =
    case "7 bytes" (book_refusal (replicate 7 0)) 20
    ∷ case "kind 17" (book_refusal (set book 32 17)) 21
    ∷ case "a book" (book_refusal book) 0
    ∷ case "no bytes" (book_refusal []) 20
    ∷ case "a header alone, of no accounts" (book_refusal (words (0 ∷ 0 ∷ []))) 0
    ∷ case "a header alone, of one account" (book_refusal (words (1 ∷ 0 ∷ []))) 20
    ∷ case "a header alone, of one record" (book_refusal (words (0 ∷ 1 ∷ []))) 20
    ∷ case "a header and one byte" (book_refusal (words (0 ∷ 0 ∷ []) ++ (0 ∷ []))) 20
    ∷ case "one account without records" (book_refusal (words (1 ∷ 0 ∷ 16 ∷ 0 ∷ []))) 0
    ∷ case "records without an account" (book_refusal (words (0 ∷ 1 ∷ []) ++ event 1)) 20
    ∷ case "16 R is 2^32" (book_refusal (words (0 ∷ 268435456 ∷ []))) 20
    ∷ case "8 accounts is 2^32" (book_refusal (words (536870912 ∷ 0 ∷ []))) 20
    ∷ case "counts that sum to R and 2^32" (book_refusal (words (2 ∷ 1 ∷ 24 ∷ 4294967295 ∷ 8 ∷ 2 ∷ []) ++ event 1)) 20
    ∷ case "largest counts" (book_refusal (words (4294967295 ∷ 4294967295 ∷ []))) 20
    ∷ case "two accounts" (book_refusal (two 2 24 1 40 1)) 0
    ∷ case "the first account has both records" (book_refusal (two 2 24 2 56 0)) 0
    ∷ case "the last account has both records" (book_refusal (two 2 24 0 24 2)) 0
    ∷ case "a gap before the records" (book_refusal (two 2 40 1 56 1)) 20
    ∷ case "a gap between accounts" (book_refusal (two 2 24 1 56 1)) 20
    ∷ case "a gap of one byte" (book_refusal (two 2 24 1 41 1)) 20
    ∷ case "accounts overlap" (book_refusal (two 2 24 1 24 1)) 20
    ∷ case "accounts overlap by a byte" (book_refusal (two 2 24 1 39 1)) 20
    ∷ case "accounts in the wrong order" (book_refusal (two 2 40 1 24 1)) 20
    ∷ case "the offset in the header" (book_refusal (two 2 8 1 24 1)) 20
    ∷ case "R one too many" (book_refusal (two 3 24 1 40 1)) 20
    ∷ case "R one too few" (book_refusal (two 1 24 1 40 1)) 20
    ∷ case "R and a count one too many" (book_refusal (two 3 24 1 40 2)) 20
    ∷ case "counts one too few" (book_refusal (two 2 24 1 40 0)) 20
    ∷ case "counts one too many" (book_refusal (two 2 24 1 40 2)) 20
    ∷ case "a byte too few" (book_refusal (take 63 book)) 20
    ∷ case "a byte too many" (book_refusal (book ++ (0 ∷ []))) 20
    ∷ case "kind 0" (book_refusal (set book 32 0)) 21
    ∷ case "kind 255" (book_refusal (set book 32 255)) 21
    ∷ case "kind 17 in the last record" (book_refusal (set book 48 17)) 21
    ∷ case "the first spare byte" (book_refusal (set book 34 1)) 21
    ∷ case "the second spare byte" (book_refusal (set book 35 1)) 21
    ∷ case "a spare byte of the last record" (book_refusal (set book 51 255)) 21
    ∷ case "kind 17, and a wrong offset" (book_refusal (set (set book 32 17) 24 49)) 20
    ∷ case "kind 17, and a byte too many" (book_refusal (set book 32 17 ++ (0 ∷ []))) 20
    ∷ []

-- counts, kinds, and how many options, days and amounts are lent
abbrev writes : List ℕ → List ℕ → ℕ → ℕ → ℕ → ℕ → ℕ
writes cs ks o d m room =
    write_refusal (record { counts = cs; kinds = ks; options = replicate o 0; days = replicate d 0; amounts = replicate m 0 }) room

abbrev lists : List Sample
lists =
    case "7 bytes lent" (writes [] [] 0 0 0 7) 22
    ∷ case "no accounts" (writes [] [] 0 0 0 8) 0
    ∷ case "records without an account" (writes [] (1 ∷ []) 1 1 1 99) 20
    ∷ case "1,024 accounts" (writes (replicate 1024 0) [] 0 0 0 8200) 0
    ∷ case "1,025 accounts" (writes (replicate 1025 0) [] 0 0 0 9999) 20
    ∷ case "two records" (writes (1 ∷ 1 ∷ []) (1 ∷ 16 ∷ []) 2 2 2 56) 0
    ∷ case "output a byte short" (writes (1 ∷ 1 ∷ []) (1 ∷ 16 ∷ []) 2 2 2 55) 22
    ∷ case "counts one too few" (writes (1 ∷ []) (1 ∷ 16 ∷ []) 2 2 2 99) 20
    ∷ case "counts one too many" (writes (1 ∷ 2 ∷ []) (1 ∷ 16 ∷ []) 2 2 2 99) 20
    ∷ case "counts that sum to 2^32 and two" (writes (4294967295 ∷ 3 ∷ []) (1 ∷ 16 ∷ []) 2 2 2 99) 20
    ∷ case "an option too few" (writes (2 ∷ []) (1 ∷ 16 ∷ []) 1 2 2 99) 20
    ∷ case "a day too many" (writes (2 ∷ []) (1 ∷ 16 ∷ []) 2 3 2 99) 20
    ∷ case "no amounts" (writes (2 ∷ []) (1 ∷ 16 ∷ []) 2 2 0 99) 20
    ∷ case "kind 0" (writes (2 ∷ []) (1 ∷ 0 ∷ []) 2 2 2 99) 21
    ∷ case "kind 17" (writes (2 ∷ []) (17 ∷ 1 ∷ []) 2 2 2 99) 21
    ∷ case "20 before 21" (writes (1 ∷ []) (17 ∷ 1 ∷ []) 2 2 2 99) 20
    ∷ case "20 before 22" (writes (1 ∷ []) (1 ∷ 1 ∷ []) 2 2 2 0) 20
    ∷ case "21 before 22" (writes (2 ∷ []) (17 ∷ 1 ∷ []) 2 2 2 0) 21
    ∷ []

-- how many counts, kinds, options, days and amounts are lent
abbrev reads : List ℕ → ℕ → ℕ → ℕ → ℕ → ℕ → ℕ
reads b c k o d m =
    read_refusal b (record { counts = replicate c 0; kinds = replicate k 0; options = replicate o 0; days = replicate d 0; amounts = replicate m 0 })

abbrev memory : List Sample
memory =
    case "just enough" (reads book 3 2 2 2 2) 0
    ∷ case "more than enough" (reads book 4 5 6 7 8) 0
    ∷ case "a count short" (reads book 2 2 2 2 2) 22
    ∷ case "a kind short" (reads book 3 1 2 2 2) 22
    ∷ case "an option short" (reads book 3 2 1 2 2) 22
    ∷ case "a day short" (reads book 3 2 2 1 2) 22
    ∷ case "an amount short" (reads book 3 2 2 2 1) 22
    ∷ case "20 before 22" (reads (take 63 book) 0 0 0 0 0) 20
    ∷ case "21 before 22" (reads (set book 32 17) 0 0 0 0 0) 21
    ∷ []

abbrev places : List Sample
places =
    case "record 0" (record_at book 0).amount 10000
    ∷ case "record 1" (record_at book 1).option 255
    ∷ case "past the last record" (record_at book 2).kind 0
    ∷ case "no bytes" (record_at [] 0).kind 0
    ∷ case "account 1" (span_at book 1).first 1
    ∷ case "account 1 has no records" (span_at book 1).count 0
    ∷ case "account 2" (span_at book 2).first 1
    ∷ case "account 2 has a record" (span_at book 2).count 1
    ∷ case "past the last account" (span_at book 3).count 0
    ∷ case "a table that is not whole" (span_at (words (2 ∷ 0 ∷ 24 ∷ 5 ∷ [])) 0).count 0
    ∷ []

-- no case is wrong
pub sampled : wrong (books ++ (lists ++ (memory ++ places))) ≡ []
unfolding num un le
sampled = refl

-- ---- what is too large to compute

pub too_many : (b : List ℕ) → 1024 < accounts b → book_refusal b ≡ 20
too_many b h =
    let t = lt-leb (accounts b) 1024 h in
    on (leb 8 (length b)) (λ x. on (leb (length b) 4294967295) (λ y. rw (x, y, t)) (λ y. rw (x, y))) (λ x. rw x)

pub too_long : (b : List ℕ) → 4294967295 < length b → book_refusal b ≡ 20
too_long b h =
    let t = lt-leb (length b) 4294967295 h in
    on (leb 8 (length b)) (λ x. rw (x, t)) (λ x. rw x)

pub too_long_to_write : (lists : Columns) (room : ℕ) → 4294967295 < size (length lists.counts) (length lists.kinds) → write_refusal lists room ≡ 20
too_long_to_write lists room h =
    let t = lt-leb (size (length lists.counts) (length lists.kinds)) 4294967295 h in
    on (leb (length lists.counts) 1024) (λ x. rw (x, t)) (λ x. rw x)
