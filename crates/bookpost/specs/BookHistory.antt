-- The history of one account of a book, event by event: the answer to each and what is owed after it. In a book there is no place for a calendar:
-- its accounts wait five days.
use Rattle.std.specs.Prelude.{ℕ, ◌≡◌, cond, ◌&&◌, List, [], ◌∷◌, map, leb, ℤ, length, None}
use Rattle.rules.specs.declared.Event.{Event}
use Rattle.rules.specs.History.{History}
use Rattle.rules.specs.Money.{owed}
use Rattle.rules.specs.Answer.{number_of}
use Rattle.rules.specs.Accepted.{offered, answers_by}
use Rattle.bookformat.specs.Book.{book_refusal}
use Rattle.bookformat.specs.Lent.{after, or_else}
use Rattle.bookformat.specs.Finding.{book_account}

-- the number of the answer to each event, 0 for accepted
abbrev pub numbers_of : List Event → List ℕ
numbers_of es = map number_of (answers_by None es)

-- what is owed after each event of a list that follows h
abbrev pub owed_from : History → List Event → List ℤ
owed_from h [] = []
owed_from h (e ∷ es) = owed (offered None h e) ∷ owed_from (offered None h e) es

-- 22, after 20 and 21: one of the two slices is shorter than the account has records
abbrev pub history_refusal : List ℕ → ℕ → ℕ → ℕ → ℕ
history_refusal b i n m = or_else (book_refusal b) (cond (leb (length (book_account b i)) n && leb (length (book_account b i)) m) 0 22)

-- what telling a history does: the number of its answer, and every element of both slices
pub record ToldHistory (b : List ℕ) (i : ℕ) (ns ns2 : List ℕ) (os os2 : List ℤ) (n : ℕ) : Type 0 where
  pub answer : n ≡ history_refusal b i (length ns) (length os)
  pub numbers : ns2 ≡ after (history_refusal b i (length ns) (length os)) (numbers_of (book_account b i)) ns
  pub owing : os2 ≡ after (history_refusal b i (length ns) (length os)) (owed_from [] (book_account b i)) os
