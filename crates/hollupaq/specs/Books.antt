-- The static library's answers about books and account lists.
use Rattle.std.specs.Prelude.{ℕ, ◌≡◌, List, length}
use Rattle.bookformat.specs.Book.{encode}
use Rattle.bookformat.specs.Lent.{Columns, after, lent_list, write_refusal}
use Rattle.hollupaq.specs.Library.{told}

-- the five slices that C lends
abbrev pub columns : List ℕ → List ℕ → List ℕ → List ℕ → List ℕ → Columns
columns cs ks os ds ms = record { counts = cs; kinds = ks; options = os; days = ds; amounts = ms }

-- what writing a list does: its answer with the length of the book, and every byte of the output
pub record Stored (lists : Columns) (old new : List ℕ) (r : ℕ) : Type 0 where
  pub answer : r ≡ told (write_refusal lists (length old)) (length (encode (lent_list lists)))
  pub bytes : new ≡ after (write_refusal lists (length old)) (encode (lent_list lists)) old
