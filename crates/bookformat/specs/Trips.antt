-- The round trips on lent memory, over what reading and writing promise.
use Rattle.std.specs.Prelude.{List, ◌≡◌, ℕ, ◌≤◌, length, take}
use Rattle.bookformat.specs.Book.{size, accounts, records}
use Rattle.bookformat.specs.Lent.{Columns, after, WroteBook, Gave}

-- as much of lent memory as the list of the book b takes
abbrev pub part_for : List ℕ → Columns → Columns
part_for b lists =
    record {
      counts = take (accounts b) lists.counts;
      kinds = take (records b) lists.kinds;
      options = take (records b) lists.options;
      days = take (records b) lists.days;
      amounts = take (records b) lists.amounts;
    }

-- the list that was read from the book b, written to output with room for b: the output begins with b, byte for byte
abbrev pub BookBack : List ℕ → Type 0
BookBack b =
    (lent read : Columns) (old new : List ℕ) (n : ℕ)
    → Gave b lent read 0
    → WroteBook (part_for b read) old new n
    → length b ≤ length old
    → (n ≡ 0) × (new ≡ after 0 b old)

-- memory has room for each of the lists; each list of memory begins with the one that was written, and keeps its tail
pub record RoomFor (lists lent : Columns) : Type 0 where
  pub counts : length lists.counts ≤ length lent.counts
  pub kinds : length lists.kinds ≤ length lent.kinds
  pub options : length lists.options ≤ length lent.options
  pub days : length lists.days ≤ length lent.days
  pub amounts : length lists.amounts ≤ length lent.amounts

pub record BeginsWith (lists lent read : Columns) : Type 0 where
  pub counts : read.counts ≡ after 0 lists.counts lent.counts
  pub kinds : read.kinds ≡ after 0 lists.kinds lent.kinds
  pub options : read.options ≡ after 0 lists.options lent.options
  pub days : read.days ≡ after 0 lists.days lent.days
  pub amounts : read.amounts ≡ after 0 lists.amounts lent.amounts

-- the book that was written of a list, read into memory with room for the list: each slice begins with the one that was written
abbrev pub ListBack : Columns → Type 0
ListBack lists =
    (old new : List ℕ) (lent read : Columns) (n : ℕ)
    → WroteBook lists old new 0
    → Gave (take (size (length lists.counts) (length lists.kinds)) new) lent read n
    → RoomFor lists lent
    → (n ≡ 0) × BeginsWith lists lent read
