-- What the tests tell, as facts.
use Rattle.std.specs.Prelude.{true, List, [], ◌∷◌, ◌≡◌, ℕ, ◌<◌, ◌≤◌, length}
use Rattle.std.specs.List.{sum}
use Rattle.rules.specs.declared.Event.{Event}
use Rattle.rules.specs.Kinds.{bill, closing}
use Rattle.little.specs.Little.{top}
use Rattle.bookformat.specs.Book.{AccountList, flat, base, size, most_accounts, longest, accounts, records, table_fine, book_refusal}
use Rattle.bookformat.specs.Lent.{Columns, kinds_fine}

-- a header that passed
pub record Header (b : List ℕ) : Type 0 where
  pub long : 8 ≤ length b
  pub short : length b ≤ longest
  pub few : accounts b ≤ most_accounts
  pub whole : length b ≡ size (accounts b) (records b)
  pub entries : table_fine (base (accounts b)) (records b) (accounts b) 8 0 b ≡ true

-- a book to be read, and memory that is long enough
pub record Fits (b : List ℕ) (lists : Columns) : Type 0 where
  pub refusal : book_refusal b ≡ 0
  pub header : Header b
  pub counts : accounts b ≤ length lists.counts
  pub kinds : records b ≤ length lists.kinds
  pub options : records b ≤ length lists.options
  pub days : records b ≤ length lists.days
  pub amounts : records b ≤ length lists.amounts

-- the sizes of a list to be written
pub record Sizes (lists : Columns) : Type 0 where
  pub few : length lists.counts ≤ most_accounts
  pub small : size (length lists.counts) (length lists.kinds) ≤ longest
  pub total : sum lists.counts ≡ length lists.kinds
  pub options : length lists.options ≡ length lists.kinds
  pub days : length lists.days ≡ length lists.kinds
  pub amounts : length lists.amounts ≡ length lists.kinds

-- a list to be written, and output that is long enough
pub record WriteRoom (lists : Columns) (room : ℕ) : Type 0 where
  pub sizes : Sizes lists
  pub kinds : kinds_fine lists.kinds ≡ true
  pub within : size (length lists.counts) (length lists.kinds) ≤ room

-- every record has one of the sixteen kinds, and its fields fit their bytes
abbrev pub Storable : List Event → Type 0
Storable [] = Unit {0}
Storable (e ∷ es) = ((bill ≤ e.kind) × (e.kind ≤ closing) × (e.option < 256) × (e.day < top 4) × (e.amount < top 8)) × Storable es

-- an account list that can be written
pub record Writable (l : AccountList) : Type 0 where
  pub few : length l ≤ most_accounts
  pub small : size (length l) (length (flat l)) ≤ longest
  pub storable : Storable (flat l)
