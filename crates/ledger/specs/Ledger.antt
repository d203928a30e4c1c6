-- The ledger that an account keeps: six numbers and a ring of items, in 134 words of the account's memory.
use Rattle.std.specs.Prelude.{ℕ, ◌+◌, ◌-◌, ◌≤◌, min, Bool, true, cond, ◌&&◌, ◌||◌, ◌≡◌, List, [], ◌∷◌, map, leb, ltb, eqb, get_or, drop, replicate}
use Rattle.basics.specs.Machine.{largest}
use Rattle.rules.specs.declared.Event.{Event}
use Rattle.rules.specs.Kinds.{payout}
use Rattle.rules.specs.History.{History, is, amount_if}
use Rattle.rules.specs.Deposit.{held}
use Rattle.rules.specs.Money.{Item, charges, charge, credit_by, sum_of, unpaid, due}
use Rattle.rules.specs.Limits.{limit, most_open}
use Rattle.ledger.specs.declared.Sums.{Sums}
use Rattle.ledger.specs.declared.OpenItem.{OpenItem}
use Rattle.ledger.specs.Ring.{upto_at, stored, items_from, closed_from, below_from}

pub record Ledger : Type 0 where
  -- C
  pub charged : ℕ
  -- payments plus deposits moved
  pub credited : ℕ
  pub paid_out : ℕ
  -- how many items were made, and how many of them, the oldest, are paid
  pub made : ℕ
  pub closed : ℕ
  -- the sum of the items that are paid: with 64 open it stands in no place
  pub below : ℕ
  pub ring : List ℕ

-- ---- its words
abbrev pub ledger_size : ℕ
ledger_size = 134

abbrev pub ledger_on : List ℕ → Ledger
ledger_on w =
    record {
      charged = get_or w 0 0;
      credited = get_or w 1 0;
      paid_out = get_or w 2 0;
      made = get_or w 3 0;
      closed = get_or w 4 0;
      below = get_or w 5 0;
      ring = drop 6 w;
    }

-- all of them: equal ledgers are equal memory
abbrev pub ledger_words : Ledger → List ℕ
ledger_words l = l.charged ∷ l.credited ∷ l.paid_out ∷ l.made ∷ l.closed ∷ l.below ∷ l.ring

abbrev pub no_ledger : Ledger
no_ledger = ledger_on (replicate ledger_size 0)

-- ---- what it tells
-- P
abbrev pub credits_by : Ledger → ℕ
credits_by l = l.credited - l.paid_out

-- the open items, in the order posted
abbrev pub open_of : Ledger → List Item
open_of l = items_from (l.made - l.closed) l.closed l.below l.ring

abbrev pub sums_of : Ledger → Sums
sums_of l = record { charged = l.charged; credited = l.credited; credits = credits_by l; open_count = l.made - l.closed }

-- no sum of a lawful history comes near the largest number; of other words the answer stops there
abbrev pub arrears_by : Ledger → ℕ → ℕ
arrears_by l t = min (sum_of (due (credits_by l) t) (open_of l)) largest

-- an open item as it is shown, where credits come to p: its day and its unpaid part
abbrev pub shown_item : ℕ → Item → OpenItem
shown_item p x = record { day = x.day; unpaid = unpaid p x }

abbrev pub open_by : Ledger → List OpenItem
open_by l = map (shown_item (credits_by l)) (open_of l)

-- past the last open item
abbrev pub no_item : OpenItem
no_item = record { day = 0; unpaid = 0 }

-- the sum of the items before open item i
abbrev pub sum_before : Ledger → ℕ → ℕ
sum_before l i = cond (eqb i 0) l.below (upto_at l.ring (l.closed + i - 1))

-- ---- its steps
-- one more item, of day d and amount a
abbrev pub entered_in : Ledger → (d a : ℕ) → Ledger
entered_in l d a =
    record {
      charged = l.charged + a;
      credited = l.credited;
      paid_out = l.paid_out;
      made = l.made + 1;
      closed = l.closed;
      below = l.below;
      ring = stored l.ring l.made d (l.charged + a);
    }

abbrev pub credited_in : Ledger → ℕ → Ledger
credited_in l a =
    record {
      charged = l.charged;
      credited = l.credited + a;
      paid_out = l.paid_out;
      made = l.made;
      closed = l.closed;
      below = l.below;
      ring = l.ring;
    }

abbrev pub paid_from : Ledger → ℕ → Ledger
paid_from l a =
    record {
      charged = l.charged;
      credited = l.credited;
      paid_out = l.paid_out + a;
      made = l.made;
      closed = l.closed;
      below = l.below;
      ring = l.ring;
    }

-- what is paid is counted as closed; no place changes
abbrev pub settled : Ledger → Ledger
settled l =
    record {
      charged = l.charged;
      credited = l.credited;
      paid_out = l.paid_out;
      made = l.made;
      closed = closed_from (l.made - l.closed) l.closed (credits_by l) l.ring;
      below = below_from (l.made - l.closed) l.closed l.below (credits_by l) l.ring;
      ring = l.ring;
    }

-- one step for every kind: the new item joins, then what is paid is settled; adds says whether e makes an item
unfoldable pub ledger_after : Ledger → Event → Bool → (charge credit : ℕ) → Ledger
ledger_after l e adds c k = settled (paid_from (credited_in (cond adds (entered_in l e.day c) l) k) (amount_if payout e))

-- the part after a history
unfoldable pub ledger_of : History → Ledger
ledger_of [] = no_ledger
ledger_of (e ∷ h) = ledger_after (ledger_of h) e (charges e) (charge h e) (credit_by (held h) e)

-- ---- its test
abbrev pub head_ok : Ledger → Bool
head_ok l =
    leb l.charged limit && leb l.credited limit && leb l.paid_out l.credited
    && leb l.made l.charged && leb l.closed l.made && leb (l.made - l.closed) most_open

-- nothing that is paid is open still: what is paid is the oldest, so a look at the first open item is enough
abbrev pub is_settled : Ledger → Bool
is_settled l = leb l.made l.closed || ltb (credits_by l) (upto_at l.ring l.closed)

-- the same few words are looked at, however many items are open
abbrev pub ledger_ok : Ledger → Bool
ledger_ok l = head_ok l && is_settled l

-- what the test tells
pub record LedgerFit (l : Ledger) : Type 0 where
  pub charged_le : l.charged ≤ limit
  pub credited_le : l.credited ≤ limit
  pub paid_le : l.paid_out ≤ l.credited
  pub made_le : l.made ≤ l.charged
  pub closed_le : l.closed ≤ l.made
  pub open_le : l.made - l.closed ≤ most_open
  -- kinds that do not touch the ledger rest on it
  pub still : settled l ≡ l

-- ---- what a step asks
-- an event charges, or credits k, or pays out
pub record OneThing (e : Event) (adds : Bool) (k : ℕ) : Type 0 where
  pub alone : adds ≡ true → (k ≡ 0) × (amount_if payout e ≡ 0)
  pub no_credit : is payout e ≡ true → k ≡ 0

-- room for what e adds: an item of amount c where adds says so, and credits of k
pub record LedgerRoom (l : Ledger) (e : Event) (adds : Bool) (c k : ℕ) : Type 0 where
  pub charged_room : l.charged + c ≤ limit
  pub credited_room : l.credited + k ≤ limit
  pub paid_room : l.paid_out + amount_if payout e ≤ l.credited + k
  pub one : OneThing e adds k

-- the marks that settling sets
pub record Settled (l : Ledger) (k b : ℕ) : Type 0 where
  pub closed_is : k ≡ (settled l).closed
  pub below_is : b ≡ (settled l).below
