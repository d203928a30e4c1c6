-- The receipts that an account keeps: how many each till has given, and five rings of the newest 16 payments of each, flat, in 85 words of its memory.
use Rattle.std.specs.Prelude.{ℕ, ◌+◌, ◌*◌, ◌-◌, ◌%◌, ◌≤◌, Bool, cond, ◌&&◌, List, [], ◌∷◌, ◌++◌, leb, ltb, get_or, set, take, drop, replicate}
use Rattle.std.specs.List.{list_all}
use Rattle.rules.specs.declared.Event.{Event}
use Rattle.rules.specs.Kinds.{payment, returned_payment}
use Rattle.rules.specs.History.{History, is, within}
use Rattle.rules.specs.Limits.{limit, last_till, known_receipts}

pub record Receipts : Type 0 where
  -- how many payments of each till were accepted
  pub counts : List ℕ
  -- the payment of a till's receipt r at 16 × till + r mod 16
  pub recent : List ℕ

-- how many tills there are
abbrev pub tills : ℕ
tills = last_till + 1

-- ---- its words
abbrev pub receipts_size : ℕ
receipts_size = 85

abbrev pub receipts_on : List ℕ → Receipts
receipts_on w = record { counts = take tills w; recent = drop tills w }

-- all of them: equal parts are equal memory
abbrev pub receipts_words : Receipts → List ℕ
receipts_words s = s.counts ++ s.recent

-- ---- its step
abbrev pub no_receipts : Receipts
no_receipts = record { counts = replicate tills 0; recent = replicate (known_receipts * tills) 0 }

-- how many payments of a till were accepted, the receipt of its newest; of no other till there are any
abbrev pub count_by : Receipts → ℕ → ℕ
count_by s till = get_or s.counts till 0

-- where the payment of a till's receipt stands
abbrev pub place : ℕ → ℕ → ℕ
place till r = known_receipts * till + r % known_receipts

-- a payment takes the next place of its till, a returned one clears its own
abbrev pub receipts_after : Receipts → Event → Receipts
receipts_after s e =
    record {
      counts = cond (is payment e) (set s.counts e.option (count_by s e.option + 1)) s.counts;
      recent =
          cond (is payment e) (set s.recent (place e.option (count_by s e.option + 1)) e.amount)
          (cond (is returned_payment e) (set s.recent (place e.option e.amount) 0)
          s.recent);
    }

-- the part after a history
unfoldable pub receipts_of : History → Receipts
receipts_of [] = no_receipts
receipts_of (e ∷ h) = receipts_after (receipts_of h) e

-- ---- what it tells
-- the payment of a receipt among the newest 16 of a till, 0 of any other
abbrev pub payment_by : Receipts → ℕ → ℕ → ℕ
payment_by s till r =
    cond (within 1 (count_by s till) r && ltb (count_by s till - r) known_receipts) (get_or s.recent (place till r) 0) 0

-- no till has more payments than the limit has cents
abbrev pub receipts_ok : Receipts → Bool
receipts_ok s = list_all (λ n. leb n limit) s.counts

-- what the test tells
pub record ReceiptsFit (s : Receipts) : Type 0 where
  pub count_le : (till : ℕ) → count_by s till ≤ limit
