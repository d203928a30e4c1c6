-- Posting one event to an account: the answer, and every word of the account afterwards.
use Rattle.std.specs.Prelude.{ℕ, ◌+◌, ◌≡◌, cond, not, List, eqb, Err}
use Rattle.rules.specs.declared.Event.{Event}
use Rattle.rules.specs.declared.refusals.Refusal.TheVariants.{NoAccount}
use Rattle.rules.specs.Kinds.{payment}
use Rattle.rules.specs.History.{is}
use Rattle.rules.specs.Range.{in_range}
use Rattle.rules.specs.Table.{refusal_by}
use Rattle.rules.specs.Answer.{Answer, answered}
use Rattle.rules.specs.Accepted.{day_rows}
use Rattle.receipts.specs.Receipts.{count_by}
use Rattle.account.specs.declared.Account.{Account}
use Rattle.account.specs.declared.Posted.{Posted}
use Rattle.account.specs.State.{State, state_on, words_of, passes, view, applied}

-- ---- an account of parts
-- the number that refuses e, 0 for none: 1 and 2 for the day, 3 for the range, then the table
unfoldable pub refusal_at : State → Event → ℕ
refusal_at s e = day_rows s.last e.day (cond (not (in_range e)) 3 (refusal_by (view s e) e))

-- the receipt of a payment at its till, or 0
abbrev pub receipt_at : State → Event → ℕ
receipt_at s e = cond (is payment e) (count_by s.receipts e.option + 1) 0

unfoldable pub answer_at : State → Event → Answer
answer_at s e = answered (refusal_at s e) (receipt_at s e)

-- refused: the account stays as it was
unfoldable pub state_after : State → Event → State
state_after s e = cond (eqb (refusal_at s e) 0) (applied s e (view s e)) s

-- ---- memory: what is no account is refused with 0, a number that the table does not have, and stays as it was
unfoldable pub answer_to : List ℕ → Event → Answer
answer_to m e = cond (passes m) (answer_at (state_on m) e) (Err NoAccount)

unfoldable pub words_after : List ℕ → Event → List ℕ
words_after m e = cond (passes m) (words_of (state_after (state_on m) e)) m

-- one posting: the memory was m, r is the answer to e, and k is the memory that is left
pub record Leaves (m : List ℕ) (e : Event) (r : Answer) (k : List ℕ) : Type 0 where
  pub answer_is : r ≡ answer_to m e
  pub words_are : k ≡ words_after m e

-- the same of memory that is known to be an account
pub record Judges (m : List ℕ) (e : Event) (r : Answer) (k : List ℕ) : Type 0 where
  pub answer_is : r ≡ answer_at (state_on m) e
  pub state_is : state_on k ≡ state_after (state_on m) e

-- ---- by value
abbrev pub posted : Account → Event → Posted
posted a e = record { answer = answer_to a.memory e; account = record { memory = words_after a.memory e } }
