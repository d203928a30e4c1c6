-- DEMAND 3 for many accounts that lie in one memory: postings on one or another of them, in any order.
use Rattle.std.specs.Prelude.{ℕ, ◌<◌, ◌≡◌, cond, List, [], ◌∷◌, eqb, map, length, get_or, Option, None}
use Rattle.std.specs.List.{All}
use Rattle.span.specs.Span.{joined}
use Rattle.rules.specs.declared.Event.{Event}
use Rattle.rules.specs.declared.Calendar.{Calendar}
use Rattle.rules.specs.Workdays.{Taken}
use Rattle.rules.specs.Answer.{Answer}
use Rattle.rules.specs.Accepted.{accepted}
use Rattle.account.specs.State.{begun_words}
use Rattle.account.specs.Many.{account_at, LeavesAt}
use Rattle.claim.specs.Claim.{ClaimOf}

-- an event, and the index of the account that it is posted to
pub record Posting : Type 0 where
  pub index : ℕ
  pub event : Event

-- of a list of postings, the events for account i, and the answers to them
abbrev pub events_for : ℕ → List Posting → List Event
events_for i [] = []
events_for i (p ∷ ps) = cond (eqb p.index i) (p.event ∷ events_for i ps) (events_for i ps)

abbrev pub answers_for : ℕ → List Posting → List Answer → List Answer
answers_for i [] said = []
answers_for i (p ∷ ps) [] = []
answers_for i (p ∷ ps) (s ∷ said) = cond (eqb p.index i) (s ∷ answers_for i ps said) (answers_for i ps said)

-- the memory was all, said are the answers to ps, and z is what the last posting left
abbrev pub LeftAt : List ℕ → List Posting → List Answer → List ℕ → Type 0
LeftAt all [] [] z = z ≡ all
LeftAt all [] (s ∷ said) z = ⊥
LeftAt all (p ∷ ps) [] z = ⊥
LeftAt all (p ∷ ps) (s ∷ said) z = (b : List ℕ) × (LeavesAt p.index all p.event s b × LeftAt b ps said z)

-- fresh accounts at first, one after another, begun with the calendars cs or with none: of each of them the claim holds, by its calendar and
-- the events for it alone
abbrev pub ManyClaim : List (Option Calendar) → List Posting → List Answer → List ℕ → Type 0
ManyClaim cs ps said z =
    All Taken cs
    → LeftAt (joined (map begun_words cs)) ps said z
    → (i : ℕ) → i < length cs
    → ClaimOf (get_or cs i None) (account_at i z) (answers_for i ps said) (events_for i ps) (accepted (get_or cs i None) (events_for i ps))
