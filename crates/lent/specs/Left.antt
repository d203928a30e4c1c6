-- DEMAND 3 for a lent account, begun with a calendar or with none: a list posted on it one event at a time, each on the account that the
-- posting before left.
use Rattle.std.specs.Prelude.{◌≡◌, List, Option}
use Rattle.rules.specs.declared.Event.{Event}
use Rattle.rules.specs.declared.Calendar.{Calendar}
use Rattle.rules.specs.Workdays.{Taken}
use Rattle.rules.specs.Answer.{Answer}
use Rattle.rules.specs.Accepted.{accepted}
use Rattle.account.specs.declared.Account.{Account}
use Rattle.account.specs.State.{begun_words}
use Rattle.account.specs.Post.{posted}
use Rattle.claim.specs.Run.{LeftBy}
use Rattle.claim.specs.Claim.{ClaimOf}

-- one posting: the account was a, s is the answer to e, and z is the account that is left
pub record LeavesLent (a : Account) (e : Event) (s : Answer) (z : Account) : Type 0 where
  pub answer_is : s ≡ (posted a e).answer
  pub account_is : z ≡ (posted a e).account

abbrev pub begun_account : Option Calendar → Account
begun_account c = record { memory = begun_words c }

-- whatever list was posted, accepted and refused mixed
abbrev pub LentClaim : Option Calendar → List Event → List Answer → Account → Type 0
LentClaim c es said z = Taken c → LeftBy LeavesLent (begun_account c) es said z → ClaimOf c z.memory said es (accepted c es)
