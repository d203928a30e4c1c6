-- Many accounts in one memory, one after another.
use Rattle.std.specs.Prelude.{ℕ, ◌+◌, ◌*◌, ◌≡◌, Bool, cond, List, leb, length, take, drop, Err}
use Rattle.span.specs.Span.{put}
use Rattle.rules.specs.declared.Event.{Event}
use Rattle.rules.specs.declared.refusals.Refusal.TheVariants.{NoAccount}
use Rattle.rules.specs.Answer.{Answer}
use Rattle.account.specs.State.{account_size}
use Rattle.account.specs.Post.{answer_to, words_after}

-- account i, counted from 0
abbrev pub account_at : ℕ → List ℕ → List ℕ
account_at i all = take account_size (drop (i * account_size) all)

-- there is an account i
abbrev pub has_account : ℕ → List ℕ → Bool
has_account i all = leb (i * account_size + account_size) (length all)

-- the answer to e posted on account i: that of a posting on it alone; where there is no account i, refused with 0
abbrev pub answer_at_of : ℕ → List ℕ → Event → Answer
answer_at_of i all e = cond (has_account i all) (answer_to (account_at i all) e) (Err NoAccount)

-- every word afterwards: those of account i as a posting on it alone leaves them, all others as they were
abbrev pub words_at_after : ℕ → List ℕ → Event → List ℕ
words_at_after i all e = cond (has_account i all) (put (i * account_size) account_size (words_after (account_at i all) e) all) all

pub record LeavesAt (i : ℕ) (all : List ℕ) (e : Event) (r : Answer) (all2 : List ℕ) : Type 0 where
  pub answer_is : r ≡ answer_at_of i all e
  pub words_are : all2 ≡ words_at_after i all e
