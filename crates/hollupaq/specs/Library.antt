-- The answers of the static library: plain numbers, since an enum has no form in C; and demand 3 of an account that a program keeps.
use Rattle.std.specs.Prelude.{ℕ, zero, suc, ◌+◌, min, ◌≡◌, Bool, true, false, cond, ◌&&◌, List, map, eqb, length, Option, Some, None, Result, Ok, Err}
use Rattle.basics.specs.Machine.{largest}
use Rattle.rules.specs.declared.Event.{Event}
use Rattle.rules.specs.declared.Calendar.{Calendar}
use Rattle.rules.specs.declared.refusals.Refusal.{Refusal}
use Rattle.rules.specs.Refusals.{refusal_number}
use Rattle.rules.specs.Answer.{Answer}
use Rattle.rules.specs.Budget.{Reading}
use Rattle.rules.specs.Money.{arrears}
use Rattle.rules.specs.Limits.{calendar_words}
use Rattle.rules.specs.Workdays.{counted_by, Taken}
use Rattle.rules.specs.Notice.{notice_live}
use Rattle.rules.specs.Medical.{certified}
use Rattle.rules.specs.Arrangement.{in_force}
use Rattle.rules.specs.Accepted.{day_refusal, accepted, answer, answers_by}
use Rattle.account.specs.State.{account_size, begun_words}
use Rattle.account.specs.Post.{answer_to, words_after}
use Rattle.account.specs.Many.{answer_at_of, words_at_after}
use Rattle.questions.specs.Questions.{working_days_in, arrears_on, in_force_on, notice_live_on, certified_on}
use Rattle.claim.specs.Run.{LeftBy}
use Rattle.claim.specs.Claim.{ClaimOf}
use Rattle.report.specs.Report.{print_length, printed_in}

-- version 1.6.0: ten thousands, hundreds and ones
abbrev pub library_version : ℕ
library_version = 10600

-- under 256 the number that refuses; where none does, 256 and the value asked for
abbrev pub told : ℕ → ℕ → ℕ
told zero v = 256 + v
told (suc n) v = suc n

-- the same of yes, 1, or no, 0
abbrev pub told_yes : ℕ → Bool → ℕ
told_yes n b = told n (cond b 1 0)

-- what writing a text does: how many bytes it took, 0 where the output was too short, which no text is; and every byte of the output
pub record Written (text old new : List ℕ) (r : ℕ) : Type 0 where
  pub answer : r ≡ print_length text old
  pub bytes : new ≡ printed_in text old

-- ---- an account that the caller keeps
-- under 256 the number that refuses, 0 where the memory is no account; else 256 and the receipt of a payment, or 256 alone
abbrev pub answer_word : Answer → ℕ
answer_word (Ok n) = 256 + n
answer_word (Err r) = refusal_number r

-- one posting: the memory was m, r is what is answered to e, and k is the memory that is left
pub record Keeps (m : List ℕ) (e : Event) (r : ℕ) (k : List ℕ) : Type 0 where
  pub answer_is : r ≡ answer_word (answer_to m e)
  pub words_are : k ≡ words_after m e

-- the same on account i of many
pub record KeepsAt (i : ℕ) (all : List ℕ) (e : Event) (r : ℕ) (all2 : List ℕ) : Type 0 where
  pub answer_is : r ≡ answer_word (answer_at_of i all e)
  pub words_are : all2 ≡ words_at_after i all e

-- memory for a new account has as many words as an account, and the calendar, if it is begun with one, as many as a calendar
abbrev pub room_for : Option Calendar → List ℕ → Bool
room_for None m = eqb (length m) account_size
room_for (Some c) m = eqb (length c.bits) calendar_words && eqb (length m) account_size

-- then it is begun; else it stays as it was
pub record Begun (c : Option Calendar) (m : List ℕ) (r : ℕ) (k : List ℕ) : Type 0 where
  pub answer_is : r ≡ cond (room_for c m) 1 0
  pub words_are : k ≡ cond (room_for c m) (begun_words c) m

-- what is told for a day: below 256 the number that refuses it; else 256 and the cents, or 256 and 1 for yes, 256 for no
abbrev pub amount_word : Result ℕ Refusal → ℕ
amount_word (Ok n) = min (256 + n) largest
amount_word (Err r) = refusal_number r

abbrev pub truth_word : Result Bool Refusal → ℕ
truth_word (Ok true) = 257
truth_word (Ok false) = 256
truth_word (Err r) = refusal_number r

-- a count of working days: 256 and the count, 0 where there is no calendar
abbrev pub count_word : Option ℕ → ℕ
count_word None = 0
count_word (Some n) = 256 + n

-- a reading for a budget: 256 and the usage, 0 for none; else below 256 the number that refuses
abbrev pub reading_word : Reading → ℕ
reading_word (Ok (Some usage)) = 256 + usage
reading_word (Ok None) = 0
reading_word (Err r) = refusal_number r

-- DEMAND 3 of z, the memory after the list es, begun with c: what was answered are the answers of the events alone, and the claim holds
pub record KeptClaimOf (c : Option Calendar) (z : List ℕ) (said : List ℕ) (es : List Event) : Type 0 where
  pub answered : said ≡ map answer_word (answers_by c es)
  pub claim : ClaimOf c z (answers_by c es) es (accepted c es)
  -- what would be answered to any event now is what the accepted events alone give
  pub would : (e : Event) → answer_word (answer_to z e) ≡ answer_word (answer c (accepted c es) e)
  -- the working days between any two days are those of its calendar
  pub counted : (n t : ℕ) → count_word (working_days_in z n t) ≡ count_word (counted_by c n t)
  -- and for any day what the accepted events say of it, refused with 1 or 2 as an event is
  pub dues : (t : ℕ) → amount_word (arrears_on z t) ≡ told (day_refusal (accepted c es) t) (arrears (accepted c es) t)
  pub arranged : (t : ℕ) → truth_word (in_force_on z t) ≡ told_yes (day_refusal (accepted c es) t) (in_force (accepted c es) t)
  pub noticed : (t : ℕ) → truth_word (notice_live_on z t) ≡ told_yes (day_refusal (accepted c es) t) (notice_live (accepted c es) t)
  pub certificated : (t : ℕ) → truth_word (certified_on z t) ≡ told_yes (day_refusal (accepted c es) t) (certified (accepted c es) t)

-- each event is posted in the memory that the posting before left
abbrev pub KeptClaim : Option Calendar → List Event → List ℕ → List ℕ → Type 0
KeptClaim c es said z = Taken c → LeftBy Keeps (begun_words c) es said z → KeptClaimOf c z said es
