-- DEMAND 3, for every list of events, accepted and refused mixed, unknown kinds too, and for every calendar that a fresh account can be
-- begun with, or none.
--
-- The list is posted to the fresh account, each event to the account that the posting before it returned or left. The left
-- sides below are what the account answers; the right sides speak of the events, and of the calendar, alone (crates/rules/specs).
use Rattle.std.specs.Prelude.{ℕ, ◌+◌, ◌≤◌, ◌≡◌, Bool, true, false, cond, List, [], ◌∷◌, map, pos, ◌-ℤ◌, length, Option, None, Ok, Err}
use Rattle.std.proofs.Math.IntN.{sub_ℕ}
use Rattle.rules.specs.declared.Event.{Event}
use Rattle.rules.specs.declared.Calendar.{Calendar}
use Rattle.rules.specs.Answer.{Answer, number_of, receipt_of}
use Rattle.rules.specs.Kinds.{bill, payment, deposit_paid, payout}
use Rattle.rules.specs.Limits.{final_day}
use Rattle.rules.specs.History.{History, last_posted, total}
use Rattle.rules.specs.Deposit.{held, required}
use Rattle.rules.specs.Money.{credits, owed, unpaid, open_items, arrears}
use Rattle.rules.specs.Service.{service}
use Rattle.rules.specs.Workdays.{counted_by, Taken}
use Rattle.rules.specs.Notice.{notice_live}
use Rattle.rules.specs.Medical.{certified}
use Rattle.rules.specs.Arrangement.{in_force}
use Rattle.rules.specs.Sums.{late_charges, fees_charged, returned_payments}
use Rattle.rules.specs.Accepted.{day_refusal, accepted, answers_by, refusals_after, receipts_given, answer, cut_on, may_cut}
use Rattle.account.specs.State.{words_of, fresh_words, begun_words, account_of, passes}
use Rattle.account.specs.Post.{answer_to, Leaves}
use Rattle.questions.specs.Questions.{owed_in, held_in, required_in, service_in, open_in, count_in, working_days_in, arrears_on, in_force_on, notice_live_on, certified_on, Tells, Says}
use Rattle.claim.specs.Run.{run, answers, LeftBy}

-- an answer accepts or refuses
abbrev pub accepts : Answer → Bool
accepts (Ok r) = true
accepts (Err n) = false

-- how many answers refuse
abbrev pub refused_in : List Answer → ℕ
refused_in [] = 0
refused_in (x ∷ xs) = cond (accepts x) 0 1 + refused_in xs

-- m is the memory of the account after the list es, said are its answers; it was begun with c, and h are the accepted events of es
pub record ClaimOf (c : Option Calendar) (m : List ℕ) (said : List Answer) (es : List Event) (h : History) : Type 0 where
  -- each answer is the one that the events alone give: accepted exactly when no number refuses the event
  -- after those accepted before it, else that number; a payment's receipt is the count of its till's accepted payments
  pub answered : said ≡ answers_by c es
  -- in document 01's numbers: that of the first row that refuses, 0 for accepted; the receipt, 0 for none
  pub numbered : map number_of said ≡ refusals_after c [] es
  pub receipted : map receipt_of said ≡ receipts_given c [] es
  -- every event is refused or among the accepted
  pub refused : refused_in said + length h ≡ length es
  -- owed is C − P of the accepted events
  pub owing : owed_in m ≡ owed h
  -- held is the deposits paid since the last was moved
  pub holding : held_in m ≡ held h
  -- required is the sum last asked since the last was moved
  pub requiring : required_in m ≡ required h
  -- the open items, in the order posted, are the items whose unpaid part min(a_k, max(0, C_k − P)) is above 0: the day of each, and that part
  pub open_days : map (λ x. x.day) (open_in m) ≡ map (λ x. x.day) (open_items h)
  pub open_parts : map (λ x. x.unpaid) (open_in m) ≡ map (unpaid (credits h)) (open_items h)
  -- and as many of them as it says are open
  pub counting : count_in m ≡ length (open_items h)
  -- service is as the last event that sets it says
  pub serving : service_in m ≡ service h
  -- the working days among n + 1 to t are those of its calendar, and none are counted without one
  pub counted : (n t : ℕ) → working_days_in m n t ≡ counted_by c n t
  -- a question for a day is refused with 1 or 2 as an event is; else the arrears on that day are the unpaid parts of its delinquent items,
  pub dues : (t : ℕ) → Tells (arrears_on m t) (day_refusal h t) (arrears h t)
  -- an arrangement is in force, a notice is live, a certificate is live on that day exactly when the accepted events say so
  pub arranged : (t : ℕ) → Says (in_force_on m t) (day_refusal h t) (in_force h t)
  pub noticed : (t : ℕ) → Says (notice_live_on m t) (day_refusal h t) (notice_live h t)
  pub certificated : (t : ℕ) → Says (certified_on m t) (day_refusal h t) (certified h t)
  -- owed less held is bills, late charges, fees, returned payments and payouts, less payments and deposits paid
  pub money : owed_in m -ℤ pos (held_in m)
      ≡ sub_ℕ (total bill h + late_charges h + fees_charged h + returned_payments h + total payout h) (total payment h + total deposit_paid h)
  -- what would be answered to any event now is what the accepted events alone give
  pub would : (e : Event) → answer_to m e ≡ answer c h e
  -- on each day in range and not before the last accepted event, a well-formed disconnection is accepted exactly when the
  -- accepted events show that it is lawful; with a calendar the notice's wait is counted by it, and the day lies in it
  pub cuts : (t : ℕ) → t ≤ final_day → last_posted h ≤ t → accepts (answer_to m (cut_on t)) ≡ may_cut c h t
  -- the account passes the test
  pub passing : passes m ≡ true
  -- every word is made of the calendar and the accepted events alone, so that equal histories are equal memory
  pub words : m ≡ words_of (account_of c h)

-- each event posted to what the posting before returned
abbrev pub Claim : Option Calendar → List Event → Type 0
Claim c es = Taken c → ClaimOf c (run (begun_words c) es) (answers (begun_words c) es) es (accepted c es)

-- each event posted in memory that the posting before left, whoever lends it
abbrev pub LeftClaim : Option Calendar → List Event → List Answer → List ℕ → Type 0
LeftClaim c es said z = Taken c → LeftBy Leaves (begun_words c) es said z → ClaimOf c z said es (accepted c es)

-- a list posted in memory that was fresh, without a calendar: the account after the events, how many were refused, and demand 3 of them
pub record Ran (m : List ℕ) (refused : ℕ) (es : List Event) : Type 0 where
  pub words_are : m ≡ run fresh_words es
  pub refused_is : refused ≡ refused_in (answers fresh_words es)
  pub claim : ClaimOf None m (answers fresh_words es) es (accepted None es)
