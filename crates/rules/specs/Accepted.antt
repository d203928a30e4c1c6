-- The other side of demand 3: what is accepted and answered, by the events alone, and by the calendar c that the account was begun with, or none.
use Rattle.std.specs.Prelude.{ℕ, Bool, cond, not, ◌&&◌, ◌||◌, List, [], ◌∷◌, ◌≡◌, leb, ltb, eqb, length, Option}
use Rattle.rules.specs.declared.Event.{Event}
use Rattle.rules.specs.declared.View.{View}
use Rattle.rules.specs.declared.Calendar.{Calendar}
use Rattle.rules.specs.Kinds.{payment, disconnection}
use Rattle.rules.specs.Limits.{final_day, enough}
use Rattle.rules.specs.History.{History, is, last_posted, count}
use Rattle.rules.specs.Service.{service, is_on}
use Rattle.rules.specs.Deposit.{held, required, earned}
use Rattle.rules.specs.Receipts.{is_at, named_payment}
use Rattle.rules.specs.Money.{charged, credited, credits, open_items, arrears}
use Rattle.rules.specs.Notice.{notice_live, notice_in_days, called}
use Rattle.rules.specs.Workdays.{in_calendar}
use Rattle.rules.specs.Medical.{certified, approved}
use Rattle.rules.specs.Arrangement.{in_force}
use Rattle.rules.specs.Range.{in_range}
use Rattle.rules.specs.Table.{refusal_by}
use Rattle.rules.specs.Answer.{Answer, answered}

-- what the table looks at when e is offered after h: the history on e's day
abbrev pub view_of : Option Calendar → History → Event → View
view_of c h e =
    record {
      service = service h;
      charged = charged h;
      credited = credited h;
      credits = credits h;
      payment = named_payment h e;
      held = held h;
      required = required h;
      earned = earned h e.day;
      arrears = arrears h e.day;
      in_force = in_force h e.day;
      notice_live = notice_live h e.day;
      notice_in_days = notice_in_days c h e.day;
      in_calendar = in_calendar c e.day;
      called = called h e.day;
      certified = certified h e.day;
      approved = approved h e.day;
      open_count = length (open_items h);
    }

-- 1: day over 73,048; 2: day before that of the last accepted. rest where neither refuses
abbrev pub day_rows : ℕ → ℕ → ℕ → ℕ
day_rows last t rest = cond (ltb final_day t) 1 (cond (ltb t last) 2 rest)

-- the number that refuses a question for day t after h, 0 for none: 1 or 2, as an event is refused
abbrev pub day_refusal : History → ℕ → ℕ
day_refusal h t = day_rows (last_posted h) t 0

-- the number that refuses e after h, 0 for none: 1 and 2 for the day, 3 for the range, then the table
abbrev pub refusal : Option Calendar → History → Event → ℕ
refusal c h e = day_rows (last_posted h) e.day (cond (not (in_range e)) 3 (refusal_by (view_of c h e) e))

-- h, and then e where no number refuses it
abbrev pub offered : Option Calendar → History → Event → History
offered c h e = cond (eqb (refusal c h e) 0) (e ∷ h) h

-- h, and then those events of a list that are accepted, the list being in the order posted
abbrev pub accepted_after : Option Calendar → History → List Event → History
accepted_after c h [] = h
accepted_after c h (e ∷ es) = accepted_after c (offered c h e) es

-- the accepted events of a list, from its first event on
abbrev pub accepted : Option Calendar → List Event → History
accepted c es = accepted_after c [] es

-- each event was refused by no number after those before it
abbrev pub Lawful : Option Calendar → History → Type 0
Lawful c [] = Unit {0}
Lawful c (e ∷ h) = (refusal c h e ≡ 0) × Lawful c h

-- the receipt that e is given when it is accepted after h: it counts the accepted payments of its till; 0 for other events
abbrev pub receipt_after : History → Event → ℕ
receipt_after h e = cond (is payment e) (count (is_at e.option payment) (e ∷ h)) 0

-- the answer to e after h: accepted with the receipt, or refused with the number
abbrev pub answer : Option Calendar → History → Event → Answer
answer c h e = answered (refusal c h e) (receipt_after h e)

-- the answers to the events of a list, in the order posted
abbrev pub answers_after : Option Calendar → History → List Event → List Answer
answers_after c h [] = []
answers_after c h (e ∷ es) = answer c h e ∷ answers_after c (offered c h e) es

-- the answers to a list, from its first event on
abbrev pub answers_by : Option Calendar → List Event → List Answer
answers_by c es = answers_after c [] es

-- of each answer the number, 0 for accepted, and the receipt, 0 for none
abbrev pub refusals_after : Option Calendar → History → List Event → List ℕ
refusals_after c h [] = []
refusals_after c h (e ∷ es) = refusal c h e ∷ refusals_after c (offered c h e) es

abbrev pub receipts_given : Option Calendar → History → List Event → List ℕ
receipts_given c h [] = []
receipts_given c h (e ∷ es) = cond (eqb (refusal c h e) 0) (receipt_after h e) 0 ∷ receipts_given c (offered c h e) es

-- a well-formed disconnection on t
abbrev pub cut_on : ℕ → Event
cut_on t = record { kind = disconnection; option = 0; day = t; amount = 0 }

-- a disconnection on t (document 01: a cut) is lawful: service on, t in the calendar if there is one, arrears of 5,000, a live notice
-- in its days, a call, no arrangement in force, no live certificate or an approval after the last
abbrev pub may_cut : Option Calendar → History → ℕ → Bool
may_cut c h t =
    is_on (service h)
    && in_calendar c t
    && leb enough (arrears h t)
    && notice_in_days c h t
    && called h t
    && not (in_force h t)
    && (not (certified h t) || approved h t)
