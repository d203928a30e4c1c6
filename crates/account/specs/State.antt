-- An account: its parts, the words of memory that it is, the test, and what it becomes when an event is accepted.
use Rattle.std.specs.Prelude.{ℕ, ◌-◌, ◌≡◌, Bool, ◌&&◌, List, [], ◌∷◌, leb, eqb, length, get_or, replicate, ◌++◌, take, Option, Some, None}
use Rattle.span.specs.Span.{cut, joined}
use Rattle.rules.specs.declared.Event.{Event}
use Rattle.rules.specs.declared.View.{View}
use Rattle.rules.specs.declared.Calendar.{Calendar}
use Rattle.rules.specs.Limits.{final_day}
use Rattle.rules.specs.History.{History, last_posted}
use Rattle.rules.specs.Money.{charges}
use Rattle.rules.specs.Table.{charge_of, credit_of}
use Rattle.rules.specs.Workdays.{in_calendar}
use Rattle.collection.specs.declared.Collection.{Collection}
use Rattle.collection.specs.Collection.{
  collection_size,
  collection_on,
  collection_words,
  service_by,
  live_by,
  in_days_by,
  called_by,
  collection_after,
  collection_of,
  collection_ok,
}
use Rattle.deposit.specs.declared.Deposit.{Deposit}
use Rattle.deposit.specs.Deposit.{deposit_size, deposit_on, deposit_words, earned_by, deposit_after, deposit_of, deposit_ok, DepositFit}
use Rattle.medical.specs.declared.Medical.{Medical}
use Rattle.medical.specs.Medical.{medical_size, medical_on, medical_words, certified_by, approved_by, medical_after, medical_of, medical_ok}
use Rattle.arrangement.specs.declared.Arrangement.{Arrangement}
use Rattle.arrangement.specs.Arrangement.{
  arrangement_size,
  arrangement_on,
  arrangement_words,
  in_force_by,
  arrangement_after,
  arrangement_of,
  arrangement_ok,
  ArrangementFit,
}
use Rattle.receipts.specs.Receipts.{Receipts, receipts_size, receipts_on, receipts_words, payment_by, receipts_after, receipts_of, receipts_ok, ReceiptsFit}
use Rattle.workdays.specs.Kept.{Workdays, workdays_size, workdays_on, workdays_words, workdays_of, calendar_by, workdays_ok}
use Rattle.ledger.specs.Ledger.{Ledger, ledger_size, ledger_on, ledger_words, credits_by, arrears_by, ledger_after, ledger_of, ledger_ok, LedgerFit}

pub record State : Type 0 where
  -- the number of the layout, by which memory of another version is told
  pub layout : ℕ
  -- the day of the last accepted event
  pub last : ℕ
  pub collection : Collection
  pub deposit : Deposit
  pub medical : Medical
  pub arrangement : Arrangement
  pub receipts : Receipts
  pub ledger : Ledger
  pub workdays : Workdays

-- ---- its words
-- how many words each part takes, in the order in which they lie
abbrev pub sizes : List ℕ
sizes = 1 ∷ 1 ∷ collection_size ∷ deposit_size ∷ medical_size ∷ arrangement_size ∷ receipts_size ∷ ledger_size ∷ workdays_size ∷ []

abbrev pub account_size : ℕ
account_size = 274

-- the number of this layout: a million and five, so that no day is it, with which an account once began. An account that was laid out otherwise,
-- or was made while other events were accepted, has another
abbrev pub layout_number : ℕ
layout_number = 1000005

-- the account of these spans
abbrev pub state_of : List (List ℕ) → State
state_of cs =
    record {
      layout = get_or (get_or cs 0 []) 0 0;
      last = get_or (get_or cs 1 []) 0 0;
      collection = collection_on (get_or cs 2 []);
      deposit = deposit_on (get_or cs 3 []);
      medical = medical_on (get_or cs 4 []);
      arrangement = arrangement_on (get_or cs 5 []);
      receipts = receipts_on (get_or cs 6 []);
      ledger = ledger_on (get_or cs 7 []);
      workdays = workdays_on (get_or cs 8 []);
    }

-- the account that the words m are
abbrev pub state_on : List ℕ → State
state_on m = state_of (cut 0 sizes m)

-- the spans of an account
abbrev pub spans_of : State → List (List ℕ)
spans_of s =
    (s.layout ∷ [])
    ∷ (s.last ∷ [])
    ∷ collection_words s.collection
    ∷ deposit_words s.deposit
    ∷ medical_words s.medical
    ∷ arrangement_words s.arrangement
    ∷ receipts_words s.receipts
    ∷ ledger_words s.ledger
    ∷ workdays_words s.workdays
    ∷ []

-- the words of an account, every one of them: equal accounts are equal memory
abbrev pub words_of : State → List ℕ
words_of s = joined (spans_of s)

-- a fresh account, no events, no calendar, service on, all sums 0: the number of the layout, and zeros
abbrev pub fresh_words : List ℕ
fresh_words = layout_number ∷ replicate (account_size - 1) 0

-- an account that is begun: without a calendar a fresh one, else the same with the calendar in its last words
abbrev pub begun_words : Option Calendar → List ℕ
begun_words None = fresh_words
begun_words (Some c) = take (account_size - workdays_size) fresh_words ++ workdays_words (workdays_of (Some c))

-- the account that a history makes of one begun with c: each part fed with the rules' values, none with another part's
abbrev pub account_of : Option Calendar → History → State
account_of c h =
    record {
      layout = layout_number;
      last = last_posted h;
      collection = collection_of h;
      deposit = deposit_of h;
      medical = medical_of h;
      arrangement = arrangement_of h;
      receipts = receipts_of h;
      ledger = ledger_of h;
      workdays = workdays_of c;
    }

-- ---- the test
-- it is of this layout, and each part passes its own: the money's parts, what is kept on file, the service, the day and the calendar
abbrev pub money_ok : State → Bool
money_ok s = arrangement_ok s.arrangement && receipts_ok s.receipts && ledger_ok s.ledger

abbrev pub file_ok : State → Bool
file_ok s = deposit_ok s.deposit && medical_ok s.medical

abbrev pub service_ok : State → Bool
service_ok s = eqb s.layout layout_number && leb s.last final_day && collection_ok s.collection && workdays_ok s.workdays

unfoldable pub state_ok : State → Bool
state_ok s = service_ok s && (file_ok s && money_ok s)

-- memory is an account: as many words as one has, which pass the test
unfoldable pub passes : List ℕ → Bool
passes m = eqb (length m) account_size && state_ok (state_on m)

-- what the test tells, as far as the code rests on it
pub record StateFit (s : State) : Type 0 where
  pub deposit_fit : DepositFit s.deposit
  pub arrangement_fit : ArrangementFit s.arrangement
  pub receipts_fit : ReceiptsFit s.receipts
  pub ledger_fit : LedgerFit s.ledger

pub record Fit (m : List ℕ) : Type 0 where
  pub words_are : length m ≡ account_size
  pub fit : StateFit (state_on m)

-- ---- what the table looks at when e is offered
unfoldable pub view : State → Event → View
view s e =
    record {
      service = service_by s.collection.service;
      charged = s.ledger.charged;
      credited = s.ledger.credited;
      credits = credits_by s.ledger;
      payment = payment_by s.receipts e.option e.amount;
      held = s.deposit.held;
      required = s.deposit.required;
      earned = earned_by s.deposit e.day;
      arrears = arrears_by s.ledger e.day;
      in_force = in_force_by s.arrangement e.day;
      notice_live = live_by s.collection.notice e.day;
      notice_in_days = in_days_by (calendar_by s.workdays) s.collection.notice e.day;
      in_calendar = in_calendar (calendar_by s.workdays) e.day;
      called = called_by s.collection.calls e.day;
      certified = certified_by s.medical e.day;
      approved = approved_by s.medical e.day;
      open_count = s.ledger.made - s.ledger.closed;
    }

-- ---- an account with some parts in place of its own, and all others as they are
abbrev pub with_money : State → Arrangement → Receipts → Ledger → State
with_money s a r l =
    record {
      layout = s.layout;
      last = s.last;
      collection = s.collection;
      deposit = s.deposit;
      medical = s.medical;
      arrangement = a;
      receipts = r;
      ledger = l;
      workdays = s.workdays;
    }

abbrev pub with_file : State → Deposit → Medical → State
with_file s d m =
    record {
      layout = s.layout;
      last = s.last;
      collection = s.collection;
      deposit = d;
      medical = m;
      arrangement = s.arrangement;
      receipts = s.receipts;
      ledger = s.ledger;
      workdays = s.workdays;
    }

abbrev pub with_service : State → ℕ → Collection → State
with_service s t c =
    record {
      layout = s.layout;
      last = t;
      collection = c;
      deposit = s.deposit;
      medical = s.medical;
      arrangement = s.arrangement;
      receipts = s.receipts;
      ledger = s.ledger;
      workdays = s.workdays;
    }

-- ---- what it becomes when e is accepted, in three steps
-- the money: ledger, receipts and arrangement
abbrev pub money_after : State → Event → View → State
money_after s e v =
    with_money s
    (arrangement_after s.arrangement e v.arrears v.payment)
    (receipts_after s.receipts e)
    (ledger_after s.ledger e (charges e) (charge_of v e) (credit_of v e))

-- what is kept on file: the deposit, certificates and approvals
abbrev pub file_after : State → Event → State
file_after s e = with_file s (deposit_after s.deposit e) (medical_after s.medical e)

-- service, notice and calls, by the arrears after e; and the day
abbrev pub service_after : State → Event → State
service_after s e = with_service s e.day (collection_after s.collection e (arrears_by s.ledger e.day))

unfoldable pub applied : State → Event → View → State
applied s e v = service_after (file_after (money_after s e v) e) e
