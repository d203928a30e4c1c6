-- What the code of one posting works with: what it reads of an account, and what its steps ask and leave.
use Rattle.std.specs.Prelude.{ℕ, Option, min, ◌≡◌, Bool, false, cond, ◌&&◌, ◌||◌, List, length}
use Rattle.std.specs.Bool.{then_some}
use Rattle.basics.specs.Machine.{largest}
use Rattle.rules.specs.declared.Event.{Event}
use Rattle.rules.specs.declared.View.{View}
use Rattle.rules.specs.declared.Service.{Service}
use Rattle.rules.specs.Kinds.{bill, returned_payment, fee, deposit_moved}
use Rattle.rules.specs.History.{is}
use Rattle.rules.specs.Money.{charges}
use Rattle.rules.specs.Table.{charge_of, refusal_by}
use Rattle.rules.specs.Workdays.{in_calendar}
use Rattle.workdays.specs.Kept.{calendar_by}
use Rattle.table.specs.Seen.{looks_at_debt, seen_of}
use Rattle.collection.specs.Collection.{live_by, in_days_by, called_by}
use Rattle.deposit.specs.Deposit.{earned_by}
use Rattle.medical.specs.Medical.{certified_by, approved_by}
use Rattle.arrangement.specs.Arrangement.{in_force_by}
use Rattle.receipts.specs.Receipts.{payment_by}
use Rattle.ledger.specs.Ledger.{sums_of, arrears_by}
use Rattle.account.specs.declared.look.Debts.{Debts}
use Rattle.account.specs.declared.look.Money.{Money}
use Rattle.account.specs.declared.rows.Offer.{Offer}
use Rattle.account.specs.State.{State, account_size, state_on, Fit, view, applied}
use Rattle.account.specs.Post.{receipt_at}

-- ---- what is read
-- what only the kinds that look at the debt look at, on day t; where it is not wanted, nothing
abbrev pub debts_on : State → ℕ → Debts
debts_on s t =
    record {
      arrears = arrears_by s.ledger t;
      in_force = in_force_by s.arrangement t;
      notice_live = live_by s.collection.notice t;
      notice_in_days = in_days_by (calendar_by s.workdays) s.collection.notice t;
      in_calendar = in_calendar (calendar_by s.workdays) t;
      called = called_by s.collection.calls t;
      certified = certified_by s.medical t;
      approved = approved_by s.medical t;
    }

abbrev pub no_debts : Debts
no_debts = record { arrears = 0; in_force = false; notice_live = false; notice_in_days = false; in_calendar = false; called = false; certified = false; approved = false }

abbrev pub debts_for : State → Event → Debts
debts_for s e = cond (looks_at_debt e) (debts_on s e.day) no_debts

-- what every kind may look at
abbrev pub money_for : State → Event → Money
money_for s e =
    record {
      sums = sums_of s.ledger;
      payment = cond (is returned_payment e) (payment_by s.receipts e.option e.amount) 0;
      held = s.deposit.held;
      required = s.deposit.required;
      earned = is deposit_moved e && earned_by s.deposit e.day;
    }

abbrev pub view_from : Service → Debts → Money → View
view_from s d n =
    record {
      service = s;
      charged = n.sums.charged;
      credited = n.sums.credited;
      credits = n.sums.credits;
      payment = n.payment;
      held = n.held;
      required = n.required;
      earned = n.earned;
      arrears = d.arrears;
      in_force = d.in_force;
      notice_live = d.notice_live;
      notice_in_days = d.notice_in_days;
      in_calendar = d.in_calendar;
      called = d.called;
      certified = d.certified;
      approved = d.approved;
      open_count = n.sums.open_count;
    }

-- ---- what the steps ask and leave
-- the memory m is the account s now
pub record Became (m : List ℕ) (s : State) : Type 0 where
  pub words_are : length m ≡ account_size
  pub state_is : state_on m ≡ s

-- the amount of the item that e makes, if it makes one
abbrev pub item_of : View → Event → Option ℕ
item_of v e = then_some (charges e) (min (charge_of v e) largest)

-- e passes: v is what its kind looks at, no row refuses, and the item that it makes, if it makes one, is of what it charges
pub record Passing (m : List ℕ) (e : Event) (v : View) (item : Option ℕ) : Type 0 where
  pub fit : Fit m
  pub looked : v ≡ seen_of (view (state_on m) e) e
  pub free : refusal_by v e ≡ 0
  pub charged : item ≡ item_of v e

-- what the rows look at when e is offered, and the item that it makes
abbrev pub offer_of : State → Event → Offer
offer_of s e = record { view = seen_of (view s e) e; item = item_of (seen_of (view s e) e) e }

-- e was applied: the account afterwards, and the receipt
pub record Applied (m : List ℕ) (e : Event) (v : View) (k : List ℕ) (r : ℕ) : Type 0 where
  pub became : Became k (applied (state_on m) e v)
  pub receipt_is : r ≡ receipt_at (state_on m) e

-- ---- the kinds that have a way of their own
-- a bill or a fee: it makes an item, and does no more
abbrev pub only_item : Event → Bool
only_item e = is bill e || is fee e

-- no row refuses e
pub record Free (m : List ℕ) (e : Event) : Type 0 where
  pub fit : Fit m
  pub free : refusal_by (view (state_on m) e) e ≡ 0
