-- What an event's kind looks at, so that the rest need not be worked out.
use Rattle.std.specs.Prelude.{Bool, cond, ◌&&◌, ◌||◌}
use Rattle.rules.specs.declared.Event.{Event}
use Rattle.rules.specs.declared.View.{View}
use Rattle.rules.specs.Kinds.{returned_payment, deposit_moved, arrangement, final_notice, disconnection, reconnection}
use Rattle.rules.specs.History.{is}

-- kinds 11, 12, 14 and 15 look at arrears, or at an arrangement in force
unfoldable pub looks_at_debt : Event → Bool
looks_at_debt e = is arrangement e || is final_notice e || is disconnection e || is reconnection e

-- the View without what e's kind does not look at: the payment that it names is for a returned payment, whether the deposit is
-- earned for its move, and notices, the calendar, calls, certificates and arrangements for the kinds that look at the debt
abbrev pub seen_of : View → Event → View
seen_of v e =
    record {
      service = v.service;
      charged = v.charged;
      credited = v.credited;
      credits = v.credits;
      payment = cond (is returned_payment e) v.payment 0;
      held = v.held;
      required = v.required;
      earned = is deposit_moved e && v.earned;
      arrears = cond (looks_at_debt e) v.arrears 0;
      in_force = looks_at_debt e && v.in_force;
      notice_live = looks_at_debt e && v.notice_live;
      notice_in_days = looks_at_debt e && v.notice_in_days;
      in_calendar = looks_at_debt e && v.in_calendar;
      called = looks_at_debt e && v.called;
      certified = looks_at_debt e && v.certified;
      approved = looks_at_debt e && v.approved;
      open_count = v.open_count;
    }
