-- What is refused: rows 4 to 19 and 24 of the table, of a View and an event alone.
use Rattle.std.specs.Prelude.{ℕ, ◌+◌, ◌-◌, Bool, cond, not, ◌&&◌, ◌||◌, List, [], ◌∷◌, leb, ltb, eqb}
use Rattle.rules.specs.declared.Event.{Event}
use Rattle.rules.specs.declared.View.{View}
use Rattle.rules.specs.Kinds.{
  payment,
  returned_payment,
  deposit_asked,
  deposit_paid,
  deposit_moved,
  payout,
  arrangement,
  final_notice,
  call,
  disconnection,
  reconnection,
}
use Rattle.rules.specs.History.{is}
use Rattle.rules.specs.Service.{is_on, is_off, is_closed}
use Rattle.rules.specs.Deposit.{moves}
use Rattle.rules.specs.Money.{charges, charge_by, credit_by}
use Rattle.rules.specs.Limits.{enough, limit, most_open}

-- the amount of the item that e makes, by the View
abbrev pub charge_of : View → Event → ℕ
charge_of v e = charge_by v.charged v.credits v.payment e

-- what e credits, by the View
abbrev pub credit_of : View → Event → ℕ
credit_of v e = credit_by v.held e

-- 4: closed; not kind 2, 3, 8
abbrev pub row4 : View → Event → Bool
row4 v e = is_closed v.service && not (is payment e || is returned_payment e || is payout e)

-- 5: 12, 13, 14 while not on; 15 while not off
abbrev pub row5 : View → Event → Bool
row5 v e =
    ((is final_notice e || is call e || is disconnection e) && not (is_on v.service))
    || (is reconnection e && not (is_off v.service))

-- 24, after 5 and before 10: notice or disconnection on a day outside the calendar
abbrev pub row24 : View → Event → Bool
row24 v e = (is final_notice e || is disconnection e) && not v.in_calendar

-- 6: receipt not known, or returned
abbrev pub row6 : View → Event → Bool
row6 v e = is returned_payment e && eqb v.payment 0

-- 7: payout over P − C; deposit paid over, asked not over held, moved while not full or none required
abbrev pub row7 : View → Event → Bool
row7 v e =
    (is payout e && ltb (v.credits - v.charged) e.amount)
    || (is deposit_paid e && ltb (v.required - v.held) e.amount)
    || (is deposit_asked e && leb e.amount v.held)
    || (is deposit_moved e && (eqb v.required 0 || not (eqb v.held v.required)))

-- 8: deposit not earned
abbrev pub row8 : View → Event → Bool
row8 v e = is deposit_moved e && not v.earned

-- 9: arrangement: nothing in arrears, or one is in force
abbrev pub row9 : View → Event → Bool
row9 v e = is arrangement e && (eqb v.arrears 0 || v.in_force)

-- 10: notice or disconnection, arrears under 5,000
abbrev pub row10 : View → Event → Bool
row10 v e = (is final_notice e || is disconnection e) && ltb v.arrears enough

-- 11: notice: a notice is live
abbrev pub row11 : View → Event → Bool
row11 v e = is final_notice e && v.notice_live

-- 12: disconnection: no live notice in its days
abbrev pub row12 : View → Event → Bool
row12 v e = is disconnection e && not v.notice_in_days

-- 13: disconnection: no call in its days
abbrev pub row13 : View → Event → Bool
row13 v e = is disconnection e && not v.called

-- 14: disconnection: an arrangement is in force
abbrev pub row14 : View → Event → Bool
row14 v e = is disconnection e && v.in_force

-- 15: disconnection: a certificate, uncovered
abbrev pub row15 : View → Event → Bool
row15 v e = is disconnection e && (v.certified && not v.approved)

-- 16: reconnection: arrears above 0, no arrangement in force
abbrev pub row16 : View → Event → Bool
row16 v e = is reconnection e && (ltb 0 v.arrears && not v.in_force)

-- 17: reconnection: held under required
abbrev pub row17 : View → Event → Bool
row17 v e = is reconnection e && ltb v.held v.required

-- 18: new item while 64 are open
abbrev pub row18 : View → Event → Bool
row18 v e = charges e && leb most_open v.open_count

-- 19: C, or payments plus deposits moved, would pass 1,000,000,000,000
abbrev pub row19 : View → Event → Bool
row19 v e =
    (charges e && ltb limit (v.charged + charge_of v e))
    || ((is payment e || moves e) && ltb limit (v.credited + credit_of v e))

-- a row: its number, and when it refuses
pub record Row : Type 0 where
  pub number : ℕ
  pub refuses : View → Event → Bool

infix 20 ◌when◌
abbrev pub ◌when◌ : ℕ → (View → Event → Bool) → Row
n when p = record { number = n; refuses = p }

-- checks go in the order of the numbers, but for 24
abbrev pub table : List Row
table =
    (4 when row4)
    ∷ (5 when row5)
    ∷ (24 when row24)
    ∷ (6 when row6)
    ∷ (7 when row7)
    ∷ (8 when row8)
    ∷ (9 when row9)
    ∷ (10 when row10)
    ∷ (11 when row11)
    ∷ (12 when row12)
    ∷ (13 when row13)
    ∷ (14 when row14)
    ∷ (15 when row15)
    ∷ (16 when row16)
    ∷ (17 when row17)
    ∷ (18 when row18)
    ∷ (19 when row19)
    ∷ []

-- the number of the first row that refuses e; rest where none does
abbrev pub first_of : List Row → View → Event → ℕ → ℕ
first_of [] v e rest = rest
first_of (r ∷ rs) v e rest = cond (r.refuses v e) r.number (first_of rs v e rest)

-- the number of the row that refuses e, 0 for none
unfoldable pub refusal_by : View → Event → ℕ
refusal_by v e = first_of table v e 0
