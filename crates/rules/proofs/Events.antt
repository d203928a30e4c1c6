-- Events by name, day first, and what a case of the marked list asks of a list of them, or of a reading.
use Prim.Native.Nat.{ℕ, zero, suc, ◌+◌, ◌-◌}
use Prim.Native.String.{String}
use mathlib.Core.Path.{◌≡◌, refl, sym, ap}
use mathlib.Core.Bool.{Bool, true, false, cond, ◌&&◌, ◌||◌, true≢false}
use mathlib.Core.List.{List, [], ◌∷◌, ◌++◌, map}
use lib.Dec.{eqb, leb, ltb}
use lib.ListN.{length, get_or}
use borrow.Author.Tests.{eqb-true}
use Rattle.rules.specs.declared.Event.{Event}
use Rattle.rules.specs.declared.Calendar.{Calendar}
use Rattle.rules.specs.Kinds as kinds
use Rattle.rules.specs.Deposit as deposit
use Rattle.rules.specs.Service.{service, is_on, is_off}
use Rattle.rules.specs.Money.{Item, charged, credits, unpaid, open_items}
use Rattle.rules.specs.Money as money
use Rattle.rules.specs.Notice.{notice_live}
use Rattle.rules.specs.Medical as medical
use Rattle.rules.specs.Arrangement.{in_force}
use Rattle.std.specs.Prelude.{Option, Some, None, is_some, Ok, Err}
use Rattle.std.specs.Result.{result_unwrap_or}
use Rattle.rules.specs.Answer.{Answer, number_of, receipt_of}
use Rattle.rules.specs.Accepted.{accepted, answers_by}
use Rattle.rules.specs.Limits.{most_usage}
use Rattle.rules.specs.Tariff.{is_class, cents_of, bill_of, bill_lines}
use Rattle.rules.specs.Budget.{Reading, reading_of}

-- ---- events
abbrev pub event : ℕ → ℕ → ℕ → ℕ → Event
event k t o a = record { kind = k; option = o; day = t; amount = a }

abbrev pub bill : ℕ → ℕ → Event
bill t a = event kinds.bill t 0 a

-- a payment at a till, and the return of a till's receipt; with no word of a till, at till 0
abbrev pub payment_at : ℕ → ℕ → ℕ → Event
payment_at till t a = event kinds.payment t till a

abbrev pub payment : ℕ → ℕ → Event
payment t a = payment_at 0 t a

abbrev pub returned_at : ℕ → ℕ → ℕ → Event
returned_at till t r = event kinds.returned_payment t till r

abbrev pub returned : ℕ → ℕ → Event
returned t r = returned_at 0 t r

abbrev pub fee : ℕ → ℕ → Event
fee t n = event kinds.fee t n 0

abbrev pub asked_deposit : ℕ → ℕ → Event
asked_deposit t a = event kinds.deposit_asked t 0 a

abbrev pub paid : ℕ → ℕ → Event
paid t a = event kinds.deposit_paid t 0 a

abbrev pub moved : ℕ → Event
moved t = event kinds.deposit_moved t 0 0

abbrev pub payout : ℕ → ℕ → Event
payout t a = event kinds.payout t 0 a

abbrev pub certificate : ℕ → ℕ → Event
certificate t n = event kinds.certificate t 0 n

abbrev pub approval : ℕ → ℕ → Event
approval t n = event kinds.approval t 0 n

abbrev pub arrangement : ℕ → ℕ → Event
arrangement t n = event kinds.arrangement t n 0

abbrev pub notice : ℕ → Event
notice t = event kinds.final_notice t 0 0

abbrev pub call : ℕ → Event
call t = event kinds.call t 0 0

abbrev pub cut_off : ℕ → Event
cut_off t = event kinds.disconnection t 0 0

abbrev pub reconnection : ℕ → ℕ → Event
reconnection t o = event kinds.reconnection t o 0

abbrev pub close : ℕ → Event
close t = event kinds.closing t 0 0

-- a list n times over
abbrev pub times : ℕ → List Event → List Event
times zero es = []
times (suc n) es = es ++ times n es

-- ---- questions
-- the last answer, of which f is asked; 999 where an earlier event was refused
abbrev last_of : (Answer → ℕ) → ℕ → ℕ → List Answer → ℕ
last_of f seen n [] = n
last_of f seen n (a ∷ more) = cond (eqb seen 0) (last_of f (number_of a) (f a) more) 999

abbrev pub number : Option Calendar → List Event → ℕ
number c es = last_of number_of 0 0 (answers_by c es)

abbrev pub receipt : Option Calendar → List Event → ℕ
receipt c es = last_of receipt_of 0 0 (answers_by c es)

abbrev refused_in : List Answer → ℕ
refused_in [] = 0
refused_in (a ∷ more) = cond (eqb (number_of a) 0) 0 1 + refused_in more

abbrev pub refused : Option Calendar → List Event → ℕ
refused c es = refused_in (answers_by c es)

-- what is owed, and what there is in credit: one of them is 0
abbrev pub owed : Option Calendar → List Event → ℕ
owed c es = charged (accepted c es) - credits (accepted c es)

abbrev pub credit : Option Calendar → List Event → ℕ
credit c es = credits (accepted c es) - charged (accepted c es)

abbrev pub held : Option Calendar → List Event → ℕ
held c es = deposit.held (accepted c es)

abbrev pub required : Option Calendar → List Event → ℕ
required c es = deposit.required (accepted c es)

abbrev pub open_count : Option Calendar → List Event → ℕ
open_count c es = length (open_items (accepted c es))

-- the day, and the unpaid part, of open item k, from 0
abbrev item : ℕ → Option Calendar → List Event → Item
item k c es = get_or (open_items (accepted c es)) k (record { day = 0; amount = 0; upto = 0 })

abbrev pub open_day : ℕ → Option Calendar → List Event → ℕ
open_day k c es = (item k c es).day

abbrev pub open_part : ℕ → Option Calendar → List Event → ℕ
open_part k c es = unpaid (credits (accepted c es)) (item k c es)

abbrev pub arrears : ℕ → Option Calendar → List Event → ℕ
arrears t c es = money.arrears (accepted c es) t

-- on day t: a notice is live, a certificate is live, an arrangement is in force; 1 for yes
abbrev pub live : ℕ → Option Calendar → List Event → ℕ
live t c es = cond (notice_live (accepted c es) t) 1 0

abbrev pub certified : ℕ → Option Calendar → List Event → ℕ
certified t c es = cond (medical.certified (accepted c es) t) 1 0

abbrev pub stands : ℕ → Option Calendar → List Event → ℕ
stands t c es = cond (in_force (accepted c es) t) 1 0

-- 0 on, 1 off, 2 closed
abbrev pub service_is : Option Calendar → List Event → ℕ
service_is c es = cond (is_on (service (accepted c es))) 0 (cond (is_off (service (accepted c es))) 1 2)

-- ---- cases
-- a name, the calendar that the account was begun with or none, a list of events in the order posted, a question, and its answer
pub record Case : Type 0 where
  pub name : String
  pub calendar : Option Calendar
  pub events : List Event
  pub asks : Option Calendar → List Event → ℕ
  pub expected : ℕ

-- the last event is answered with the number, all before it being accepted
abbrev pub ends : String → List Event → ℕ → Case
ends s es n = record { name = s; calendar = None; events = es; asks = number; expected = n }

abbrev pub shows : String → (Option Calendar → List Event → ℕ) → List Event → ℕ → Case
shows s f es n = record { name = s; calendar = None; events = es; asks = f; expected = n }

-- the same with a calendar
abbrev pub ends_by : String → Calendar → List Event → ℕ → Case
ends_by s c es n = record { name = s; calendar = Some c; events = es; asks = number; expected = n }

abbrev pub shows_by : String → (Option Calendar → List Event → ℕ) → Calendar → List Event → ℕ → Case
shows_by s f c es n = record { name = s; calendar = Some c; events = es; asks = f; expected = n }

-- what is worked out without events
abbrev pub gives : String → ℕ → ℕ → Case
gives s found n = record { name = s; calendar = None; events = []; asks = λ c es. found; expected = n }

-- the cents of the bill of a class and a usage, and the number that refuses one
abbrev pub bills : String → ℕ → ℕ → ℕ → Case
bills s class usage n = gives s (result_unwrap_or (bill_of class usage) 0) n

abbrev pub unbilled : String → ℕ → ℕ → ℕ → Case
unbilled s class usage n = gives s (number_of (bill_of class usage)) n

abbrev pub same : List ℕ → List ℕ → Bool
same [] [] = true
same [] (y ∷ ys) = false
same (x ∷ xs) [] = false
same (x ∷ xs) (y ∷ ys) = eqb x y && same xs ys

-- the kilowatt-hours, and the prices, of the lines of such a bill
abbrev pub uses : String → ℕ → ℕ → List ℕ → Case
uses s class usage ns = gives s (cond (same (map (λ l. l.used) (bill_lines class usage)) ns) 1 0) 1

abbrev pub prices : String → ℕ → ℕ → List ℕ → Case
prices s class usage ns = gives s (cond (same (map (λ l. l.price) (bill_lines class usage)) ns) 1 0) 1

-- a usage that is told, or none, is the one that is wanted
abbrev same_reading : Reading → Option ℕ → Bool
same_reading (Ok (Some usage)) (Some wanted) = eqb usage wanted
same_reading (Ok (Some usage)) None = false
same_reading (Ok None) (Some wanted) = false
same_reading (Ok None) None = true
same_reading (Err r) wanted = false

-- what passes is that reading
pub same_is : (r : Reading) (wanted : Option ℕ) → same_reading r wanted ≡ true → r ≡ Ok wanted
same_is (Ok (Some usage)) (Some wanted) e = ap (λ n. Ok (Some n)) (eqb-true usage wanted e)
same_is (Ok (Some usage)) None e = absurd (true≢false (sym e))
same_is (Ok None) (Some wanted) e = absurd (true≢false (sym e))
same_is (Ok None) None e = refl
same_is (Err r) wanted e = absurd (true≢false (sym e))

-- the usage that a sum pays for, or none, by the definition: it looks from the most usage down, so this is for a usage near that, and for none
abbrev pub finds : String → ℕ → ℕ → Option ℕ → Case
finds s class sum wanted = gives s (cond (same_reading (reading_of class sum) wanted) 1 0) 1

-- that there is one
abbrev pub finds_some : String → ℕ → ℕ → Case
finds_some s class sum = gives s (cond (is_some (result_unwrap_or (reading_of class sum) None)) 1 0) 1

-- any usage, by two bills: it is paid for, and one kilowatt-hour more is not, or is not allowed. As bills grow, no larger usage is paid for then
-- (`by_the_next` in tariff/proofs/Paid.antt)
abbrev pub last_paid : ℕ → ℕ → ℕ → Bool
last_paid class sum usage =
    is_class class && leb usage most_usage && leb (cents_of class usage) sum && (eqb usage most_usage || ltb sum (cents_of class (usage + 1)))

abbrev pub pays_for : String → ℕ → ℕ → ℕ → Case
pays_for s class sum usage = gives s (cond (last_paid class sum usage) 1 0) 1

-- the number that refuses a class and a sum
abbrev pub unread : String → ℕ → ℕ → ℕ → Case
unread s class sum n = gives s (number_of (reading_of class sum)) n

-- the names of the cases that do not hold
abbrev pub wrong : List Case → List String
wrong [] = []
wrong (c ∷ cs) = cond (eqb (c.asks c.calendar c.events) c.expected) (wrong cs) (c.name ∷ wrong cs)
