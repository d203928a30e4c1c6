-- Every number that the table gives is that of a refusal, so that an answer tells it.
use Rattle.std.proofs.Common.{Result, Ok, Err, ap, ◌∙◌, ℕ, zero, suc, ◌+◌, ◌<◌, ◌≡◌, Bool, true, false, cond, not, ◌&&◌, List, [], ◌∷◌, length, get_or, eqb, ltb, refl, sym, arith}
use borrow.Author.Tests.{eqb-true, ltb-true}
use Rattle.std.specs.Result.{result_unwrap_or, is_ok, IsErrAnd}
use Rattle.std.proofs.lemmas.Bool.{and_parts}
use Rattle.std.proofs.lemmas.Result.{err_from_is_err_and}
use Rattle.basics.proofs.Cases.{on}
use Rattle.std.specs.List.{list_all}
use Rattle.rules.specs.declared.refusals.Refusal.{Refusal}
use Rattle.rules.specs.declared.refusals.Refusal.TheVariants.{NoAccount, PastLastDay, BeforeLastEvent, OutOfRange, Closed, WrongService, NoPayment, WrongSum, NotEarned, NothingToArrange, LowArrears, NoticeLive, NoNotice, NoCall, Arranged, Certified, InArrears, DepositShort, TooManyOpen, PastLimit, BadBook, BadRecord, TooShort, NoTariff, OutsideCalendar}
use Rattle.rules.specs.declared.Event.{Event}
use Rattle.rules.specs.declared.View.{View}
use Rattle.rules.specs.Refusals.{refusal_number, refusals, refusal_of}
use Rattle.rules.specs.Answer.{answered, number_of}
use Rattle.rules.specs.Limits.{final_day}
use Rattle.rules.specs.Range.{in_range}
use Rattle.rules.specs.Table.{Row, table, first_of, refusal_by}
use Rattle.rules.specs.Accepted.{day_rows}

-- the refusals of a list have the numbers from k on
counted : ℕ → List Refusal → Bool
counted k [] = true
counted k (r ∷ rs) = eqb (refusal_number r) k && counted (k + 1) rs

read : (k : ℕ) (rs : List Refusal) (n : ℕ) → n < length rs → counted k rs ≡ true → refusal_number (get_or rs n NoAccount) ≡ k + n
unfolding counted
read k [] n h c = absurd (omega arith)
read k (r ∷ rs) zero h c = omega (arith, eqb-true (refusal_number r) k (and_parts (eqb (refusal_number r) k) _ c).0)
read k (r ∷ rs) (suc n) h c =
    omega (arith, read (k + 1) rs n (omega arith) (and_parts (eqb (refusal_number r) k) _ c).1)

pub number_kept : (n : ℕ) → n < length refusals → refusal_number (refusal_of n) ≡ n
unfolding counted
number_kept n h = omega (arith, read 0 refusals n h refl)

-- a refusal is known by its number
of_number : (r : Refusal) → refusal_of (refusal_number r) ≡ r
of_number NoAccount = refl
of_number PastLastDay = refl
of_number BeforeLastEvent = refl
of_number OutOfRange = refl
of_number Closed = refl
of_number WrongService = refl
of_number NoPayment = refl
of_number WrongSum = refl
of_number NotEarned = refl
of_number NothingToArrange = refl
of_number LowArrears = refl
of_number NoticeLive = refl
of_number NoNotice = refl
of_number NoCall = refl
of_number Arranged = refl
of_number Certified = refl
of_number InArrears = refl
of_number DepositShort = refl
of_number TooManyOpen = refl
of_number PastLimit = refl
of_number BadBook = refl
of_number BadRecord = refl
of_number TooShort = refl
of_number NoTariff = refl
of_number OutsideCalendar = refl

pub number_back : (r s : Refusal) → refusal_number r ≡ refusal_number s → r ≡ s
number_back r s e = sym (of_number r) ∙ (ap refusal_of e ∙ of_number s)

-- an answer by a number of the table tells it, and the value where it is 0
pub number_answered : {A : Type 0} (n : ℕ) (x : A) → n < length refusals → number_of (answered n x) ≡ n
number_answered n x h = on (eqb n 0) (λ q. rw q (sym (eqb-true n 0 q))) (λ q. rw q (number_kept n h))

pub told_answered : {A : Type 0} (n : ℕ) (x : A) → is_ok (answered n x) ≡ eqb n 0
told_answered n x = on (eqb n 0) (λ q. rw q refl) (λ q. rw q refl)

pub value_answered : {A : Type 0} (n : ℕ) (none x : A) → result_unwrap_or (answered n x) none ≡ cond (eqb n 0) x none
value_answered n none x = on (eqb n 0) (λ q. rw q refl) (λ q. rw q refl)

-- ---- the numbers of the table
row_in : (k : ℕ) (rs : List Row) (v : View) (e : Event) (rest : ℕ) → list_all (λ r. ltb r.number k) rs ≡ true → rest < k → first_of rs v e rest < k
row_in k [] v e rest w h = h
row_in k (r ∷ rs) v e rest w h =
    on (r.refuses v e)
    (λ q. rw q (ltb-true r.number k (and_parts (ltb r.number k) _ w).0))
    (λ q. rw q (row_in k rs v e rest (and_parts (ltb r.number k) _ w).1 h))

pub refusal_in_table : (v : View) (e : Event) → refusal_by v e < length refusals
unfolding refusal_by
refusal_in_table v e = row_in 25 table v e 0 refl (omega arith)

pub day_rows_in_table : (last t rest : ℕ) → rest < length refusals → day_rows last t rest < length refusals
day_rows_in_table last t rest h =
    on (ltb final_day t) (λ q. rw q (omega arith)) (λ q. rw q (on (ltb t last) (λ r. rw r (omega arith)) (λ r. rw r h)))

-- what stands before the table, and then the table
pub rows_in_table : (last : ℕ) (v : View) (e : Event) → day_rows last e.day (cond (not (in_range e)) 3 (refusal_by v e)) < length refusals
rows_in_table last v e =
    day_rows_in_table last e.day _
    (on (in_range e) (λ q. rw q (refusal_in_table v e)) (λ q. rw q (omega arith)))

-- ---- what an answer by a number tells of it
pub answered_ok : {A : Type 0} (n : ℕ) (x y : A) → Ok x ≡ answered n y → (n ≡ 0) × (x ≡ y)
answered_ok n x y e =
    on (eqb n 0)
    (λ q. let f : Ok x ≡ Ok y = rw q at e in (eqb-true n 0 q, cc))
    (λ q. let f : Ok x ≡ Err (refusal_of n) = rw q at e in absurd (cc))

-- refused by the same number, whatever would have been answered
pub answered_err : {A B : Type 0} (n : ℕ) (r : Refusal) (y : A) (z : B) → Err r ≡ answered n y → (eqb n 0 ≡ false) × (Err r ≡ answered n z)
answered_err n r y z e =
    on (eqb n 0)
    (λ q. let f : Err r ≡ Ok y = rw q at e in absurd (cc))
    (λ q. let f : Err r ≡ Err (refusal_of n) = rw q at e in let g : r ≡ refusal_of n = cc in (q, rw q (rw g refl)))

-- the exit of a `?` hands the refusal on
pub handed_on : {A : Type 0} {r : Refusal} (x : Result A Refusal) → IsErrAnd x (λ y. y ≡ r) → x ≡ Err r
handed_on x q = let p = err_from_is_err_and x q in rw (p.1, p.2) refl

-- ---- what a row of the table, `Refusal::when`, tells
pub when_err : (b : Bool) (y r : Refusal) → Err r ≡ cond {A = Result (Unit {0}) Refusal} b (Err y) (Ok tt) → (b ≡ true) × (r ≡ y)
when_err true y r h = (refl, cc)
when_err false y r h = absurd (cc)

pub when_ok : (b : Bool) (y : Refusal) (u : Unit {0}) → Ok u ≡ cond {A = Result (Unit {0}) Refusal} b (Err y) (Ok tt) → b ≡ false
when_ok true y u h = absurd (cc)
when_ok false y u h = refl

-- a row that refuses where the test does not hold
pub unless : (b : Bool) (y : Refusal) (n : ℕ) → Err y ≡ answered n (tt {0})
    → cond {A = Result (Unit {0}) Refusal} (not b) (Err y) (Ok tt) ≡ answered (cond b 0 n) (tt {0})
unless true y n h = refl
unless false y n h = h
