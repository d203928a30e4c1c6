-- What an account answers, of any memory: what is no account owes and holds nothing, has no open items and no calendar and is closed, and
-- every question for a day is refused with 0.
use Rattle.std.specs.Prelude.{ℕ, ◌-◌, ◌≡◌, Bool, false, cond, List, [], eqb, ℤ, pos, Result, Err, Option, None}
use Rattle.std.proofs.Math.IntN.{sub_ℕ}
use Rattle.rules.specs.declared.Service.{Service}
use Rattle.rules.specs.declared.Service.TheVariants.{Closed}
use Rattle.rules.specs.declared.refusals.Refusal.{Refusal}
use Rattle.rules.specs.declared.refusals.Refusal.TheVariants.{NoAccount}
use Rattle.std.specs.Result.{result_unwrap_or, is_ok}
use Rattle.rules.specs.Answer.{answered, number_of}
use Rattle.rules.specs.Workdays.{counted_by}
use Rattle.rules.specs.Accepted.{day_rows}
use Rattle.workdays.specs.Kept.{calendar_by}
use Rattle.collection.specs.Collection.{service_by, live_by}
use Rattle.medical.specs.Medical.{certified_by}
use Rattle.arrangement.specs.Arrangement.{in_force_by}
use Rattle.ledger.specs.declared.OpenItem.{OpenItem}
use Rattle.ledger.specs.Ledger.{credits_by, arrears_by, open_by}
use Rattle.account.specs.State.{State, state_on, passes}

-- what is asked of an account, and the answer of what is none
unfoldable pub asked_of : {A : Type 0} → List ℕ → (State → A) → A → A
asked_of m ask none = cond (passes m) (ask (state_on m)) none

-- owed: C − P, which may be negative
abbrev pub owed_by : State → ℤ
owed_by s = sub_ℕ s.ledger.charged (credits_by s.ledger)

abbrev pub owed_in : List ℕ → ℤ
owed_in m = asked_of m owed_by (pos 0)

-- the deposit held and required
abbrev pub held_in : List ℕ → ℕ
held_in m = asked_of m (λ s. s.deposit.held) 0

abbrev pub required_in : List ℕ → ℕ
required_in m = asked_of m (λ s. s.deposit.required) 0

abbrev pub service_in : List ℕ → Service
service_in m = asked_of m (λ s. service_by s.collection.service) Closed

-- the open items, day and unpaid part in the order posted, and how many they are
abbrev pub open_in : List ℕ → List OpenItem
open_in m = asked_of m (λ s. open_by s.ledger) []

abbrev pub count_in : List ℕ → ℕ
count_in m = asked_of m (λ s. s.ledger.made - s.ledger.closed) 0

-- the working days of its calendar among n + 1 to t; none are counted where it has no calendar
abbrev pub working_days_in : List ℕ → ℕ → ℕ → Option ℕ
working_days_in m n t = asked_of m (λ s. counted_by (calendar_by s.workdays) n t) None

-- ---- for a day t, refused with 1 or 2 as an event is
-- the number that refuses a question for t, 0 for none
abbrev pub day_refusal_by : State → ℕ → ℕ
day_refusal_by s t = day_rows s.last t 0

-- what is told of an account for a day t that no number refuses
abbrev pub told_on : {A : Type 0} → List ℕ → ℕ → (State → A) → Result A Refusal
told_on m t ask = asked_of m (λ s. answered (day_refusal_by s t) (ask s)) (Err NoAccount)

abbrev pub arrears_on : List ℕ → ℕ → Result ℕ Refusal
arrears_on m t = told_on m t (λ s. arrears_by s.ledger t)

-- an arrangement is in force, a notice is live, a certificate is live
abbrev pub in_force_on : List ℕ → ℕ → Result Bool Refusal
in_force_on m t = told_on m t (λ s. in_force_by s.arrangement t)

abbrev pub notice_live_on : List ℕ → ℕ → Result Bool Refusal
notice_live_on m t = told_on m t (λ s. live_by s.collection.notice t)

abbrev pub certified_on : List ℕ → ℕ → Result Bool Refusal
certified_on m t = told_on m t (λ s. certified_by s.medical t)

-- ---- document 01's number and value of such an answer
-- something is told, or a number refuses, which is 0 where the memory is no account; the value, and `none` where it is refused
pub record Told {A : Type 0} (none : A) (r : Result A Refusal) (n : ℕ) (x : A) : Type 0 where
  pub told : is_ok r ≡ eqb n 0
  pub number : number_of r ≡ n
  pub value : result_unwrap_or r none ≡ cond (eqb n 0) x none

-- the answer tells c, or is refused with n where n is not 0
abbrev pub Tells : Result ℕ Refusal → ℕ → ℕ → Type 0
Tells r n c = Told 0 r n c

-- the answer says whether b, or is refused with n where n is not 0
abbrev pub Says : Result Bool Refusal → ℕ → Bool → Type 0
Says r n b = Told false r n b
