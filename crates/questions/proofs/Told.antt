-- What the memory of a history answers is what the history says: the law of each question.
use Prim.Native.Nat.{ℕ, ◌≤◌}
use mathlib.Core.Path.{◌≡◌, refl, ap, ◌∙◌}
use mathlib.Core.Bool.{false}
use mathlib.Core.List.{map, map-map}
use lib.ListN.{length}
use Rattle.basics.proofs.Cases.{on_lt}
use Rattle.std.specs.Prelude.{Option}
use Rattle.rules.specs.declared.Calendar.{Calendar}
use Rattle.rules.specs.Limits.{final_day}
use Rattle.rules.specs.History.{History, last_posted}
use Rattle.rules.specs.Workdays.{counted_by}
use Rattle.rules.specs.Deposit.{held, required}
use Rattle.rules.specs.Money.{credits, owed, unpaid, open_items, arrears}
use Rattle.rules.specs.Service.{service}
use Rattle.rules.specs.Notice.{notice_live}
use Rattle.rules.specs.Medical.{certified}
use Rattle.rules.specs.Arrangement.{in_force}
use Rattle.rules.specs.Accepted.{day_rows, day_refusal}
use Rattle.rules.specs.Answer.{answered}
use Rattle.rules.proofs.Numbered.{number_answered, told_answered, value_answered, day_rows_in_table}
use Rattle.ledger.specs.Ledger.{shown_item}
use native.Mathlib.Omega.{arith}
use Rattle.account.specs.State.{State, words_of, account_of}
use Rattle.questions.specs.Questions.{
  asked_of,
  owed_in,
  held_in,
  required_in,
  service_in,
  open_in,
  count_in,
  working_days_in,
  arrears_on,
  in_force_on,
  notice_live_on,
  certified_on,
  Told,
  Tells,
  Says,
}
use Rattle.questions.proofs.Laws.{Laws}

-- a day that no number refuses is not before the last; of one that is refused nothing is told
told_lem : {A : Type 0} (none : A) (last t : ℕ) (x y : A) → (last ≤ t → x ≡ y) → Told none (answered (day_rows last t 0) x) (day_rows last t 0) y
told_lem none last t x y same =
    record {
      told = told_answered (day_rows last t 0) x;
      number = number_answered (day_rows last t 0) x (day_rows_in_table last t 0 (omega arith));
      value =
          value_answered (day_rows last t 0) none x
          ∙ on_lt final_day t (λ q l. rw q refl)
          (λ q l. on_lt t last (λ p m. rw (q, p) refl) (λ p m. rw (q, p) (same m)));
    }

module _ (c : Option Calendar) (h : History) (k : Laws c h) where
  -- what is asked of the memory of a history
  pub asked_is : {A : Type 0} (ask : State → A) (none : A) → asked_of (words_of (account_of c h)) ask none ≡ ask (account_of c h)
  unfolding asked_of
  asked_is ask none = rw k.passing (ap ask k.account_is)

  pub owed_is : owed_in (words_of (account_of c h)) ≡ owed h
  owed_is = asked_is _ _ ∙ k.on_ledger.owed_is

  pub held_is : held_in (words_of (account_of c h)) ≡ held h
  held_is = asked_is _ _ ∙ k.on_deposit.held_is

  pub required_is : required_in (words_of (account_of c h)) ≡ required h
  required_is = asked_is _ _ ∙ k.on_deposit.required_is

  pub service_is : service_in (words_of (account_of c h)) ≡ service h
  service_is = asked_is _ _ ∙ k.on_collection.service_is

  open_are : open_in (words_of (account_of c h)) ≡ map (shown_item (credits h)) (open_items h)
  open_are = asked_is _ _ ∙ rw (k.on_ledger.credits_is, k.on_ledger.open_are)

  pub open_days : map (λ x. x.day) (open_in (words_of (account_of c h))) ≡ map (λ x. x.day) (open_items h)
  open_days = ap (map (λ x. x.day)) open_are ∙ map-map _ _ (open_items h)

  pub open_parts : map (λ x. x.unpaid) (open_in (words_of (account_of c h))) ≡ map (unpaid (credits h)) (open_items h)
  open_parts = ap (map (λ x. x.unpaid)) open_are ∙ map-map _ _ (open_items h)

  pub count_is : count_in (words_of (account_of c h)) ≡ length (open_items h)
  count_is = asked_is _ _ ∙ k.on_ledger.count_is

  pub arrears_are : (t : ℕ) → Tells (arrears_on (words_of (account_of c h)) t) (day_refusal h t) (arrears h t)
  arrears_are t = rw (asked_is _ _) (told_lem 0 (last_posted h) t _ _ (λ l. k.on_ledger.arrears_are t))

  pub in_force_is : (t : ℕ) → Says (in_force_on (words_of (account_of c h)) t) (day_refusal h t) (in_force h t)
  in_force_is t = rw (asked_is _ _) (told_lem false (last_posted h) t _ _ (λ l. k.on_arrangement.in_force_is t))

  pub notice_is : (t : ℕ) → Says (notice_live_on (words_of (account_of c h)) t) (day_refusal h t) (notice_live h t)
  notice_is t = rw (asked_is _ _) (told_lem false (last_posted h) t _ _ (k.on_collection.live_is t))

  pub certified_is : (t : ℕ) → Says (certified_on (words_of (account_of c h)) t) (day_refusal h t) (certified h t)
  certified_is t = rw (asked_is _ _) (told_lem false (last_posted h) t _ _ (k.on_medical.certified_is t))

  pub counted_is : (n t : ℕ) → working_days_in (words_of (account_of c h)) n t ≡ counted_by c n t
  counted_is n t = asked_is _ _ ∙ rw k.calendar_is
