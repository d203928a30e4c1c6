-- What holds of every lawful history: the accepted events of a list are one.
use Prim.Native.Nat.{◌+◌, ◌≤◌}
use mathlib.Core.Path.{◌≡◌, refl, ap, ◌∙◌}
use mathlib.Core.Bool.{cond}
use mathlib.Core.List.{List, [], ◌∷◌, map}
use native.Mathlib.Omega.{arith}
use lib.Dec.{eqb}
use lib.IntN.{pos, sub_ℕ, ◌-ℤ◌}
use borrow.Author.Tests.{eqb-true}
use Rattle.basics.proofs.Cases.{on}
use Rattle.basics.proofs.Differences.{difference, less_more}
use Rattle.std.specs.Prelude.{Option}
use Rattle.rules.specs.declared.Event.{Event}
use Rattle.rules.specs.declared.Calendar.{Calendar}
use Rattle.rules.specs.Kinds.{bill, payment, deposit_paid, payout}
use Rattle.rules.specs.History.{History, total, last_posted}
use Rattle.rules.specs.Deposit.{held}
use Rattle.rules.specs.Money.{credited, credits, charged, owed}
use Rattle.rules.specs.Sums.{late_charges, fees_charged, returned_payments}
use Rattle.rules.specs.Answer.{number_of, receipt_of}
use Rattle.rules.specs.Accepted.{
  view_of,
  refusal,
  offered,
  accepted_after,
  accepted,
  Lawful,
  answer,
  answers_after,
  refusals_after,
  receipts_given,
  receipt_after,
}
use Rattle.rules.proofs.Sums.{total_grows, credited_step, deposits, charged_parts}
use Rattle.rules.proofs.Passed.{passed}
use Rattle.rules.proofs.Numbered.{number_answered, rows_in_table}
use Rattle.rules.proofs.Room.{payout_in}

-- ---- the accepted events of a list are lawful
pub offered_lawful : (c : Option Calendar) (h : History) (e : Event) → Lawful c h → Lawful c (offered c h e)
offered_lawful c h e l = on (eqb (refusal c h e) 0) (λ q. rw q (eqb-true (refusal c h e) 0 q, l)) (λ q. rw q l)

pub after_lawful : (c : Option Calendar) (h : History) (es : List Event) → Lawful c h → Lawful c (accepted_after c h es)
after_lawful c h [] l = l
after_lawful c h (e ∷ es) l = after_lawful c (offered c h e) es (offered_lawful c h e l)

pub accepted_lawful : (c : Option Calendar) (es : List Event) → Lawful c (accepted c es)
accepted_lawful c es = after_lawful c [] es tt

-- ---- what is answered, by number and receipt
number_of_lem : (c : Option Calendar) (h : History) (e : Event) → number_of (answer c h e) ≡ refusal c h e
number_of_lem c h e = number_answered (refusal c h e) (receipt_after h e) (rows_in_table (last_posted h) (view_of c h e) e)

receipt_of_lem : (c : Option Calendar) (h : History) (e : Event) → receipt_of (answer c h e) ≡ cond (eqb (refusal c h e) 0) (receipt_after h e) 0
receipt_of_lem c h e = on (eqb (refusal c h e) 0) (λ q. rw q) (λ q. rw q)

pub numbers_are : (c : Option Calendar) (h : History) (es : List Event) → map number_of (answers_after c h es) ≡ refusals_after c h es
numbers_are c h [] = refl
numbers_are c h (e ∷ es) = rw (number_of_lem c h e) (ap (λ l. refusal c h e ∷ l) (numbers_are c (offered c h e) es))

pub receipts_are : (c : Option Calendar) (h : History) (es : List Event) → map receipt_of (answers_after c h es) ≡ receipts_given c h es
receipts_are c h [] = refl
receipts_are c h (e ∷ es) =
    rw (receipt_of_lem c h e) (ap (λ l. cond (eqb (refusal c h e) 0) (receipt_after h e) 0 ∷ l) (receipts_are c (offered c h e) es))

-- ---- P is a number: payouts are at most what was credited
pub payouts : (c : Option Calendar) (h : History) → Lawful c h → total payout h ≤ credited h
payouts c [] l = omega (arith, total_grows payout [])
payouts c (e ∷ h) l =
    let ih = payouts c h l.1 in
    let f = payout_in (view_of c h e) e (passed h e l.0).allowed.r7 in
    omega (arith, total_grows payout (e ∷ h), credited_step e h)

-- ---- the sum of demand 3: owed less held is bills, late charges, fees, returned payments and payouts, less payments and deposits paid
pub money : (c : Option Calendar) (h : History) → Lawful c h
    → owed h -ℤ pos (held h)
    ≡ sub_ℕ (total bill h + late_charges h + fees_charged h + returned_payments h + total payout h) (total payment h + total deposit_paid h)
money c h l =
    less_more (charged h) (credits h) (held h)
    ∙ difference (charged h) (credits h + held h) (total bill h + late_charges h + fees_charged h + returned_payments h + total payout h)
    (total payment h + total deposit_paid h)
    (omega (arith, deposits h, charged_parts h, payouts c h l))
