-- What an event's kind does not look at may be left out: the table, the charge and the credit are the same.
use mathlib.Core.Path.{◌≡◌, refl}
use mathlib.Core.Bool.{true, false, ◌||◌}
use Rattle.std.proofs.lemmas.Bool.{or_parts}
use Rattle.basics.proofs.Cases.{on}
use Rattle.rules.specs.declared.Event.{Event}
use Rattle.rules.specs.declared.View.{View}
use Rattle.rules.specs.Kinds.{returned_payment, deposit_moved, arrangement, final_notice, disconnection, reconnection}
use Rattle.rules.specs.History.{is}
use Rattle.rules.specs.Table.{charge_of, credit_of, refusal_by}
use Rattle.table.specs.Seen.{looks_at_debt, seen_of}

-- a kind that does not look at the debt is none of the four
record NoDebt (e : Event) : Type 0 where
  no_arrangement_made : is arrangement e ≡ false
  no_notice_sent : is final_notice e ≡ false
  no_cut : is disconnection e ≡ false
  no_reconnection : is reconnection e ≡ false

no_debt : (e : Event) → looks_at_debt e ≡ false → NoDebt e
unfolding looks_at_debt
no_debt e f =
    let three = (or_parts _ (is reconnection e) f).0 in
    let two = (or_parts _ (is disconnection e) three).0 in
    record {
      no_arrangement_made = (or_parts _ (is final_notice e) two).0;
      no_notice_sent = (or_parts (is arrangement e) _ two).1;
      no_cut = (or_parts (is arrangement e || is final_notice e) _ three).1;
      no_reconnection = (or_parts (is arrangement e || is final_notice e || is disconnection e) _ f).1;
    }

module _ (v : View) (e : Event) where
  pub refusal_seen : refusal_by (seen_of v e) e ≡ refusal_by v e
  unfolding refusal_by
  refusal_seen =
      on (looks_at_debt e)
      (λ d. on (is returned_payment e) (λ r. on (is deposit_moved e) (λ m. rw (d, r, m)) (λ m. rw (d, r, m)))
      (λ r. on (is deposit_moved e) (λ m. rw (d, r, m)) (λ m. rw (d, r, m))))
      (λ d.
      let n = no_debt e d in
      on (is returned_payment e)
      (λ r. on (is deposit_moved e)
      (λ m. rw (d, r, m, n.no_arrangement_made, n.no_notice_sent, n.no_cut, n.no_reconnection))
      (λ m. rw (d, r, m, n.no_arrangement_made, n.no_notice_sent, n.no_cut, n.no_reconnection)))
      (λ r. on (is deposit_moved e)
      (λ m. rw (d, r, m, n.no_arrangement_made, n.no_notice_sent, n.no_cut, n.no_reconnection))
      (λ m. rw (d, r, m, n.no_arrangement_made, n.no_notice_sent, n.no_cut, n.no_reconnection))))

  pub charge_seen : charge_of (seen_of v e) e ≡ charge_of v e
  charge_seen = on (is returned_payment e) (λ r. rw r) (λ r. rw r)

  pub credit_seen : credit_of (seen_of v e) e ≡ credit_of v e
  credit_seen = refl

  pub debt_seen : is arrangement e ≡ true → (seen_of v e).arrears ≡ v.arrears
  unfolding looks_at_debt
  debt_seen a = rw a

  pub payment_seen : is returned_payment e ≡ true → (seen_of v e).payment ≡ v.payment
  payment_seen r = rw r
