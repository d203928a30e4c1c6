-- The step by kind, as code makes it in place: an event charges, or credits, or pays out, or leaves the ledger as it is.
use Prim.Native.Nat.{ℕ}
use mathlib.Core.Path.{◌≡◌, refl, ap, ◌∙◌}
use mathlib.Core.Bool.{Bool, true, false}
use native.Mathlib.Omega.{arith}
use Rattle.std.specs.Prelude.{is_some, unwrap_or}
use Rattle.std.specs.Bool.{then_some}
use borrow.Author.Tests.{eq-eqb, ne_eqb}
use Rattle.rules.specs.declared.Event.{Event}
use Rattle.rules.specs.Kinds.{payout}
use Rattle.rules.specs.History.{is, amount_if}
use Rattle.ledger.specs.Ledger.{Ledger, entered_in, credited_in, paid_from, settled, ledger_after, LedgerFit, OneThing, LedgerRoom}
use Rattle.ledger.proofs.Kept.{charge_step, credit_step, payout_step, no_step}

-- ---- what the step comes to
no_payout : (e : Event) → (e.kind ≡ payout → ⊥) → amount_if payout e ≡ 0
no_payout e n = rw (ne_eqb e.kind payout n)

module _ (l : Ledger) (e : Event) (adds : Bool) (c k : ℕ) (o : OneThing e adds k) where
  pub on_charge : adds ≡ true → ledger_after l e adds c k ≡ settled (entered_in l e.day c)
  on_charge q =
      let n = o.alone q in
      ap (λ b. ledger_after l e b c k) q ∙ (ap (ledger_after l e true c) n.0 ∙ charge_step l e n.1 c)

  module _ (q : adds ≡ false) where
    none_added : ledger_after l e adds c k ≡ ledger_after l e false c k
    none_added = ap (λ b. ledger_after l e b c k) q

    pub on_credit : (e.kind ≡ payout → ⊥) → ledger_after l e adds c k ≡ settled (credited_in l k)
    on_credit n = none_added ∙ credit_step l e (no_payout e n) c k

    pub on_payout : LedgerFit l → e.kind ≡ payout → ledger_after l e adds c k ≡ paid_from l e.amount
    on_payout f z =
        let b : is payout e ≡ true = eq-eqb e.kind payout z in
        let a : amount_if payout e ≡ e.amount = rw b in
        none_added ∙ (ap (ledger_after l e false c) (o.no_credit b) ∙ (payout_step l e f.closed_le f.still c ∙ ap (paid_from l) a))

    -- of every other event the ledger keeps nothing
    pub on_other : LedgerFit l → (e.kind ≡ payout → ⊥) → k ≡ 0 → ledger_after l e adds c k ≡ l
    on_other f n z = none_added ∙ (ap (ledger_after l e false c) z ∙ no_step l e f.closed_le f.still c (no_payout e n))

-- ---- an item that may be none
-- what an item of amount c asks, where b says that there is one
pub item_room : (l : Ledger) (e : Event) (b : Bool) (c k : ℕ) → LedgerRoom l e b c k
    → LedgerRoom l e (is_some (then_some b c)) (unwrap_or (then_some b c) 0) k
item_room l e true c k r = r
item_room l e false c k r =
    record { charged_room = omega (arith, r.charged_room); credited_room = r.credited_room; paid_room = r.paid_room; one = r.one }

pub item_after : (l : Ledger) (e : Event) (b : Bool) (c k : ℕ)
    → ledger_after l e (is_some (then_some b c)) (unwrap_or (then_some b c) 0) k ≡ ledger_after l e b c k
unfolding ledger_after
item_after l e true c k = refl
item_after l e false c k = refl
