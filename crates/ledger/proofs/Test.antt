-- What the test tells, and that an event which the table lets pass has room.
use Rattle.std.proofs.lemmas.Grind.{common_steps}
use Prim.Native.Nat.{ℕ, ◌-◌}
use mathlib.Core.Path.{◌≡◌}
use mathlib.Core.Bool.{true, false, ◌||◌}
use mathlib.Core.List.{[], ◌∷◌}
use native.Mathlib.Omega.{arith}
use lib.Dec.{leb}
use borrow.Author.Tests.{leb-true}
use Rattle.basics.proofs.Cases.{links}
use Rattle.rules.specs.declared.Event.{Event}
use Rattle.rules.specs.declared.View.{View}
use Rattle.rules.specs.Kinds.{payment, payout}
use Rattle.rules.specs.History.{is, amount_if}
use Rattle.rules.specs.Deposit.{moves}
use Rattle.rules.specs.Money.{charges, credit_by}
use Rattle.rules.specs.Limits.{limit, most_open}
use Rattle.rules.specs.Table.{charge_of, credit_of}
use Rattle.rules.proofs.Room.{Room}
use Rattle.ledger.specs.Ledger.{Ledger, credits_by, is_settled, ledger_ok, LedgerFit, OneThing, LedgerRoom}
use Rattle.ledger.proofs.Kept.{still_settled}

pub ledger_fit : (l : Ledger) → ledger_ok l ≡ true → LedgerFit l
ledger_fit l e =
    let r = links (leb l.charged limit) (leb l.credited limit ∷ leb l.paid_out l.credited ∷ leb l.made l.charged ∷ leb l.closed
    l.made ∷ leb (l.made - l.closed) most_open ∷ is_settled l ∷ []) e in
    record {
      charged_le = leb-true _ _ r.0;
      credited_le = leb-true _ _ r.1.0;
      paid_le = leb-true _ _ r.1.1.0;
      made_le = leb-true _ _ r.1.1.1.0;
      closed_le = leb-true _ _ r.1.1.1.1.0;
      open_le = leb-true _ _ r.1.1.1.1.1.0;
      still = still_settled l r.1.1.1.1.1.1.0;
    }

-- for the reader: what charges is no payment, moves no deposit and pays nothing out
pub charging : (e : Event) → charges e ≡ true → ((is payment e || moves e) ≡ false) × (amount_if payout e ≡ 0)
charging e c = grind (arith, common_steps)

-- for the reader: every event does one thing at most, whatever the deposit held
pub one_thing : (held : ℕ) (e : Event) → OneThing e (charges e) (credit_by held e)
one_thing held e = grind (arith, common_steps)

-- an event that the table lets pass has room, where the View's sums are the ledger's
pub ledger_room : (l : Ledger) (v : View) (e : Event) → LedgerFit l → Room v e
    → v.charged ≡ l.charged → v.credited ≡ l.credited → v.credits ≡ credits_by l
    → LedgerRoom l e (charges e) (charge_of v e) (credit_of v e)
ledger_room l v e f r c d p = grind (arith, common_steps)
