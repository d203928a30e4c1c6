use native.Mathlib.Omega.{arith}
use Rattle.ledger.specs.Ledger.{ledger_on}
use Rattle.ledger.proofs.Turns.{open_at, past_open}
use Rattle.ledger.proofs.open_item.Goals as goal

pub returns-then-saturating_sub-i : goal.returns-then-saturating_sub-i
returns-then-saturating_sub-i c = past_open (ledger_on c.args.w.now) c.args.i (grind arith)

pub returns : goal.returns
returns c = let h = open_at (ledger_on c.args.w.now) c.args.i (grind arith) in grind arith
