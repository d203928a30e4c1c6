-- An event that is no payment and no returned payment.
use mathlib.Core.Path.{◌≡◌}
use borrow.Author.Tests.{ne_eqb}
use Rattle.rules.specs.declared.Event.{Event}
use Rattle.rules.specs.Kinds.{payment, returned_payment}
use Rattle.receipts.specs.Receipts.{Receipts, receipts_after}

-- for the reader: an event of another kind leaves the part as it is
pub untouched : (e : Event) (s : Receipts) → (e.kind ≡ payment → ⊥) → (e.kind ≡ returned_payment → ⊥) → s ≡ receipts_after s e
untouched e s p r = rw (ne_eqb e.kind payment p, ne_eqb e.kind returned_payment r)
