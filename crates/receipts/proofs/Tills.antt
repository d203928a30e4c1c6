-- What the step of a payment, and of a returned one, rests on: the event names a till, so its words lie among the till's own.
use Prim.Native.Nat.{ℕ, ◌+◌, ◌≤◌}
use mathlib.Core.Path.{◌≡◌, ap, ◌∙◌}
use mathlib.Core.Bool.{true}
use mathlib.Core.List.{List}
use native.Mathlib.Omega.{arith}
use lib.ListN.{length, set}
use lib.Seq.{get_or-set_same}
use Rattle.std.proofs.Math.Seq.{take-set-lt}
use Rattle.std.proofs.lemmas.List.{take-set-le, drop-set-lt, drop-set-add}
use borrow.Author.Tests.{eqb-true}
use Rattle.rules.specs.declared.Event.{Event}
use Rattle.rules.specs.Kinds.{payment}
use Rattle.rules.specs.History.{is}
use Rattle.rules.specs.Limits.{last_till}
use Rattle.rules.specs.Range.{fields_of, WellFormed}
use Rattle.rules.proofs.Ranged.{ranged}
use Rattle.receipts.specs.Receipts.{Receipts, tills, receipts_on, receipts_after, count_by, place}

-- of any kind: of these two the last option is the last till
pub last_option : (k : ℕ) (e : Event) → WellFormed e → is k e ≡ true → e.option ≤ (fields_of k e.day).option_to
last_option k e w q = (ranged k e w.fields_fit (eqb-true e.kind k q)).option_high

-- the count of a payment's till, one more
pub next_count : (s : Receipts) (e : Event) → length s.counts ≡ tills → WellFormed e → is payment e ≡ true
    → count_by (receipts_after s e) e.option ≡ count_by s e.option + 1
next_count s e l w q = rw q (get_or-set_same s.counts e.option (count_by s e.option + 1) 0 (omega (arith, l, last_option payment e w q)))

-- a payment's two words: the count of its till, and the place of its receipt
pub paid_in : (w : List ℕ) (e : Event) (n : ℕ) → n ≡ count_by (receipts_on w) e.option + 1 → e.option ≤ last_till → is payment e ≡ true
    → receipts_on (set (set w e.option n) (tills + place e.option n) e.amount) ≡ receipts_after (receipts_on w) e
paid_in w e n m t q =
    let counted = set w e.option n in
    let p = place e.option n in
    let c = take-set-le tills counted (tills + p) e.amount (omega arith) ∙ take-set-lt tills w e.option n (omega (arith, t)) in
    let r = drop-set-add tills counted p e.amount ∙ ap (λ l. set l p e.amount) (drop-set-lt tills w e.option n (omega (arith, t))) in
    rw (q, ← m) (λ i. record { counts = c i; recent = r i })
