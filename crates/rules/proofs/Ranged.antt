-- What row 3 says of an event's fields, one law for all kinds.
use Prim.Native.Nat.{ℕ, ◌≤◌, zero-le}
use mathlib.Core.Path.{◌≡◌, subst, sym}
use mathlib.Core.Bool.{true}
use lib.Dec.{ltb}
use native.Mathlib.Omega.{arith}
use borrow.Author.Tests.{eqb-true}
use Rattle.std.proofs.lemmas.Bool.{and_parts, cond_both}
use Rattle.rules.specs.declared.Event.{Event}
use Rattle.rules.specs.declared.Fields.{Fields}
use Rattle.rules.specs.declared.kinds.Kind.{Kind}
use Rattle.rules.specs.Kinds.{kind_number}
use Rattle.rules.specs.History.{is, within, amount_if}
use Rattle.rules.specs.Limits.{certificate_days, short_certificate_days, short_certificates_from}
use Rattle.rules.specs.Range.{longest_certificate, fields_of, fits, in_range}
use Rattle.rules.proofs.Days.{within_true}

pub record Within (f : Fields) (e : Event) : Type 0 where
  pub option_low : f.option_from ≤ e.option
  pub option_high : e.option ≤ f.option_to
  pub amount_low : f.amount_from ≤ e.amount
  pub amount_high : e.amount ≤ f.amount_to

pub fitting : (f : Fields) (e : Event) → fits f e ≡ true → Within f e
fitting f e r =
    let o = within_true f.option_from f.option_to e.option (and_parts (within f.option_from f.option_to e.option) _ r).0 in
    let a = within_true f.amount_from f.amount_to e.amount (and_parts (within f.option_from f.option_to e.option) _ r).1 in
    record { option_low = o.0; option_high = o.1; amount_low = a.0; amount_high = a.1 }

-- an event of kind k that is in range
pub ranged : (k : ℕ) (e : Event) → in_range e ≡ true → e.kind ≡ k → Within (fields_of k e.day) e
unfolding in_range
ranged k e r z = fitting (fields_of k e.day) e (subst (λ n. fits (fields_of n e.day) e ≡ true) z r)

-- the same of an event whose number was decoded, to a kind that turned out to be k
pub ranged_kind : {j k : Kind} → (e : Event) → in_range e ≡ true → j ≡ k → kind_number j ≡ e.kind → Within (fields_of (kind_number k) e.day) e
ranged_kind {k = k} e r q z = ranged (kind_number k) e r (rw (← q) (sym z))

-- no certificate is longer than the longest of any day
pub longest_lem : (t : ℕ) → longest_certificate t ≤ certificate_days
longest_lem t = cond_both (ltb t short_certificates_from) certificate_days short_certificate_days (λ n. n ≤ certificate_days) (λ q. omega arith) (λ q. omega arith)

-- what an event of kind k moves is at most what row 3 allows the kind, and every other event moves none of it
pub amount_if_lem : (k : ℕ) (e : Event) → in_range e ≡ true → amount_if k e ≤ (fields_of k e.day).amount_to
amount_if_lem k e r = cond_both (is k e) e.amount 0 (λ n. n ≤ (fields_of k e.day).amount_to) (λ q. (ranged k e r (eqb-true e.kind k q)).amount_high) (λ q. zero-le)
