use Prim.Native.Nat.{ℕ, zero, suc, ◌+◌, ◌*◌}
use mathlib.Core.Path.{◌≡◌, refl, sym, ap, ◌∙◌}
use mathlib.Core.List.{List}
use mathlib.Core.Bool.{◌&&◌}
use native.Mathlib.Omega.{arith}
use borrow.Author.Rules.{rules}
use borrow.Author.Tests.{tests}
use Rattle.std.specs.List.{list_all, range_with_len}
use Rattle.std.proofs.lemmas.Iterator.{YieldsList-from_range}
use Rattle.std.proofs.lemmas.Iterator.Search.{all_from_yields_List}
use Rattle.bookformat.specs.Book.{record_fine, records_fine}
use Rattle.book.proofs.records_fine.Goals as goal

-- the records from record a on
each : (n a p : ℕ) (b : List ℕ) → records_fine n (p + 16 * a) b ≡ list_all (λ i. record_fine (p + 16 * i) b) (range_with_len a n)
each zero a p b = refl
each (suc n) a p b =
    let q : p + 16 * a + 16 ≡ p + 16 * (a + 1) = omega arith in
    rw q (ap (λ t. record_fine (p + 16 * a) b && t) (each n (a + 1) p b))

pub returns : goal.returns
returns c =
    let s = c.args in
    let b = s.b.now in
    let z : s.p + 16 * 0 ≡ s.p = omega arith in
    all_from_yields_List (λ i. record_fine (s.p + 16 * i) b) _ _ c.all.result c.all.ensures.ran (YieldsList-from_range 0 s.n s.n (cc) (omega arith)) (λ x b q k. search (rules, tests))
    ∙ sym (rw z at (each s.n 0 s.p b))
