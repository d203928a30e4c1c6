use Prim.Native.Nat.{suc, ◌+◌, ◌*◌, ◌-◌}
use mathlib.Core.Path.{◌≡◌, sym, ◌∙◌}
use native.Mathlib.Omega.{arith}
use borrow.Author.Tests.{eq-eqb}
use Rattle.little.specs.Little.{num}
use Rattle.bookformat.specs.Book.{base}
use Rattle.bookformat.proofs.Tests.{and_on}
use Rattle.book.proofs.table_fine.Goals as goal

pub loop-i-preserved : goal.loop-i-preserved
loop-i-preserved c =
    let l = c.loop-i in
    let b = c.args.b.now in
    let e : c.args.a - l.i ≡ suc (c.args.a - (l.i + 1)) = omega arith in
    let q : base (l.i + 1) ≡ base l.i + 8 = omega arith in
    let at : c.base-at.result ≡ base l.i = c.base-at.ensures in
    let count : c.get-in-loop-i.result ≡ num 4 (base l.i + 4) b = rw at at c.get-in-loop-i.ensures.value in
    let offset : num 4 (base l.i) b ≡ base c.args.a + 16 * l.sum = cc in
    (rw (q, count) (sym (and_on _ _ (eq-eqb _ _ offset)) ∙ (rw e at l.invariant.0)), omega arith)
