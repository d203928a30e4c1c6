use Prim.Native.Nat.{suc, ◌+◌, ◌-◌}
use mathlib.Core.Path.{◌≡◌}
use native.Mathlib.Omega.{arith}
use native.Mathlib.Numerals.{add-one}
use lib.ListN.{drop}
use Rattle.std.proofs.lemmas.List.{set-append_left, length-take-le}
use Rattle.little.specs.Little.{num}
use Rattle.bookformat.specs.Book.{accounts, base}
use Rattle.bookread.proofs.take_counts.Goals as goal

pub loop-i-preserved : goal.loop-i-preserved
loop-i-preserved c =
    let l = c.loop-i in
    let a = c.args in
    let b = a.book.bytes.now in
    let n = accounts b in
    let told : c.accounts.result ≡ n = c.accounts.ensures.value in
    let long = length-take-le c.accounts.result a.counts.now (omega arith) in
    let e : n - l.i ≡ suc (n - suc l.i) = omega arith in
    let q : base (l.i + 1) ≡ base l.i + 8 = omega arith in
    let at : c.base.result ≡ base l.i = c.base.ensures in
    let count : c.get.result ≡ num 4 (base l.i + 4) b = rw at at c.get.ensures.value in
    rw (q, add-one, ← set-append_left l.count-items (drop n a.counts.now) l.i c.get.result (omega arith), count) (rw e at l.invariant)
