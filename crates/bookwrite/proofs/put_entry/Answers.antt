use Prim.Native.Nat.{◌+◌}
use mathlib.Core.Path.{◌∙◌}
use native.Mathlib.Omega.{arith}
use Rattle.little.specs.Little.{le}
use Rattle.little.proofs.Numbers.{length_le}
use Rattle.little.proofs.Stores.{sets_then}
use Rattle.bookwrite.proofs.put_entry.Goals as goal

pub returns : goal.returns
returns c =
    let s = c.args in
    c.put-2.ensures
    ∙ sets_then (le 4 s.first) (le 4 s.n) s.out.now c.put.new.out s.p (s.p + 4)
    c.put.ensures (omega (arith, length_le 4 s.first))
