use Prim.Native.Nat.{◌+◌, ◌-◌}
use mathlib.Core.Path.{refl}
use lib.ListN.{length}
use native.Mathlib.Omega.{arith}
use Rattle.text.proofs.Numerals.{sets_mid}
use Rattle.text.proofs.put_bytes.Goals as goal

pub returns : goal.returns
returns c =
    let a = c.args in
    record { bytes = rw c.copy_from_slice.ensures.after (sets_mid a.out.now a.from.now a.p (a.p + length a.from.now - a.p) (omega arith) c.requires); end = refl }
