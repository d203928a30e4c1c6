use Prim.Native.Nat.{◌+◌}
use mathlib.Core.Path.{◌≡◌, sym}
use mathlib.Core.List.{[], ◌∷◌}
use native.Mathlib.Omega.{arith}
use lib.ListN.{length}
use lib.Seq.{sets}
use Rattle.std.specs.Fmt.{decimal}
use Rattle.std.proofs.lemmas.List.{length_push}
use Rattle.little.proofs.Stores.{sets_then}
use Rattle.text.proofs.Numerals.{sets_between}
use Rattle.text.proofs.put_number.Goals as goal

pub returns : goal.returns
returns c =
    let d = c.write_digits in
    let a = c.args in
    let x = decimal a.n in
    let q : a.p + c.width.result ≡ a.p + length x = omega arith in
    let s : d.result ≡ a.p = omega arith in
    let f = rw s at d.ensures.before in
    let g = rw s at d.ensures.written in
    let e : d.new.buf ≡ sets a.out.now a.p x = sets_between a.out.now d.new.buf x a.p (a.p + c.width.result) (sym q) (omega (arith, length_push x a.mark)) f g in
    record {
      bytes = sets_then x (a.mark ∷ []) a.out.now d.new.buf a.p (a.p + c.width.result) e q;
      end = omega (arith, q, length_push x a.mark);
    }
