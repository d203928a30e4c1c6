use Prim.Native.Nat.{suc, ◌+◌, ◌*◌, ◌-◌}
use mathlib.Core.Path.{◌≡◌, ◌∙◌}
use native.Mathlib.Omega.{arith}
use lib.ListN.{length, length-append}
use Rattle.little.proofs.Numbers.{length_le}
use Rattle.little.proofs.Stores.{sets_then}
use Rattle.bookformat.specs.Book.{body, record_bytes}
use Rattle.bookformat.specs.Lent.{lent, lent_at}
use Rattle.bookwrite.specs.Lists.{columns_of}
use Rattle.bookwrite.proofs.put_records.Goals as goal

pub loop-i-preserved : goal.loop-i-preserved
loop-i-preserved c =
    let l = c.loop-i in
    let s = c.args.list in
    let v = lent_at l.i (columns_of s) in
    let left = length s.kinds.now - (l.i + 1) in
    let rest = lent left (l.i + 1) (columns_of s) in
    let e : length s.kinds.now - l.i ≡ suc left = omega arith in
    let at = c.args.p + 16 * l.i in
    let q : c.args.p + 16 * (l.i + 1) ≡ at + length (record_bytes v) = simp (length-append, length_le) (omega arith) in
    sets_then (record_bytes v) (body rest) l.out c.put_record.new.out at (c.args.p + 16 * (l.i + 1)) c.put_record.ensures q ∙ (rw e at l.invariant)
