use Prim.Native.Nat.{◌+◌, ◌*◌}
use mathlib.Core.Path.{◌≡◌, ◌∙◌}
use mathlib.Core.List.{◌∷◌, ◌++◌, append_assoc}
use native.Mathlib.Omega.{arith}
use native.Mathlib.Numerals.{add-one}
use lib.ListN.{length, drop, get_or, length-append}
use lib.Seq.{sets, drop-cons}
use Rattle.little.specs.Little.{le}
use Rattle.little.proofs.Numbers.{length_le}
use Rattle.little.proofs.Stores.{sets_then}
use Rattle.bookformat.specs.Book.{base, account_table}
use Rattle.bookwrite.proofs.put_table.Goals as goal

pub loop-i-preserved : goal.loop-i-preserved
loop-i-preserved c =
    let l = c.loop-i in
    let cs = c.args.counts.now in
    let n = get_or cs l.i 0 in
    let rest = drop (l.i + 1) cs in
    let entry = le 4 l.first ++ le 4 n in
    let d : drop l.i cs ≡ n ∷ rest = rw add-one (drop-cons cs l.i 0 (omega arith)) in
    let o : c.put_entry.new.out ≡ sets l.out (base l.i) entry = cc in
    let q : base (l.i + 1) ≡ base l.i + length entry = simp (length-append, length_le) (omega arith) in (
      sets_then entry (account_table (l.first + 16 * n) rest) l.out c.put_entry.new.out (base l.i) (base (l.i + 1)) o q
          ∙ rw append_assoc (rw d at l.invariant.0),
      omega arith,
    )
