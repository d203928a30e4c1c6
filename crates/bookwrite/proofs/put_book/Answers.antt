use Prim.Native.Nat.{◌+◌}
use mathlib.Core.Path.{◌≡◌, ◌∙◌}
use mathlib.Core.List.{◌++◌, append_assoc}
use native.Mathlib.Omega.{arith}
use lib.ListN.{length, length-append}
use Rattle.little.specs.Little.{le}
use Rattle.little.proofs.Numbers.{length_le}
use Rattle.little.proofs.Stores.{sets_then}
use Rattle.bookformat.specs.Book.{base, account_table, body}
use Rattle.bookformat.specs.Lent.{lent}
use Rattle.bookformat.proofs.Trips.{length_table}
use Rattle.bookformat.proofs.Stored.{length_lent}
use Rattle.bookwrite.specs.Lists.{columns_of}
use Rattle.bookwrite.proofs.put_book.Goals as goal

pub returns : goal.returns
returns c =
    let s = c.args in
    let l = s.list in
    let cs = l.counts.now in
    let n = length l.kinds.now in
    let es = lent n 0 (columns_of l) in
    let t = account_table (base (length cs)) cs in
    let head = le 4 (length cs) ++ le 4 n in
    let o1 = c.put_entry.new.out in
    let o2 = c.put_table.new.out in
    let q : base (length cs) ≡ 8 + length t = omega (arith, length_table cs (base (length cs))) in
    let r : 8 ≡ 0 + length head = simp (length-append, length_le) in
    rw (length_lent n 0 (columns_of l))
    (rw c.base.ensures at c.put_records.ensures
    ∙ sets_then t (body es) o1 o2 8 (base (length cs)) c.put_table.ensures q
    ∙ sets_then head (t ++ body es) s.out.now o1 0 8
    c.put_entry.ensures r
    ∙ rw append_assoc)
