-- What the tests tell, and what an answer was made of.
use mathlib.Core.Path.{◌≡◌, refl, ap, ◌∙◌}
use mathlib.Core.Bool.{true, false, cond}
use mathlib.Core.List.{List}
use Prim.Native.Nat.{ℕ, zero, suc, ◌+◌, ◌*◌, ◌<◌}
use native.Mathlib.Omega.{arith}
use borrow.Author.Tests.{leb-true, eqb-true}
use lib.Dec.{leb, eqb}
use lib.ListN.{length}
use Rattle.std.specs.Prelude.{Err}
use Rattle.rules.specs.declared.refusals.Refusal.{Refusal}
use Rattle.rules.specs.Refusals.{refusal_number, refusals}
use Rattle.rules.specs.Answer.{answered, number_of}
use Rattle.rules.proofs.Numbered.{number_answered, answered_err}
use Rattle.bookformat.specs.Book.{accounts, records, base, header_fine, header_tests, book_refusal, records_fine}
use Rattle.bookformat.specs.Lent.{Columns, after, or_else, sizes_tests, sizes_fine, kinds_fine, write_refusal, room_tests, long_enough, read_refusal}
use Rattle.bookformat.specs.Facts.{Header, Fits, Sizes, WriteRoom}
use Rattle.bookformat.proofs.Tests.{each, header_passed, either}

pub header_facts : (b : List ℕ) → header_fine b ≡ true → Header b
header_facts b e =
    let f = each (header_tests b) e in
    record {
      long = leb-true _ _ f.0;
      short = leb-true _ _ f.1.0;
      few = leb-true _ _ f.1.1.0;
      whole = eqb-true _ _ f.1.1.1.0;
      entries = f.1.1.1.1.0;
    }

pub book_facts : (b : List ℕ) → book_refusal b ≡ 0 → Header b × (records_fine (records b) (base (accounts b)) b ≡ true)
book_facts b e =
    let p = header_passed (header_fine b) (cond (records_fine (records b) (base (accounts b)) b) 0 21) 19 e in
    (header_facts b p.0, (header_passed (records_fine (records b) (base (accounts b)) b) 0 20 p.1).0)

pub sizes_facts : (lists : Columns) → sizes_fine lists ≡ true → Sizes lists
sizes_facts lists e =
    let f = each (sizes_tests lists) e in
    record {
      few = leb-true _ _ f.0;
      small = leb-true _ _ f.1.0;
      total = eqb-true _ _ f.1.1.0;
      options = eqb-true _ _ f.1.1.1.0;
      days = eqb-true _ _ f.1.1.1.1.0;
      amounts = eqb-true _ _ f.1.1.1.1.1.0;
    }

pub write_facts : (lists : Columns) (room : ℕ) → write_refusal lists room ≡ 0 → WriteRoom lists room
write_facts lists room e =
    let w = leb (base (length lists.counts) + 16 * length lists.kinds) room in
    let k = kinds_fine lists.kinds in
    let p = header_passed (sizes_fine lists) (cond k (cond w 0 22) 21) 19 e in
    let q = header_passed k (cond w 0 22) 20 p.1 in
    record { sizes = sizes_facts lists p.0; kinds = q.0; within = leb-true _ _ (header_passed w 0 21 q.1).0 }

-- what is refused by a number of the table tells it, and it is not 0
pub told : (n : ℕ) (r : Refusal) → n < length refusals → Err r ≡ answered n (tt {0}) → (refusal_number r ≡ n) × (eqb n 0 ≡ false)
told n r h e = (ap number_of e ∙ number_answered n (tt {0}) h, (answered_err n r (tt {0}) (tt {0}) e).0)

-- what is refused leaves all as it was
pub unchanged : {A : Type 0} (n : ℕ) (new old : List A) → eqb n 0 ≡ false → old ≡ after n new old
unchanged zero new old h = absurd (cc)
unchanged (suc n) new old h = refl

pub or_zero : (n x : ℕ) → or_else n x ≡ 0 → (n ≡ 0) × (x ≡ 0)
or_zero zero x e = (refl, e)
or_zero (suc n) x e = absurd (omega arith)

-- a book that is refused refuses what is asked of it with the same number
pub book_first : (n x : ℕ) (r : Refusal) → Err r ≡ answered n (tt {0}) → Err r ≡ answered (or_else n x) (tt {0})
book_first zero x r e = absurd (cc)
book_first (suc n) x r e = e

pub room_facts : (b : List ℕ) (lists : Columns) → book_refusal b ≡ 0 → long_enough b lists ≡ true → Fits b lists
room_facts b lists z e =
    let f = each (room_tests b lists) e in
    record {
      refusal = z;
      header = (book_facts b z).0;
      counts = leb-true _ _ f.0;
      kinds = leb-true _ _ f.1.0;
      options = leb-true _ _ f.1.1.0;
      days = leb-true _ _ f.1.1.1.0;
      amounts = leb-true _ _ f.1.1.1.1.0;
    }

pub read_facts : (b : List ℕ) (lists : Columns) → read_refusal b lists ≡ 0 → Fits b lists
read_facts b lists e =
    let p = or_zero (book_refusal b) (cond (long_enough b lists) 0 22) e in
    room_facts b lists p.0 (header_passed (long_enough b lists) 0 21 p.1).0

-- ---- the numbers are of the table, so that an answer tells them

pub book_in_table : (b : List ℕ) → book_refusal b < length refusals
book_in_table b =
    let k = records_fine (records b) (base (accounts b)) b in
    either (header_fine b) (cond k 0 21) 20 _ (either k 0 21 _ (omega arith) (omega arith)) (omega arith)

pub write_in_table : (lists : Columns) (room : ℕ) → write_refusal lists room < length refusals
write_in_table lists room =
    let w = leb (base (length lists.counts) + 16 * length lists.kinds) room in
    let k = kinds_fine lists.kinds in
    either (sizes_fine lists) (cond k (cond w 0 22) 21) 20 _
    (either k (cond w 0 22) 21 _ (either w 0 22 _ (omega arith) (omega arith)) (omega arith)) (omega arith)

pub or_in_table : (n x : ℕ) → n < length refusals → x < length refusals → or_else n x < length refusals
or_in_table zero x h i = i
or_in_table (suc n) x h i = h

pub read_in_table : (b : List ℕ) (lists : Columns) → read_refusal b lists < length refusals
read_in_table b lists =
    let w = long_enough b lists in
    or_in_table (book_refusal b) (cond w 0 22) (book_in_table b) (either w 0 22 _ (omega arith) (omega arith))
