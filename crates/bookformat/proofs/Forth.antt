-- The second round trip on lent memory: a list that was written is read back.
use mathlib.Core.Path.{◌≡◌, refl, sym, ap, ap₂, ◌∙◌}
use mathlib.Core.List.{List, ◌∷◌, map}
use Prim.Native.Nat.{ℕ, zero, suc, ◌+◌, ◌≤◌}
use native.Mathlib.Omega.{arith}
use borrow.Author.Tests.{le-leb}
use lib.ListN.{length, take, get_or}
use lib.Seq.{take-length}
use Rattle.rules.specs.declared.Event.{Event}
use Rattle.std.specs.List.{sum}
use Rattle.little.specs.Little.{top, part, Under}
use Rattle.bookformat.specs.Book.{size, accounts, records, flat, encode}
use Rattle.bookformat.specs.Lent.{Columns, after, lent, lent_at, lent_list, write_refusal, read_refusal, kinds_of, options_of, days_of, amounts_of, Gave}
use Rattle.bookformat.specs.Facts.{Sizes}
use Rattle.bookformat.specs.Trips.{ListBack, RoomFor}
use Rattle.bookformat.proofs.Told.{write_facts}
use Rattle.bookformat.proofs.Trips.{part_cons, decode_parts, length_counts, lengths_split, flat_split, length_book}
use Rattle.bookformat.proofs.Stored.{length_lent, written_back}
use Rattle.bookformat.proofs.Found.{flat_length}
use Rattle.bookformat.proofs.Back.{front}

-- how long the book of a list is that was accepted
pub length_written : (lists : Columns) (room : ℕ) → write_refusal lists room ≡ 0
    → length (encode (lent_list lists)) ≡ size (length lists.counts) (length lists.kinds)
length_written lists room z =
    let l = lent_list lists in
    let es = lent (length lists.kinds) 0 lists in
    let n = length_lent (length lists.kinds) 0 lists in
    let t : sum lists.counts ≡ length es = (write_facts lists room z).sizes.total ∙ sym n in
    length_book (map length l) (flat l) ∙ ap₂ (λ x y. size (length x) (length y)) (lengths_split lists.counts es t) (flat_split lists.counts es t) ∙ ap (λ k. size (length lists.counts) k) n

-- one field of the records lent is the slice lent for it
module _ (lists : Columns) (f : Event → ℕ) (l : List ℕ) (h : (j : ℕ) → f (lent_at j lists) ≡ get_or l j 0) where
  fields : (n i : ℕ) → i + n ≤ length l → map f (lent n i lists) ≡ part n i l
  fields zero i g = refl
  fields (suc n) i g = ap₂ (λ x y. x ∷ y) (h i) (fields n (i + 1) (omega arith)) ∙ sym (part_cons n i (i + 1) l (omega arith) refl)

  whole : (n : ℕ) → length l ≡ n → map f (lent n 0 lists) ≡ l
  whole n e = fields n 0 (omega arith) ∙ ap (λ k. take k l) (sym e) ∙ take-length l

-- a list that was accepted, and its book
module _ (lists : Columns) (room : ℕ) (uo : Under 256 lists.options) (ud : Under (top 4) lists.days) (um : Under (top 8) lists.amounts)
    (z : write_refusal lists room ≡ 0) where
  sums : sum lists.counts ≡ length (lent (length lists.kinds) 0 lists)
  sums = (write_facts lists room z).sizes.total ∙ sym (length_lent (length lists.kinds) 0 lists)

  back_accounts : accounts (encode (lent_list lists)) ≡ length lists.counts
  back_accounts =
      let b = encode (lent_list lists) in
      let w = written_back lists room uo ud um z in
      sym (length_counts (accounts b) 8 b)
      ∙ ap length (sym (decode_parts b w.0).0)
      ∙ ap (λ l. length (map length l)) w.1
      ∙ ap length (lengths_split lists.counts (lent (length lists.kinds) 0 lists) sums)

  back_records : records (encode (lent_list lists)) ≡ length lists.kinds
  back_records =
      let b = encode (lent_list lists) in
      let w = written_back lists room uo ud um z in
      sym (flat_length b w.0)
      ∙ ap (λ l. length (flat l)) w.1
      ∙ ap length (flat_split lists.counts (lent (length lists.kinds) 0 lists) sums)
      ∙ length_lent (length lists.kinds) 0 lists

  -- memory with room for the list is enough
  reads : (memory : Columns) → RoomFor lists memory → read_refusal (encode (lent_list lists)) memory ≡ 0
  reads memory r =
      let b = encode (lent_list lists) in
      let s : Sizes lists = (write_facts lists room z).sizes in
      rw (written_back lists room uo ud um z).0
      (rw (
        le-leb (accounts b) (length memory.counts) (omega (arith, back_accounts, r)),
        le-leb (records b) (length memory.kinds) (omega (arith, back_records, r)),
        le-leb (records b) (length memory.options) (omega (arith, back_records, s.options, r)),
        le-leb (records b) (length memory.days) (omega (arith, back_records, s.days, r)),
        le-leb (records b) (length memory.amounts) (omega (arith, back_records, s.amounts, r)),
      ))

pub list_back : (lists : Columns) → Under 256 lists.options → Under (top 4) lists.days → Under (top 8) lists.amounts → ListBack lists
list_back lists uo ud um old new memory read n w g h =
    let b = encode (lent_list lists) in
    let z = sym w.answer in
    let s : Sizes lists = (write_facts lists (length old) z).sizes in
    let t = sums lists (length old) uo ud um z in
    let e : new ≡ after 0 b old = w.bytes ∙ ap (λ k. after k b old) z in
    let long = size (length lists.counts) (length lists.kinds) in
    let q = ap (λ x. take long x) e ∙ front long b old (length_written lists (length old) z) in
    let g2 : Gave b memory read n = rw q at g in
    let r = reads lists (length old) uo ud um z memory h in
    let m = rw (r, (written_back lists (length old) uo ud um z).1) at g2.memory in
    let fl = flat_split lists.counts (lent (length lists.kinds) 0 lists) t in (
      g2.answer ∙ r,
      record {
        counts = m.counts ∙ ap (λ x. after 0 x memory.counts) (lengths_split lists.counts (lent (length lists.kinds) 0 lists) t);
        kinds = m.kinds ∙ ap (λ x. after 0 (kinds_of x) memory.kinds) fl
            ∙ ap (λ x. after 0 x memory.kinds) (whole lists (λ v. v.kind) lists.kinds (λ j. refl) (length lists.kinds) refl);
        options = m.options ∙ ap (λ x. after 0 (options_of x) memory.options) fl
            ∙ ap (λ x. after 0 x memory.options) (whole lists (λ v. v.option) lists.options (λ j. refl) (length lists.kinds) s.options);
        days = m.days ∙ ap (λ x. after 0 (days_of x) memory.days) fl
            ∙ ap (λ x. after 0 x memory.days) (whole lists (λ v. v.day) lists.days (λ j. refl) (length lists.kinds) s.days);
        amounts = m.amounts ∙ ap (λ x. after 0 (amounts_of x) memory.amounts) fl
            ∙ ap (λ x. after 0 x memory.amounts) (whole lists (λ v. v.amount) lists.amounts (λ j. refl) (length lists.kinds) s.amounts);
      },
    )
