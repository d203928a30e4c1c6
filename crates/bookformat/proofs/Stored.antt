-- What the stores of a whole list leave in lent memory.
use mathlib.Core.Bool.{true}
use mathlib.Core.Path.{◌≡◌, refl, sym, ap, ◌∙◌}
use mathlib.Core.List.{List, [], ◌∷◌, ◌++◌, map}
use Prim.Native.Nat.{ℕ, zero, suc, ◌+◌, ◌*◌, ◌≤◌, ◌<◌}
use native.Mathlib.Omega.{arith}
use borrow.Author.Tests.{leb-true}
use lib.Dec.{leb}
use lib.ListN.{length, get_or, set, length-map}
use lib.Seq.{sets}
use Rattle.rules.specs.declared.Event.{Event}
use Rattle.std.specs.List.{sum}
use Rattle.rules.specs.Kinds.{closing}
use Rattle.rules.specs.declared.refusals.Refusal.{Refusal}
use Rattle.rules.specs.Refusals.{refusal_number}
use Rattle.rules.specs.Answer.{answered}
use Rattle.rules.proofs.Numbered.{answered_ok}
use Rattle.std.specs.Prelude.{Ok, Err}
use Rattle.std.proofs.lemmas.Bool.{and_parts}
use Rattle.std.proofs.lemmas.List.{map-append}
use Rattle.little.specs.Little.{top, Under}
use Rattle.little.proofs.Stores.{sets_front, sets_then}
use Rattle.bookformat.specs.Book.{longest, kind_fine, book_refusal, accounts, records, base, events_at, counts_at, decode, book_of, encode}
use Rattle.bookformat.specs.Lent.{Columns, after, kinds_fine, write_refusal, read_refusal, lent, lent_list, kinds_of, options_of, days_of, amounts_of, Left, Gave, WroteBook}
use Rattle.bookformat.specs.Facts.{Storable, WriteRoom, Fits}
use Rattle.bookformat.proofs.Told.{told, unchanged, write_facts, read_in_table, write_in_table}
use Rattle.bookformat.proofs.Trips.{book_decoded, book_fine, flat_split, lengths_split, decode_parts, length_counts, length_events, length_book}

pub length_lent : (n i : ℕ) (lists : Columns) → length (lent n i lists) ≡ n
length_lent zero i lists = refl
length_lent (suc n) i lists = ap suc (length_lent n (i + 1) lists)

-- the stores of a whole book from byte 0 leave the book of the list, and the old tail
pub wrote_all : (lists : Columns) (old : List ℕ) → WriteRoom lists (length old)
    → sets old 0 (book_of lists.counts (lent (length lists.kinds) 0 lists)) ≡ after 0 (encode (lent_list lists)) old
wrote_all lists old s =
    let es = lent (length lists.kinds) 0 lists in
    let n = length_lent (length lists.kinds) 0 lists in
    let t : sum lists.counts ≡ length es = s.sizes.total ∙ sym n in
    rw (lengths_split lists.counts es t, flat_split lists.counts es t)
    (sets_front (book_of lists.counts es) old (omega (arith, length_book lists.counts es, n)))

-- the stores of one field of every event
field_front : (f : Event → ℕ) (es : List Event) (r : ℕ) (old new : List ℕ) → length es ≡ r → r ≤ length old → new ≡ sets old 0 (map f es)
    → new ≡ after 0 (map f es) old
field_front f es r old new n h e = e ∙ sets_front (map f es) old (omega (arith, length-map es f))

-- and one store more
pub field_more : (f : Event → ℕ) (es : List Event) (e : Event) (i : ℕ) (old new : List ℕ) → i ≡ length es → new ≡ sets old 0 (map f es)
    → set new i (f e) ≡ sets old 0 (map f (es ++ (e ∷ [])))
field_more f es e i old new h s =
    sets_then (map f es) (f e ∷ []) old new 0 i s (omega (arith, length-map es f)) ∙ ap (sets old 0) (sym (map-append f es (e ∷ [])))

-- the stores of all counts and all fields from index 0 leave the list, and the old tails
pub gave_all : (b : List ℕ) (old new : Columns) → Fits b old
    → new.counts ≡ sets old.counts 0 (counts_at (accounts b) 8 b)
    → new.kinds ≡ sets old.kinds 0 (kinds_of (events_at (records b) (base (accounts b)) b))
    → new.options ≡ sets old.options 0 (options_of (events_at (records b) (base (accounts b)) b))
    → new.days ≡ sets old.days 0 (days_of (events_at (records b) (base (accounts b)) b))
    → new.amounts ≡ sets old.amounts 0 (amounts_of (events_at (records b) (base (accounts b)) b))
    → Left 0 (decode b) old new
gave_all b old new f c k o d m =
    let es = events_at (records b) (base (accounts b)) b in
    let n = length_events (records b) (base (accounts b)) b in
    let p = decode_parts b f.refusal in
    record {
      counts = rw p.0 (c ∙ sets_front (counts_at (accounts b) 8 b) old.counts (omega (arith, length_counts (accounts b) 8 b)));
      kinds = rw p.1 (field_front (λ e. e.kind) es (records b) old.kinds new.kinds n f.kinds k);
      options = rw p.1 (field_front (λ e. e.option) es (records b) old.options new.options n f.options o);
      days = rw p.1 (field_front (λ e. e.day) es (records b) old.days new.days n f.days d);
      amounts = rw p.1 (field_front (λ e. e.amount) es (records b) old.amounts new.amounts n f.amounts m);
    }

-- reading that is refused leaves all as it was
pub gave_none : (b : List ℕ) (lists : Columns) (r : Refusal) → Err r ≡ answered (read_refusal b lists) (tt {0})
    → Gave b lists lists (refusal_number r)
gave_none b lists r e =
    let n = read_refusal b lists in
    let t = told n r (read_in_table b lists) e in
    record {
      answer = t.0;
      memory = record {
        counts = unchanged n _ lists.counts t.1;
        kinds = unchanged n _ lists.kinds t.1;
        options = unchanged n _ lists.options t.1;
        days = unchanged n _ lists.days t.1;
        amounts = unchanged n _ lists.amounts t.1;
      };
    }

-- and so does writing; what is not refused is stored
pub wrote_none : (lists : Columns) (old : List ℕ) (r : Refusal) → Err r ≡ answered (write_refusal lists (length old)) (tt {0})
    → WroteBook lists old old (refusal_number r)
wrote_none lists old r e =
    let t = told (write_refusal lists (length old)) r (write_in_table lists (length old)) e in
    record { answer = t.0; bytes = unchanged _ _ old t.1 }

pub wrote_done : (lists : Columns) (old new : List ℕ) (x : Unit {0}) → Ok x ≡ answered (write_refusal lists (length old)) (tt {0})
    → new ≡ sets old 0 (book_of lists.counts (lent (length lists.kinds) 0 lists)) → WroteBook lists old new 0
wrote_done lists old new x e s =
    let z = (answered_ok _ _ _ e).0 in
    record {
      answer = sym z;
      bytes = s ∙ wrote_all lists old (write_facts lists (length old) z)
          ∙ sym (ap (λ n. after n (encode (lent_list lists)) old) z);
    }

-- ---- what is accepted for writing comes back

fine_at : (ks : List ℕ) (i : ℕ) → kinds_fine ks ≡ true → i < length ks → kind_fine (get_or ks i 0) ≡ true
fine_at [] i e h = absurd (omega arith)
fine_at (k ∷ ks) zero e h = (and_parts (kind_fine k) (kinds_fine ks) e).0
fine_at (k ∷ ks) (suc i) e h = fine_at ks i (and_parts (kind_fine k) (kinds_fine ks) e).1 (omega arith)

storable_lent : (n i : ℕ) (lists : Columns) → kinds_fine lists.kinds ≡ true → i + n ≤ length lists.kinds → Under 256 lists.options → Under (top 4) lists.days → Under (top 8) lists.amounts
    → Storable (lent n i lists)
storable_lent zero i lists e h o d m = tt
storable_lent (suc n) i lists e h o d m =
    let k = get_or lists.kinds i 0 in
    let f = fine_at lists.kinds i e (omega arith) in (
      (leb-true 1 k (and_parts (leb 1 k) (leb k closing) f).0, leb-true k closing (and_parts (leb 1 k) (leb k closing) f).1, o i, d i, m i),
      storable_lent n (i + 1) lists e (omega arith) o d m,
    )

pub written_back : (lists : Columns) (room : ℕ) → Under 256 lists.options → Under (top 4) lists.days → Under (top 8) lists.amounts → write_refusal lists room ≡ 0
    → (book_refusal (encode (lent_list lists)) ≡ 0) × (decode (encode (lent_list lists)) ≡ lent_list lists)
written_back lists room o d m e =
    let w = write_facts lists room e in
    let es = lent (length lists.kinds) 0 lists in
    let n = length_lent (length lists.kinds) 0 lists in
    let t : sum lists.counts ≡ length es = w.sizes.total ∙ sym n in
    let s : base (length lists.counts) + 16 * length es ≤ longest = rw n w.sizes.small in
    let l = storable_lent (length lists.kinds) 0 lists w.kinds (omega arith) o d m in
    rw (lengths_split lists.counts es t, flat_split lists.counts es t) (book_fine lists.counts es w.sizes.few t s l, book_decoded lists.counts es w.sizes.few t s l)
