-- Record k and account i of an accepted book.
use mathlib.Core.Path.{◌≡◌, refl, sym, ap, ◌∙◌}
use mathlib.Core.Bool.{true}
use mathlib.Core.List.{List, [], ◌∷◌}
use Prim.Native.Nat.{ℕ, zero, suc, ◌+◌, ◌*◌, ◌-◌, ◌/◌, ◌≤◌, ◌<◌}
use native.Mathlib.Nat.{not-suc-le-zero, le_of_suc-le-suc}
use native.Mathlib.Numerals.{add-one}
use native.Mathlib.Omega.{arith}
use borrow.Author.Tests.{eqb-true, le-leb}
use lib.Dec.{eqb}
use lib.ListN.{length, take, drop, get_or}
use lib.Seq.{drop-drop, drop-cons}
use Rattle.rules.specs.declared.Event.{Event}
use Rattle.std.specs.List.{sum}
use Rattle.std.proofs.lemmas.Bool.{and_parts}
use Rattle.std.proofs.lemmas.List.{get_or_past}
use Rattle.std.proofs.lemmas.List.Sums.{sum_by-cons}
use Rattle.basics.proofs.Cases.{on_lt}
use Rattle.little.specs.Little.{num}
use Rattle.bookformat.specs.declared.Span.{Span}
use Rattle.bookformat.specs.Book.{accounts, records, base, table_fine, book_refusal, event_at, events_at, counts_at, split, flat, decode}
use Rattle.bookformat.specs.Facts.{Header}
use Rattle.bookformat.specs.Finding.{no_event, entries, whole_records, record_at, span_at, record_of, book_account, IsAccount}
use Rattle.bookformat.proofs.Told.{book_facts}
use Rattle.bookformat.proofs.Trips.{decode_parts, table_total, length_counts, length_events}

events_get_d : (n p k : ℕ) (b : List ℕ) → k < n → get_or (events_at n p b) k no_event ≡ event_at (p + 16 * k) b
events_get_d zero p k b h = absurd (not-suc-le-zero h)
events_get_d (suc n) p zero b h = ap (λ q. event_at q b) (omega arith)
events_get_d (suc n) p (suc k) b h = events_get_d n (p + 16) k b (le_of_suc-le-suc h) ∙ ap (λ q. event_at q b) (omega arith)

pub record_at_lem : (b : List ℕ) (k : ℕ) → book_refusal b ≡ 0 → k < records b → event_at (base (accounts b) + 16 * k) b ≡ record_of b k
record_at_lem b k z h = rw (decode_parts b z).1 (sym (events_get_d (records b) (base (accounts b)) k b h))

-- where the offset of account i points, and its count
offset_at : (start r n p before i : ℕ) (b : List ℕ) → table_fine start r n p before b ≡ true → i < n
    → num 4 (p + 8 * i) b ≡ start + 16 * (before + sum (take i (counts_at n p b)))
offset_at start r zero p before i b e h = absurd (not-suc-le-zero h)
offset_at start r (suc n) p before zero b e h =
    ap (λ q. num 4 q b) (omega arith)
    ∙ eqb-true _ _ (and_parts (eqb (num 4 p b) (start + 16 * before)) (table_fine start r n (p + 8) (before + num 4 (p + 4) b) b) e).0 ∙ omega arith
offset_at start r (suc n) p before (suc i) b e h =
    ap (λ q. num 4 q b) (omega arith)
    ∙ offset_at start r n (p + 8) (before + num 4 (p + 4) b) i b
    (and_parts (eqb (num 4 p b) (start + 16 * before)) (table_fine start r n (p + 8) (before + num 4 (p + 4) b) b) e).1 (le_of_suc-le-suc h)
    ∙ omega (arith, sum_by-cons (λ x. x) (num 4 (p + 4) b) (take i (counts_at n (p + 8) b)))

count_at : (n p i : ℕ) (b : List ℕ) → i < n → get_or (counts_at n p b) i 0 ≡ num 4 (p + 8 * i + 4) b
count_at zero p i b h = absurd (not-suc-le-zero h)
count_at (suc n) p zero b h = ap (λ q. num 4 q b) (omega arith)
count_at (suc n) p (suc i) b h = count_at n (p + 8) i b (le_of_suc-le-suc h) ∙ ap (λ q. num 4 q b) (omega arith)

split_at : (cs : List ℕ) (es : List Event) (i : ℕ) → i < length cs → get_or (split cs es) i [] ≡ take (get_or cs i 0) (drop (sum (take i cs)) es)
split_at [] es i h = absurd (not-suc-le-zero h)
split_at (c ∷ cs) es zero h = refl
split_at (c ∷ cs) es (suc i) h =
    split_at cs (drop c es) i (le_of_suc-le-suc h)
    ∙ ap (λ l. take (get_or cs i 0) l) (drop-drop (sum (take i cs)) c es ∙ ap (λ n. drop n es) (sym (sum_by-cons (λ x. x) c (take i cs))))

total_take : (cs : List ℕ) (i : ℕ) → i < length cs → sum (take i cs) + get_or cs i 0 ≤ sum cs
total_take [] i h = absurd (not-suc-le-zero h)
total_take (c ∷ cs) zero h = omega (arith, sum_by-cons (λ x. x) c cs)
total_take (c ∷ cs) (suc i) h = omega (arith, sum_by-cons (λ x. x) c cs, sum_by-cons (λ x. x) c (take i cs), total_take cs i (le_of_suc-le-suc h))

pub offset_of : (b : List ℕ) (i : ℕ) → book_refusal b ≡ 0 → i < accounts b
    → num 4 (8 + 8 * i) b ≡ base (accounts b) + 16 * sum (take i (counts_at (accounts b) 8 b))
offset_of b i z h = omega (arith, offset_at (base (accounts b)) (records b) (accounts b) 8 0 i b (book_facts b z).0.entries h)

pub account_at_lem : (b : List ℕ) (i : ℕ) (s : Span) → book_refusal b ≡ 0 → i < accounts b
    → num 4 (8 + 8 * i) b ≡ base (accounts b) + 16 * s.first → s.count ≡ num 4 (8 + 8 * i + 4) b → IsAccount b i s
account_at_lem b i s z h f c =
    let a = accounts b in
    let cs = counts_at a 8 b in
    let es = events_at (records b) (base a) b in
    let n : i < length cs = rw (length_counts a 8 b) h in
    let t = (book_facts b z).0.entries in
    let k : s.count ≡ get_or cs i 0 = c ∙ sym (count_at a 8 i b h) in
    let o : s.first ≡ sum (take i cs) = omega (arith, offset_at (base a) (records b) a 8 0 i b t h) in
    record {
      small = omega (arith, (book_facts b z).0);
      within = omega (arith, total_take cs i n, table_total (base a) (records b) a 8 0 b t);
      events = rw ((decode_parts b z).1, k, o) (sym (split_at cs es i n));
    }

pub flat_length : (b : List ℕ) → book_refusal b ≡ 0 → length (flat (decode b)) ≡ records b
flat_length b z = rw (decode_parts b z).1 (length_events (records b) (base (accounts b)) b)

-- one record more of those from record k on: it stands for the reader, since a loop over `Records` is given them
pub walk_step : (b : List ℕ) (n k : ℕ) → book_refusal b ≡ 0 → k < records b
    → take (suc n) (drop k (flat (decode b))) ≡ record_of b k ∷ take n (drop (k + 1) (flat (decode b)))
walk_step b n k z h = rw (add-one, drop-cons (flat (decode b)) k no_event (rw (flat_length b z) h))

-- ---- the records of an account lie one behind another

events_take : (c n p : ℕ) (b : List ℕ) → c ≤ n → take c (events_at n p b) ≡ events_at c p b
events_take zero n p b h = refl
events_take (suc c) zero p b h = absurd (not-suc-le-zero h)
events_take (suc c) (suc n) p b h = ap (λ l. event_at p b ∷ l) (events_take c n (p + 16) b (le_of_suc-le-suc h))

events_part : (f c n p : ℕ) (b : List ℕ) → f + c ≤ n → take c (drop f (events_at n p b)) ≡ events_at c (p + 16 * f) b
events_part zero c n p b h = events_take c n p b (omega arith) ∙ ap (λ q. events_at c q b) (omega arith)
events_part (suc f) c zero p b h = absurd (omega arith)
events_part (suc f) c (suc n) p b h = events_part f c n (p + 16) b (omega arith) ∙ ap (λ q. events_at c q b) (omega arith)

pub account_events : (b : List ℕ) (i : ℕ) (s : Span) → book_refusal b ≡ 0 → IsAccount b i s
    → events_at s.count (base (accounts b) + 16 * s.first) b ≡ book_account b i
account_events b i s z h =
    sym (events_part s.first s.count (records b) (base (accounts b)) b h.within)
    ∙ (ap (λ l. take s.count (drop s.first l)) (sym (decode_parts b z).1) ∙ h.events)

pub span_length : (b : List ℕ) (i : ℕ) (s : Span) → book_refusal b ≡ 0 → IsAccount b i s → s.count ≡ length (book_account b i)
span_length b i s z h = sym (length_events s.count (base (accounts b) + 16 * s.first) b) ∙ ap length (account_events b i s z h)

-- ---- what is answered for any bytes, in an accepted book

length_split : (cs : List ℕ) (es : List Event) → length (split cs es) ≡ length cs
length_split [] es = refl
length_split (c ∷ cs) es = ap suc (length_split cs (drop c es))

pub decode_length : (b : List ℕ) → length (decode b) ≡ accounts b
decode_length b = length_split (counts_at (accounts b) 8 b) (events_at (records b) (base (accounts b)) b) ∙ length_counts (accounts b) 8 b

-- record k of an accepted book, for every k
pub record_of_lem : (b : List ℕ) (k : ℕ) → book_refusal b ≡ 0 → record_at b k ≡ record_of b k
record_of_lem b k z =
    let h : Header b = (book_facts b z).0 in
    let r : whole_records b ≡ records b = omega (arith, h) in
    on_lt k (whole_records b) (λ s q. rw s (record_at_lem b k z (omega arith)))
    (λ s q. rw s (sym (get_or_past (flat (decode b)) k no_event (omega (arith, flat_length b z)))))

-- account i of an accepted book, for every i
pub account_of_lem : (b : List ℕ) (i : ℕ) → book_refusal b ≡ 0 → IsAccount b i (span_at b i)
account_of_lem b i z =
    let h : Header b = (book_facts b z).0 in
    let n : entries b ≡ accounts b = rw (le-leb (base (accounts b)) (length b) (omega (arith, h))) in
    let o = (num 4 (8 + 8 * i) b - base (accounts b)) / 16 in
    on_lt i (entries b)
    (λ s q. rw s (account_at_lem b i (record { first = o; count = num 4 (8 + 8 * i + 4) b }) z (omega arith) (omega (arith, offset_of b i z (omega arith))) refl))
    (λ s q. rw s (record {
      within = omega arith;
      small = omega (arith, h);
      events = sym (get_or_past (decode b) i [] (omega (arith, decode_length b)));
    }))

pub account_told : (b : List ℕ) (i : ℕ) (s : Span) → s ≡ span_at b i → (s ≡ span_at b i) × (book_refusal b ≡ 0 → IsAccount b i s)
account_told b i s e = (e, λ z. rw e (account_of_lem b i z))

-- far from wrapping a count of them
pub account_small : (b : List ℕ) (i : ℕ) → book_refusal b ≡ 0 → length (book_account b i) ≤ 268435455
account_small b i z =
    let h = account_of_lem b i z in
    omega (arith, span_length b i (span_at b i) z h, h.within, h.small)
