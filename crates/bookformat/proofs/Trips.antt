-- The round trips: an accepted book decoded and encoded, and an account list encoded and decoded.
use mathlib.Core.Path.{◌≡◌, refl, sym, ap, ap₂, ◌∙◌}
use mathlib.Core.Bool.{true, ◌&&◌}
use mathlib.Core.List.{List, [], ◌∷◌, ◌++◌, map, append_assoc, append-nil}
use Prim.Native.Nat.{ℕ, zero, suc, ◌+◌, ◌*◌, ◌≤◌, ◌<◌}
use native.Mathlib.Numerals.{add-one}
use native.Mathlib.Omega.{arith}
use borrow.Author.Tests.{eqb-true, le-leb, eq-eqb}
use lib.Dec.{eqb}
use lib.ListN.{length, take, drop, get_or, length-append, length-take, length-drop, length-map, take-append-drop}
use lib.Seq.{take-add, get_or_at, drop-drop, drop-cons, take-length, take-append_seam, drop-append_seam, get_or-append-add}
use Rattle.rules.specs.declared.Event.{Event}
use Rattle.std.specs.List.{sum}
use Rattle.std.proofs.lemmas.Bool.{and_parts}
use Rattle.std.proofs.lemmas.List.{nil_from_length}
use Rattle.std.proofs.lemmas.List.Sums.{sum_by-cons}
use Rattle.little.specs.Little.{le, num, part, top, Bytes}
use Rattle.little.proofs.Numbers.{le_num, num_at, length_le}
use Rattle.bookformat.specs.Book.{
  AccountList,
  most_accounts,
  longest,
  accounts,
  records,
  base,
  table_fine,
  kind_fine,
  record_fine,
  records_fine,
  book_refusal,
  event_at,
  events_at,
  counts_at,
  split,
  flat,
  decode,
  record_bytes,
  body,
  account_table,
  book_of,
  encode,
}
use Rattle.bookformat.specs.Facts.{Header, Storable, Writable}
use Rattle.bookformat.proofs.Tests.{and_on}
use Rattle.bookformat.proofs.Told.{book_facts}

-- ---- parts of a list

pub part_add : (n m p : ℕ) (b : List ℕ) → part (n + m) p b ≡ part n p b ++ part m (p + n) b
part_add n m p b = rw (take-add n m (drop p b), drop-drop n p b)

pub part_cons : (w p q : ℕ) (b : List ℕ) → p < length b → q ≡ p + 1 → part (suc w) p b ≡ get_or b p 0 ∷ part w q b
part_cons w p q b h e = rw (drop-cons b p 0, e, add-one)

get_or_in : (x y : List ℕ) (p i : ℕ) → length x ≡ p → get_or (x ++ y) (p + i) 0 ≡ get_or y i 0
get_or_in x y p i e = rw (← e) (get_or-append-add x y i 0)

-- ---- an accepted book, decoded and encoded

table_back : (start r n p before : ℕ) (b : List ℕ) → Bytes b → p + 8 * n ≤ length b → table_fine start r n p before b ≡ true
    → account_table (start + 16 * before) (counts_at n p b) ≡ part (8 * n) p b
table_back start r zero p before b t h e = refl
table_back start r (suc n) p before b t h e =
    let c = num 4 (p + 4) b in
    let q : num 4 p b ≡ start + 16 * before = eqb-true _ _ (and_parts (eqb (num 4 p b) (start + 16 * before)) (table_fine start r n (p + 8) (before + c) b) e).0 in
    let i = table_back start r n (p + 8) (before + c) b t (omega arith)
    (and_parts (eqb (num 4 p b) (start + 16 * before)) (table_fine start r n (p + 8) (before + c) b) e).1 in
    let k : 8 * suc n ≡ 4 + (4 + 8 * n) = omega arith in
    let s : start + 16 * before + 16 * c ≡ start + 16 * (before + c) = omega arith in
    let m : p + 4 + 4 ≡ p + 8 = omega arith in
    rw (k, part_add 4 (4 + 8 * n) p b, part_add 4 (8 * n) (p + 4) b, m, s, i, ← q, le_num 4 p b (omega arith) t, le_num 4 (p + 4) b (omega arith) t)

record_back : (p : ℕ) (b : List ℕ) → Bytes b → p + 16 ≤ length b → record_fine p b ≡ true → record_bytes (event_at p b) ≡ part 16 p b
record_back p b t h e =
    let z2 = eqb (get_or b (p + 2) 0) 0 in
    let z3 = eqb (get_or b (p + 3) 0) 0 in
    let s = (and_parts (kind_fine (get_or b p 0)) (z2 && z3) e).1 in
    let z : get_or b (p + 2) 0 ≡ 0 = eqb-true _ _ (and_parts z2 z3 s).0 in
    let w : get_or b (p + 3) 0 ≡ 0 = eqb-true _ _ (and_parts z2 z3 s).1 in
    let m : p + 4 + 4 ≡ p + 8 = omega arith in
    rw (
      part_cons 15 p (p + 1) b (omega arith) refl,
      part_cons 14 (p + 1) (p + 2) b (omega arith) (omega arith),
      part_cons 13 (p + 2) (p + 3) b (omega arith) (omega arith),
      part_cons 12 (p + 3) (p + 4) b (omega arith) (omega arith),
      part_add 4 8 (p + 4) b,
      m,
      z,
      w,
      le_num 4 (p + 4) b (omega arith) t,
      le_num 8 (p + 8) b (omega arith) t,
    )

body_back : (n p : ℕ) (b : List ℕ) → Bytes b → p + 16 * n ≤ length b → records_fine n p b ≡ true → body (events_at n p b) ≡ part (16 * n) p b
body_back zero p b t h e = refl
body_back (suc n) p b t h e =
    let k : 16 * suc n ≡ 16 + 16 * n = omega arith in
    rw (k, part_add 16 (16 * n) p b)
    (ap₂ (λ x y. x ++ y) (record_back p b t (omega arith) (and_parts (record_fine p b) (records_fine n (p + 16) b) e).0)
    (body_back n (p + 16) b t (omega arith) (and_parts (record_fine p b) (records_fine n (p + 16) b) e).1))

pub table_total : (start r n p before : ℕ) (b : List ℕ) → table_fine start r n p before b ≡ true → before + sum (counts_at n p b) ≡ r
table_total start r zero p before b e = omega (arith, eqb-true before r e)
table_total start r (suc n) p before b e =
    let c = num 4 (p + 4) b in
    omega (arith, sum_by-cons (λ x. x) c (counts_at n (p + 8) b), table_total start r n (p + 8) (before + c) b (and_parts (eqb (num 4 p b) (start + 16 * before)) (table_fine start r n (p + 8) (before + c) b) e).1)

pub length_counts : (n p : ℕ) (b : List ℕ) → length (counts_at n p b) ≡ n
length_counts zero p b = refl
length_counts (suc n) p b = ap suc (length_counts n (p + 8) b)

pub length_events : (n p : ℕ) (b : List ℕ) → length (events_at n p b) ≡ n
length_events zero p b = refl
length_events (suc n) p b = ap suc (length_events n (p + 16) b)

pub flat_split : (cs : List ℕ) (es : List Event) → sum cs ≡ length es → flat (split cs es) ≡ es
flat_split [] es e = sym (nil_from_length es (sym e))
flat_split (c ∷ cs) es e =
    let s = sum_by-cons (λ x. x) c cs in
    rw (flat_split cs (drop c es) (simp length-drop (omega (arith, s)))) (take-append-drop c es)

pub lengths_split : (cs : List ℕ) (es : List Event) → sum cs ≡ length es → map length (split cs es) ≡ cs
lengths_split [] es e = refl
lengths_split (c ∷ cs) es e =
    let s = sum_by-cons (λ x. x) c cs in
    let k : length (take c es) ≡ c = simp length-take (omega (arith, s)) in
    rw (k, lengths_split cs (drop c es) (simp length-drop (omega (arith, s))))

-- the counts and the events of an accepted book's list
pub decode_parts : (b : List ℕ) → book_refusal b ≡ 0
    → (map length (decode b) ≡ counts_at (accounts b) 8 b) × (flat (decode b) ≡ events_at (records b) (base (accounts b)) b)
decode_parts b z =
    let a = accounts b in
    let r = records b in
    let cs = counts_at a 8 b in
    let es = events_at r (base a) b in
    let tt : sum cs ≡ length es = omega (arith, table_total (base a) r a 8 0 b (book_facts b z).0.entries, length_events r (base a) b) in
    (lengths_split cs es tt, flat_split cs es tt)

-- THE FIRST ROUND TRIP: an accepted book, decoded and encoded, is the same bytes
pub encode_decode : (b : List ℕ) → Bytes b → book_refusal b ≡ 0 → encode (decode b) ≡ b
encode_decode b t z =
    let h : Header b = (book_facts b z).0 in
    let e = (book_facts b z).1 in
    let a = accounts b in
    let r = records b in
    let cs = counts_at a 8 b in
    let es = events_at r (base a) b in
    let lc = length_counts a 8 b in
    let ln = length_events r (base a) b in
    let k : base a + 16 * 0 ≡ base a = omega arith in
    let tb = rw k at (table_back (base a) r a 8 0 b t (omega (arith, h)) h.entries) in
    let bb = body_back r (base a) b t (omega (arith, h)) e in
    let w : length b ≡ 4 + (4 + (8 * a + 16 * r)) = omega (arith, h) in
    rw ((decode_parts b z).0, (decode_parts b z).1, lc, ln, tb, bb, le_num 4 0 b (omega (arith, h)) t, le_num 4 4 b (omega (arith, h)) t)
    (sym (part_add 4 (4 + (8 * a + 16 * r)) 0 b
    ∙ ap (λ x. part 4 0 b ++ x) (part_add 4 (8 * a + 16 * r) 4 b ∙ ap (λ x. part 4 4 b ++ x) (part_add (8 * a) (16 * r) 8 b)))
    ∙ ap (λ k. part k 0 b) (sym w) ∙ take-length b)

-- ---- an account list, encoded and decoded

counts_at_lem : (cs : List ℕ) (off p : ℕ) (x z : List ℕ) → length x ≡ p → sum cs < top 4 → counts_at (length cs) p (x ++ (account_table off cs ++ z)) ≡ cs
counts_at_lem [] off p x z e h = refl
counts_at_lem (c ∷ cs) off p x z e h =
    let s = sum_by-cons (λ x. x) c cs in
    let n1 = simp append_assoc at
    (num_at 4 c (p + 4) (x ++ le 4 off) (account_table (off + 16 * c) cs ++ z) (simp (length-append, length_le) (omega arith)) (omega (arith, s))) in
    let n2 = simp append_assoc at
    (counts_at_lem cs (off + 16 * c) (p + 8) (x ++ (le 4 off ++ le 4 c)) z (simp (length-append, length_le) (omega arith)) (omega (arith, s))) in
    simp append_assoc (ap₂ (λ a b. a ∷ b) n1 n2)

table_at : (cs : List ℕ) (start r p before : ℕ) (x z : List ℕ) → length x ≡ p → before + sum cs ≡ r → start + 16 * r < top 4
    → table_fine start r (length cs) p before (x ++ (account_table (start + 16 * before) cs ++ z)) ≡ true
table_at [] start r p before x z e f h = eq-eqb before r (omega arith)
table_at (c ∷ cs) start r p before x z e f h =
    let o = start + 16 * before in
    let sums = sum_by-cons (λ x. x) c cs in
    let s : start + 16 * (before + c) ≡ o + 16 * c = omega arith in
    let n0 = num_at 4 o p x (le 4 c ++ (account_table (o + 16 * c) cs ++ z)) e (omega arith) in
    let n1 = simp append_assoc at
    (num_at 4 c (p + 4) (x ++ le 4 o) (account_table (o + 16 * c) cs ++ z) (simp (length-append, length_le) (omega arith)) (omega (arith, sums))) in
    let n2 = simp append_assoc at
    (rw s at (table_at cs start r (p + 8) (before + c) (x ++ (le 4 o ++ le 4 c)) z (simp (length-append, length_le) (omega arith)) (omega (arith, sums)) h)) in
    simp append_assoc (rw n1 (and_on _ _ (eq-eqb _ _ n0) ∙ n2))

events_at_lem : (es : List Event) (p : ℕ) (x z : List ℕ) → length x ≡ p → Storable es → events_at (length es) p (x ++ (body es ++ z)) ≡ es
events_at_lem [] p x z e h = refl
events_at_lem (v ∷ es) p x z e h =
    let y = body es ++ z in
    let four = v.kind ∷ v.option ∷ 0 ∷ 0 ∷ [] in
    let rest = le 4 v.day ++ (le 8 v.amount ++ y) in
    let k = get_or_at x v.kind (v.option ∷ 0 ∷ 0 ∷ rest) 0 p e in
    let o = get_or_in x (four ++ rest) p 1 e in
    let d = simp append_assoc at (num_at 4 v.day (p + 4) (x ++ four) (le 8 v.amount ++ y) (simp length-append (omega arith)) h.0.3) in
    let m = simp append_assoc at (num_at 8 v.amount (p + 8) (x ++ (four ++ le 4 v.day)) y (simp (length-append, length_le) (omega arith)) h.0.4) in
    let i = simp append_assoc at
    (events_at_lem es (p + 16) (x ++ (four ++ (le 4 v.day ++ le 8 v.amount))) z (simp (length-append, length_le) (omega arith)) h.1) in
    simp append_assoc (λ j. record { kind = k j; option = o j; day = d j; amount = m j } ∷ i j)

records_at : (es : List Event) (p : ℕ) (x z : List ℕ) → length x ≡ p → Storable es → records_fine (length es) p (x ++ (body es ++ z)) ≡ true
records_at [] p x z e h = refl
records_at (v ∷ es) p x z e h =
    let four = v.kind ∷ v.option ∷ 0 ∷ 0 ∷ [] in
    let rest = le 4 v.day ++ (le 8 v.amount ++ (body es ++ z)) in
    let k = get_or_at x v.kind (v.option ∷ 0 ∷ 0 ∷ rest) 0 p e in
    let a = get_or_in x (four ++ rest) p 2 e in
    let b = get_or_in x (four ++ rest) p 3 e in
    let i = simp append_assoc at
    (records_at es (p + 16) (x ++ (four ++ (le 4 v.day ++ le 8 v.amount))) z (simp (length-append, length_le) (omega arith)) h.1) in
    simp append_assoc (simp (k, a, b, le-leb 1 v.kind h.0.0, le-leb v.kind 16 h.0.1) i)

pub split_flat : (l : AccountList) → split (map length l) (flat l) ≡ l
split_flat [] = refl
split_flat (a ∷ l) = rw (take-append_seam a (flat l), drop-append_seam a (flat l), split_flat l)

pub total_lengths : (l : AccountList) → sum (map length l) ≡ length (flat l)
total_lengths [] = refl
total_lengths (a ∷ l) = omega (arith, sum_by-cons (λ x. x) (length a) (map length l), total_lengths l, length-append a (flat l))

pub length_table : (cs : List ℕ) (p : ℕ) → length (account_table p cs) ≡ 8 * length cs
length_table [] p = refl
length_table (c ∷ cs) p = simp (length-append, length_le, length_table cs (p + 16 * c)) (omega arith)

length_body : (es : List Event) → length (body es) ≡ 16 * length es
length_body [] = refl
length_body (v ∷ es) = simp (length-append, length_le, length_body es) (omega arith)

pub length_book : (cs : List ℕ) (es : List Event) → length (book_of cs es) ≡ base (length cs) + 16 * length es
length_book cs es = simp (length-append, length_le, length_table, length_body) (omega arith)

-- the parts of a book that was made from counts and events
module _ (cs : List ℕ) (es : List Event) (few : length cs ≤ most_accounts) (total : sum cs ≡ length es)
    (small : base (length cs) + 16 * length es ≤ longest) (storable : Storable es) where
  book_accounts : accounts (book_of cs es) ≡ length cs
  book_accounts = num_at 4 (length cs) 0 [] (le 4 (length es) ++ (account_table (base (length cs)) cs ++ body es)) refl (omega arith)

  book_records : records (book_of cs es) ≡ length es
  book_records = num_at 4 (length es) 4 (le 4 (length cs)) (account_table (base (length cs)) cs ++ body es) (length_le 4 (length cs)) (omega arith)

  book_counts : counts_at (length cs) 8 (book_of cs es) ≡ cs
  book_counts =
      simp append_assoc at (counts_at_lem cs (base (length cs)) 8 (le 4 (length cs) ++ le 4 (length es)) (body es) (simp (length-append, length_le)) (omega arith))

  book_events : events_at (length es) (base (length cs)) (book_of cs es) ≡ es
  book_events = simp (append_assoc, append-nil) at (events_at_lem es (base (length cs)) (le 4 (length cs) ++ (le 4 (length es) ++ account_table (base
      (length cs)) cs)) [] (simp (length-append, length_le, length_table) (omega arith)) storable)

  book_table : table_fine (base (length cs)) (length es) (length cs) 8 0 (book_of cs es) ≡ true
  book_table =
      let z : base (length cs) + 16 * 0 ≡ base (length cs) = omega arith in
      simp append_assoc at
      (rw z at (table_at cs (base (length cs)) (length es) 8 0 (le 4 (length cs) ++ le 4 (length es)) (body es) (simp (length-append, length_le))
      (omega arith) (omega arith)))

  book_storable : records_fine (length es) (base (length cs)) (book_of cs es) ≡ true
  book_storable = simp (append_assoc, append-nil) at (records_at es (base (length cs)) (le 4 (length cs) ++ (le 4 (length es) ++ account_table (base
      (length cs)) cs)) [] (simp (length-append, length_le, length_table) (omega arith)) storable)

  pub book_decoded : decode (book_of cs es) ≡ split cs es
  book_decoded = rw (book_accounts, book_records, book_counts, book_events)

  pub book_fine : book_refusal (book_of cs es) ≡ 0
  book_fine =
      let n = length_book cs es in
      let b = book_of cs es in
      rw (
        le-leb 8 (length b) (omega (arith, n)),
        le-leb (length b) longest (omega (arith, n)),
        book_accounts,
        book_records,
        le-leb (length cs) most_accounts few,
        eq-eqb (length b) (base (length cs) + 16 * length es) n,
        book_table,
        book_storable,
      )

-- THE SECOND ROUND TRIP: the book of an account list that can be written decodes to that list ..
pub decode_encode : (l : AccountList) → Writable l → decode (encode l) ≡ l
decode_encode l w = book_decoded (map length l) (flat l) (rw length-map w.few) (total_lengths l) (rw length-map w.small) w.storable ∙ split_flat l

-- .. and is accepted
pub encode_fine : (l : AccountList) → Writable l → book_refusal (encode l) ≡ 0
encode_fine l w = book_fine (map length l) (flat l) (rw length-map w.few) (total_lengths l) (rw length-map w.small) w.storable
