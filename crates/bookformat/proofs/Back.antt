-- The first round trip on lent memory: a list that was read is fit to be written, and its book is the one that was read.
use mathlib.Core.Path.{◌≡◌, refl, sym, ap, ◌∙◌}
use mathlib.Core.Bool.{true, ◌&&◌}
use mathlib.Core.List.{List, [], ◌∷◌, map}
use Prim.Native.Nat.{ℕ, zero, suc, ◌+◌, ◌≤◌}
use native.Mathlib.Omega.{arith}
use borrow.Author.Tests.{le-leb, eq-eqb}
use lib.Dec.{eqb}
use lib.ListN.{length, take, drop, get_or, length-map}
use lib.Seq.{take-append_seam}
use Rattle.rules.specs.declared.Event.{Event}
use Rattle.std.specs.List.{sum}
use Rattle.std.proofs.lemmas.Bool.{and_from, and_parts}
use Rattle.little.specs.Little.{Bytes}
use Rattle.bookformat.specs.Book.{
  AccountList,
  most_accounts,
  longest,
  base,
  size,
  accounts,
  records,
  kind_fine,
  record_fine,
  records_fine,
  book_refusal,
  events_at,
  counts_at,
  split,
  flat,
  encode,
  decode,
}
use Rattle.bookformat.specs.Lent.{
  Columns,
  after,
  lent,
  lent_at,
  lent_list,
  kinds_fine,
  write_refusal,
  kinds_of,
  options_of,
  days_of,
  amounts_of,
  Left,
  WroteBook,
}
use Rattle.bookformat.specs.Facts.{Header}
use Rattle.bookformat.specs.Trips.{BookBack}
use Rattle.bookformat.proofs.Told.{book_facts, read_facts}
use Rattle.bookformat.proofs.Trips.{decode_parts, table_total, length_counts, length_events, split_flat, encode_decode}

-- ---- the fields of records, as lists

lent_shift : (n i c k o d m : ℕ) (lists : Columns)
    → lent n (suc i) (record {
      counts = c ∷ lists.counts;
      kinds = k ∷ lists.kinds;
      options = o ∷ lists.options;
      days = d ∷ lists.days;
      amounts = m ∷ lists.amounts;
    }) ≡ lent n i lists
lent_shift zero i c k o d m lists = refl
lent_shift (suc n) i c k o d m lists =
    let q : suc i + 1 ≡ suc (i + 1) = omega arith in
    ap (λ l. lent_at i lists ∷ l) (ap (λ j. lent n j (record {
      counts = c ∷ lists.counts;
      kinds = k ∷ lists.kinds;
      options = o ∷ lists.options;
      days = d ∷ lists.days;
      amounts = m ∷ lists.amounts;
    })) q ∙ lent_shift n (i + 1) c k o d m lists)

-- the lists of an account list, and the same of these counts and these records
abbrev parts_of : List ℕ → List Event → Columns
parts_of cs es = record { counts = cs; kinds = kinds_of es; options = options_of es; days = days_of es; amounts = amounts_of es }

abbrev columns : AccountList → Columns
columns l = parts_of (map length l) (flat l)

lent_counts : (n i : ℕ) (xs ys : List ℕ) (es : List Event) → lent n i (parts_of xs es) ≡ lent n i (parts_of ys es)
lent_counts zero i xs ys es = refl
lent_counts (suc n) i xs ys es = ap (λ l. lent_at i (parts_of xs es) ∷ l) (lent_counts n (i + 1) xs ys es)

lent_of : (cs : List ℕ) (es : List Event) → lent (length es) 0 (parts_of cs es) ≡ es
lent_of cs [] = refl
lent_of cs (e ∷ es) =
    ap (λ l. e ∷ l) (lent_counts (length es) 1 cs (0 ∷ cs) (e ∷ es) ∙ lent_shift (length es) 0 0 e.kind e.option e.day e.amount (parts_of cs es) ∙ lent_of cs es)

-- an account list in memory is that list
lent_list_lem : (l : AccountList) → lent_list (columns l) ≡ l
lent_list_lem l =
    let es = flat l in
    ap (λ n. split (map length l) (lent n 0 (columns l))) (length-map es (λ e. e.kind))
    ∙ ap (λ x. split (map length l) x) (lent_of (map length l) es)
    ∙ split_flat l

-- ---- a list that was read is fit to be written

kinds_back : (n p : ℕ) (b : List ℕ) → records_fine n p b ≡ true → kinds_fine (kinds_of (events_at n p b)) ≡ true
kinds_back zero p b e = refl
kinds_back (suc n) p b e =
    let k = get_or b p 0 in
    let ks = kinds_of (events_at n (p + 16) b) in
    let f = (and_parts (record_fine p b) (records_fine n (p + 16) b) e).0 in
    let g = (and_parts (record_fine p b) (records_fine n (p + 16) b) e).1 in
    and_from (kind_fine k) (kinds_fine ks) (and_parts (kind_fine k) (eqb (get_or b (p + 2) 0) 0 && eqb (get_or b (p + 3) 0) 0) f).0
    (kinds_back n (p + 16) b g)

written_again : (b : List ℕ) (room : ℕ) → book_refusal b ≡ 0 → length b ≤ room → write_refusal (columns (decode b)) room ≡ 0
written_again b room z h =
    let f : Header b = (book_facts b z).0 in
    let a = accounts b in
    let r = records b in
    let cs = counts_at a 8 b in
    let es = events_at r (base a) b in
    let na : length cs ≡ a = length_counts a 8 b in
    let nr : length es ≡ r = length_events r (base a) b in
    let nk : length (kinds_of es) ≡ r = length-map es (λ e. e.kind) ∙ nr in
    let no : length (options_of es) ≡ r = length-map es (λ e. e.option) ∙ nr in
    let nd : length (days_of es) ≡ r = length-map es (λ e. e.day) ∙ nr in
    let nm : length (amounts_of es) ≡ r = length-map es (λ e. e.amount) ∙ nr in
    let t : sum cs ≡ r = omega (arith, table_total (base a) r a 8 0 b f.entries) in
    rw ((decode_parts b z).0, (decode_parts b z).1)
    (rw (na, nk, no, nd, nm)
    (rw (
      le-leb a most_accounts f.few,
      le-leb (size a r) longest (omega (arith, f)),
      eq-eqb (sum cs) r t,
      eq-eqb r r refl,
      kinds_back r (base a) b (book_facts b z).1,
      le-leb (size a r) room (omega (arith, f)),
    )))

-- ---- the round trip

pub front : (n : ℕ) (new old : List ℕ) → length new ≡ n → take n (after 0 new old) ≡ new
front n new old e = rw (← e) (take-append_seam new (drop (length new) old))

pub book_back : (b : List ℕ) → Bytes b → BookBack b
book_back b t memory read old new n given w h =
    let y = sym given.answer in
    let z = (read_facts b memory y).refusal in
    let m : Left 0 (decode b) memory read = rw y at given.memory in
    let l = decode b in
    let es = flat l in
    let na : length (map length l) ≡ accounts b = ap length (decode_parts b z).0 ∙ length_counts (accounts b) 8 b in
    let nr : length es ≡ records b = ap length (decode_parts b z).1 ∙ length_events (records b) (base (accounts b)) b in
    let ec : take (accounts b) read.counts ≡ map length l = ap (λ x. take (accounts b) x) m.counts ∙ front (accounts b) (map length l) memory.counts na in
    let ek : take (records b) read.kinds ≡ kinds_of es = ap (λ x. take (records b) x) m.kinds
    ∙ front (records b) (kinds_of es) memory.kinds (length-map es (λ e. e.kind) ∙ nr) in
    let eo : take (records b) read.options ≡ options_of es = ap (λ x. take (records b) x) m.options
    ∙ front (records b) (options_of es) memory.options (length-map es (λ e. e.option) ∙ nr) in
    let ed : take (records b) read.days ≡ days_of es = ap (λ x. take (records b) x) m.days
    ∙ front (records b) (days_of es) memory.days (length-map es (λ e. e.day) ∙ nr) in
    let em : take (records b) read.amounts ≡ amounts_of es = ap (λ x. take (records b) x) m.amounts
    ∙ front (records b) (amounts_of es) memory.amounts (length-map es (λ e. e.amount) ∙ nr) in
    let w2 : WroteBook (columns l) old new n = rw (ec, ek, eo, ed, em) at w in
    let g = written_again b (length old) z h in
    let s = ap encode (lent_list_lem l) ∙ encode_decode b t z in (
      w2.answer ∙ g,
      w2.bytes ∙ ap (λ k. after k (encode (lent_list (columns l))) old) g ∙ ap (λ x. after 0 x old) s,
    )
