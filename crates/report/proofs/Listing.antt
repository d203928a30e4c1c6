-- The lines of all accounts, one after another: what is still to be written gives the whole.
use Prim.Native.Nat.{ℕ, zero, suc, ◌+◌, ◌*◌, ◌^◌, ◌≤◌, ◌<◌}
use mathlib.Core.Path.{◌≡◌, refl, sym, ap, ◌∙◌}
use mathlib.Core.Bool.{false}
use mathlib.Core.List.{List, [], ◌∷◌, ◌++◌}
use native.Mathlib.Omega.{arith}
use native.Mathlib.Numerals.{add-one}
use borrow.Author.Tests.{lt-ltb, le-ltb}
use lib.Dec.{ltb, eqb}
use lib.ListN.{length, drop, length-append, drop_of_length-le}
use lib.Seq.{sets, drop-cons, length-sets}
use Rattle.basics.specs.Ascii.{ascii}
use Rattle.little.proofs.Stores.{sets_front, sets_then}
use Rattle.bookformat.specs.Book.{accounts, book_refusal, decode}
use Rattle.bookformat.specs.Finding.{book_account}
use Rattle.bookformat.proofs.Found.{decode_length, account_small}
use Rattle.std.specs.Fmt.{decimal}
use Rattle.std.proofs.lemmas.List.{length_push}
use Rattle.text.specs.Put.{Put}
use Rattle.report.specs.Report.{heading, line_of, lines_of, listing, refused_text, text_by, room_for, WroteText}
use Rattle.std.specs.List.{sum_by, range_with_len}
use Rattle.std.proofs.lemmas.List.Sums.{sum_by-cons}
use Rattle.std.proofs.Common.{Ok, Err}
use Rattle.rules.specs.declared.refusals.Refusal.{Refusal}
use Rattle.rules.specs.declared.refusals.Refusal.TheVariants.{TooShort}
use Rattle.rules.specs.Refusals.{refusal_number}
use Rattle.rules.specs.Answer.{answered}
use Rattle.bookformat.proofs.Told.{book_facts, told, book_in_table}
use Rattle.report.proofs.Lines.{line_of_short}

-- the lines from account i on
abbrev pub remaining : List ℕ → ℕ → List ℕ
remaining b i = lines_of i (drop i (decode b))

next_line : (b : List ℕ) (i : ℕ) → i < accounts b → remaining b i ≡ line_of i (book_account b i) ++ remaining b (i + 1)
next_line b i h =
    let d : drop i (decode b) ≡ book_account b i ∷ drop (i + 1) (decode b) = rw add-one (drop-cons (decode b) i [] (rw (decode_length b) h)) in
    ap (lines_of i) d

none_left : (b : List ℕ) (i : ℕ) → accounts b ≤ i → remaining b i ≡ []
none_left b i h = ap (lines_of i) (drop_of_length-le (decode b) {i = i} (rw (decode_length b) h))

-- ---- storing them
-- the lines before i are stored
pub record Writing (b out₀ out : List ℕ) (p at i : ℕ) : Type 0 where
  pub bytes : sets out at (remaining b i) ≡ sets out₀ p (lines_of 0 (decode b))
  pub end : at + length (remaining b i) ≡ p + length (lines_of 0 (decode b))
  pub upto : i ≤ accounts b
  pub same : length out ≡ length out₀

module _ (b out₀ out : List ℕ) (p at i : ℕ) (w : Writing b out₀ out p at i) where
  pub line_room : i < accounts b → p + length (lines_of 0 (decode b)) ≤ length out₀ → at + length (line_of i (book_account b i)) ≤ length out
  line_room h r =
      omega (arith, w.end, w.same, ap length (next_line b i h), length-append (line_of i (book_account b i)) (remaining b (i + 1)))

  pub line_stored : (out2 : List ℕ) (at2 : ℕ) → i < accounts b → Put (line_of i (book_account b i)) out out2 at at2 → Writing b out₀ out2 p at2 (i + 1)
  line_stored out2 at2 h q =
      let l = line_of i (book_account b i) in
      let n = next_line b i h in
      record {
        bytes = sets_then l (remaining b (i + 1)) out out2 at at2 q.bytes q.end ∙ (sym (ap (sets out at) n) ∙ w.bytes);
        end = omega (arith, w.end, q.end, ap length n, length-append l (remaining b (i + 1)));
        upto = omega arith;
        same = ap length q.bytes ∙ (length-sets out at l ∙ w.same);
      }

  pub all_stored : accounts b ≤ i → Put (lines_of 0 (decode b)) out₀ out p at
  all_stored h =
      let z = none_left b i h in
      record {
        bytes = sym (ap (sets out at) z) ∙ w.bytes;
        end = omega (arith, w.end, ap length z);
      }

-- ---- counting their bytes
-- how long the line of account i is
abbrev pub line_size : List ℕ → ℕ → ℕ
line_size b i = length (line_of i (book_account b i))

-- those of the accounts from i on, together
sizes_from : (b : List ℕ) (left i : ℕ) → i + left ≡ accounts b → sum_by (line_size b) (range_with_len i left) ≡ length (remaining b i)
sizes_from b zero i e = sym (ap length (none_left b i (omega arith)))
sizes_from b (suc left) i e =
    let l = line_of i (book_account b i) in
    omega (
      arith,
      sum_by-cons (line_size b) i (range_with_len (i + 1) left),
      sizes_from b left (i + 1) (omega arith),
      ap length (next_line b i (omega arith)),
      length-append l (remaining b (i + 1)),
    )

pub all_sizes : (b : List ℕ) → sum_by (line_size b) (range_with_len 0 (accounts b)) ≡ length (lines_of 0 (decode b))
all_sizes b = sizes_from b (accounts b) 0 (omega arith)

-- no line of a book is longer than 113 bytes
pub line_short : (b : List ℕ) (i : ℕ) → book_refusal b ≡ 0 → i < 2 ^ 64 → line_size b i ≤ 113
line_short b i z h = line_of_short i (book_account b i) h (omega (arith, account_small b i z))

remaining_short : (b : List ℕ) (left i : ℕ) → book_refusal b ≡ 0 → i + left ≡ accounts b → length (remaining b i) ≤ 113 * left
remaining_short b zero i z e = omega (arith, ap length (none_left b i (omega arith)))
remaining_short b (suc left) i z e =
    let few = (book_facts b z).0.few in
    omega (
      arith,
      ap length (next_line b i (omega arith)),
      length-append (line_of i (book_account b i)) (remaining b (i + 1)),
      line_short b i z (omega arith),
      remaining_short b left (i + 1) z (omega arith),
    )

pub lines_short : (b : List ℕ) → book_refusal b ≡ 0 → length (lines_of 0 (decode b)) ≤ 113 * accounts b
lines_short b z = remaining_short b (accounts b) 0 z (omega arith)

-- ---- the whole
module _ (b : List ℕ) where
  pub listing_length : length (listing b) ≡ 39 + length (lines_of 0 (decode b))
  unfolding listing
  listing_length = length-append heading (lines_of 0 (decode b))

  pub listing_short : book_refusal b ≡ 0 → length (listing b) ≤ room_for (accounts b)
  listing_short z = omega (arith, listing_length, lines_short b z)

  -- room for 113 bytes a line is plenty
  pub plenty : (n m : ℕ) → book_refusal b ≡ 0 → m ≡ accounts b → room_for m ≤ n → ltb n (room_for m) ≡ ltb n (length (listing b))
  plenty n m z e h = le-ltb n (room_for m) h ∙ sym (le-ltb n (length (listing b)) (omega (arith, e, listing_short z)))

  pub counted : (m n : ℕ) → n ≡ length (lines_of 0 (decode b)) → ltb m (39 + n) ≡ ltb m (length (listing b))
  counted m n e = ap (ltb m) (ap (λ k. 39 + k) e ∙ sym listing_length)

  pub header_room : (o : List ℕ) → length (listing b) ≤ length o → 0 + length heading ≤ length o
  header_room o h = omega (arith, listing_length)

-- ---- a text that is written whole, or not at all
module _ (text old : List ℕ) where
  pub written : (new : List ℕ) (r : ℕ) → length text ≤ length old → Put text old new 0 r → WroteText text old new (Ok r)
  written new r h p =
      let f = le-ltb (length old) (length text) h in
      record {
        number = rw f;
        written = rw f (p.end ∙ omega arith);
        bytes = rw f (p.bytes ∙ sets_front text old h);
      }

  pub too_short : length old < length text → WroteText text old old (Err TooShort)
  too_short h =
      let f = lt-ltb (length old) (length text) h in
      record { number = rw f; written = rw f; bytes = rw f }

pub refused_as : (n : ℕ) (b : List ℕ) → eqb n 0 ≡ false → text_by n b ≡ refused_text n
refused_as zero b h = absurd (cc)
refused_as (suc n) b h = refl

pub text_refused : (b : List ℕ) (r : Refusal) → Err r ≡ answered (book_refusal b) (tt {0}) → text_by (book_refusal b) b ≡ refused_text (refusal_number r)
text_refused b r e =
    let t = told (book_refusal b) r (book_in_table b) e in
    refused_as (book_refusal b) b t.1 ∙ ap refused_text (sym t.0)

pub refused_width : {w n : ℕ} (r : Refusal) → w ≡ length (decimal n) → n ≡ refusal_number r → w ≡ length (decimal (refusal_number r))
refused_width r p q = p ∙ ap (λ n. length (decimal n)) q

pub refused_length : (n : ℕ) → length (refused_text n) ≡ 14 + length (decimal n)
unfolding refused_text
refused_length n = omega (arith, length-append (ascii "book refused ") (decimal n ++ (10 ∷ [])), length_push (decimal n) 10)
