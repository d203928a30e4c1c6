-- One law for numbers in bytes, over the width, each way; and what the loops that read and store them use.
use mathlib.Core.Path.{◌≡◌, refl, sym, ap, ◌∙◌}
use mathlib.Core.List.{List, [], ◌∷◌, ◌++◌, map, reverse}
use Prim.Native.Nat.{ℕ, zero, suc, ◌+◌, ◌*◌, ◌/◌, ◌%◌, ◌≤◌, ◌<◌}
use denote.Ref.{Bor}
use Rattle.std.specs.Prelude.{Option, Some, None}
use Rattle.std.specs.declared.iter.Rev.{Rev}
use Rattle.std.specs.declared.slice.Iter.{Iter}
use Rattle.std.specs.Slice.Iter.{iter_rest, iter_steps_back}
use Rattle.std.specs.Iterator.{Yields}
use Rattle.std.specs.Iterator.Adapters.{rev_source, rev_steps}
use native.Mathlib.Nat.{not-suc-le-zero, le_of_suc-le-suc}
use native.Mathlib.Numerals.{add-one}
use native.Mathlib.Omega.{arith}
use lib.ListN.{length, take, drop, get_or, length-append, length-take, length-drop}
use lib.Seq.{drop-cons, get_or-drop, drop_at, take_at}
use Rattle.std.proofs.lemmas.List.{map-append, reverse-append, length-reverse, reverse-reverse}
use Rattle.std.proofs.lemmas.Iterator.Consumers.{YieldsList-turn, YieldsList-end}
use Rattle.std.proofs.lemmas.Iterator.Adapters.{YieldsList-from_rev_slice}
use Rattle.little.specs.Little.{top, le, un, part, num, Bytes}

pub length_le : (w n : ℕ) → length (le w n) ≡ w
unfolding le
length_le zero n = refl
length_le (suc w) n = ap suc (length_le w (n / 256))

-- THE LAW, over the width: a number that fits comes back from its bytes ..
pub un_le : (w n : ℕ) → n < top w → un (le w n) ≡ n
unfolding le un
un_le zero n h = omega arith
un_le (suc w) n h = omega (arith, un_le w (n / 256) (omega arith))

-- .. and bytes come back from their number
pub le_un : (l : List ℕ) → Bytes l → le (length l) (un l) ≡ l
unfolding le un
le_un [] h = refl
le_un (b ∷ l) h =
    let s : b < 256 = h 0 in
    let m : (b + 256 * un l) % 256 ≡ b = omega arith in
    let d : (b + 256 * un l) / 256 ≡ un l = omega arith in
    rw (m, d, le_un l (λ i. h (suc i)))

-- for the reader: bytes make a number that fits in as many
pub un_lt : (l : List ℕ) → Bytes l → un l < top (length l)
unfolding un
un_lt [] h = omega arith
un_lt (b ∷ l) h = let s : b < 256 = h 0 in omega (arith, un_lt l (λ i. h (suc i)))

pub bytes_take : (n : ℕ) (l : List ℕ) → Bytes l → Bytes (take n l)
bytes_take zero l h i = omega arith
bytes_take (suc n) [] h i = omega arith
bytes_take (suc n) (b ∷ l) h zero = h 0
bytes_take (suc n) (b ∷ l) h (suc i) = bytes_take n l (λ j. h (suc j)) i

pub bytes_part : (w p : ℕ) (l : List ℕ) → Bytes l → Bytes (part w p l)
bytes_part w p l h = bytes_take w (drop p l) (λ i. rw get_or-drop (h (p + i)))

pub length_part : (w p : ℕ) (l : List ℕ) → p + w ≤ length l → length (part w p l) ≡ w
length_part w p l h = simp (length-take, length-drop) (omega arith)

-- n elements from p on are the part of width w, where n is w
pub part_is : {n : ℕ} (w p : ℕ) (l : List ℕ) → n ≡ w → take n (drop p l) ≡ part w p l
part_is w p l e = rw e refl

module _ (w p : ℕ) (b : List ℕ) (h : p + w ≤ length b) (t : Bytes b) where
  -- the bytes of the number at p are the bytes at p
  pub le_num : le w (num w p b) ≡ part w p b
  unfolding num
  le_num = ap (λ k. le k (num w p b)) (sym (length_part w p b h)) ∙ le_un (part w p b) (bytes_part w p b t)

  -- for the reader: the number at p fits in its w bytes, of any width
  pub num_lt : num w p b < top w
  unfolding num
  num_lt = rw (length_part w p b h) at (un_lt (part w p b) (bytes_part w p b t))

-- the number at p where its bytes were put
pub num_at : (w n p : ℕ) (x z : List ℕ) → length x ≡ p → n < top w → num w p (x ++ (le w n ++ z)) ≡ n
unfolding num
num_at w n p x z e h = rw (drop_at x (le w n ++ z) p e, take_at (le w n) z w (length_le w n)) (un_le w n h)

-- one byte more at the low end
pub num_step : (w p : ℕ) (b : List ℕ) → p < length b → num (suc w) p b ≡ get_or b p 0 + 256 * num w (p + 1) b
unfolding num un
num_step w p b h = rw (drop-cons b p 0, add-one)

pub top_mono : (i j : ℕ) → i ≤ j → top i ≤ top j
top_mono zero zero h = omega arith
top_mono zero (suc j) h = omega (arith, top_mono zero j (omega arith))
top_mono (suc i) zero h = absurd (not-suc-le-zero h)
top_mono (suc i) (suc j) h = omega (arith, top_mono i j (le_of_suc-le-suc h))

-- the bytes that a loop from the last to the first was given, in their own order
abbrev pub read_back : List (Bor ℕ) → List ℕ
read_back ys = reverse (map (λ y. y.now) ys)

-- n is the number of the bytes given so far
pub record IsRead (ys : List (Bor ℕ)) (n : ℕ) : Type 0 where
  pub value : n ≡ un (read_back ys)
  pub small : n < top (length ys)

-- one byte more is the lowest
pub read_more : (ys : List (Bor ℕ)) (n : ℕ) (y : Bor ℕ) (byte : ℕ) → IsRead ys n → byte ≡ y.now → byte < 256
    → IsRead (ys ++ (y ∷ [])) (byte + 256 * n)
unfolding un
read_more ys n y byte r e h =
    let k : length (ys ++ (y ∷ [])) ≡ suc (length ys) = simp length-append (omega arith) in
    record {
      value = rw (map-append (λ z. z.now) ys (y ∷ []), reverse-append (map (λ z. z.now) ys) (y.now ∷ []), e) (ap (λ m. y.now + 256 * m) r.value);
      small = rw k (omega (arith, r.small));
    }

module _ (s : Rev (Iter ℕ)) (xs : List ℕ) (from : iter_rest (rev_source s) ≡ xs) (ys : List (Bor ℕ)) (t : Rev (Iter ℕ))
    (given : Yields (rev_steps iter_steps_back) s ys t) (r : Option (Bor ℕ)) (u : Rev (Iter ℕ)) (next : rev_steps iter_steps_back t r u) where
  -- in a turn one byte is left, so that of 8 the number still has room
  pub read_fits : (n w : ℕ) (y : Bor ℕ) → r ≡ Some y → IsRead ys n → length xs ≡ w → w ≤ 8 → n < top 7
  read_fits n w y e i h k =
      let turn = YieldsList-turn (YieldsList-from_rev_slice {s = s} xs from) ys t given r u y e next in
      omega (arith, turn.0, length-reverse xs, i.small, top_mono (length ys) 7 (omega (arith, turn.0, length-reverse xs)))

  -- at the end it is the number of them all
  pub read_all : (n w : ℕ) → r ≡ None → IsRead ys n → length xs ≡ w → (n ≡ un xs) × (n < top w)
  read_all n w e i h =
      let all = YieldsList-end (YieldsList-from_rev_slice {s = s} xs from) ys t given r u e next in
      let k : length ys ≡ w = omega (arith, all.1, length-reverse xs) in
      (i.value ∙ ap un (rw all.0 (reverse-reverse xs)), rw k at i.small)
