-- Memory whose spans are lent one after another: what they are after each, and that they are all of it. Once for every layout.
use Prim.Native.Nat.{ℕ, ◌+◌, ◌<◌}
use mathlib.Core.Path.{◌≡◌, refl, sym, ap, ◌∙◌}
use mathlib.Core.List.{List, [], ◌∷◌, ◌++◌}
use native.Mathlib.Omega.{arith}
use lib.ListN.{length, take, drop, get_or, set, length-append, length-take, length-drop, take-append-drop}
use lib.Seq.{take_at, drop_at, drop-drop}
use Rattle.span.specs.Span.{put, cut, end, start, joined}
use Rattle.span.proofs.Law.{cut_put, cut_at, put_length, start_end}

-- ---- all of memory
no_words : (m : List ℕ) → length m ≡ 0 → [] ≡ m
no_words [] h = refl
no_words (x ∷ m) h = absurd (omega (arith, h))

-- the spans, one after another, are the memory from their start on
pub joined_cut : (ns : List ℕ) (b : ℕ) (m : List ℕ) → end b ns ≡ length m → joined (cut b ns m) ≡ drop b m
joined_cut [] b m h = no_words (drop b m) (rw length-drop (omega (arith, h)))
joined_cut (n ∷ ns) b m h =
    ap (λ r. take n (drop b m) ++ r) (joined_cut ns (b + n) m h ∙ sym (drop-drop n b m))
    ∙ take-append-drop n (drop b m)

-- ---- spans put one after another
-- as many spans as sizes, each of its size
abbrev pub Sized : List ℕ → List (List ℕ) → Type 0
Sized [] [] = Unit {0}
Sized [] (s ∷ ss) = ⊥
Sized (n ∷ ns) [] = ⊥
Sized (n ∷ ns) (s ∷ ss) = (length s ≡ n) × Sized ns ss

pub joined_length : (ns : List ℕ) (ss : List (List ℕ)) (b : ℕ) → Sized ns ss → b + length (joined ss) ≡ end b ns
joined_length [] [] b h = omega arith
joined_length [] (s ∷ ss) b h = absurd h
joined_length (n ∷ ns) [] b h = absurd h
joined_length (n ∷ ns) (s ∷ ss) b h = omega (arith, length-append s (joined ss), h.0, joined_length ns ss (b + n) h.1)

-- memory that holds them from b on is cut into them again
cut_from : (ns : List ℕ) (ss : List (List ℕ)) (b : ℕ) (m : List ℕ) → Sized ns ss → drop b m ≡ joined ss → cut b ns m ≡ ss
cut_from [] [] b m h e = refl
cut_from [] (s ∷ ss) b m h e = absurd h
cut_from (n ∷ ns) [] b m h e = absurd h
cut_from (n ∷ ns) (s ∷ ss) b m h e =
    let here = ap (take n) e ∙ take_at s (joined ss) n h.0 in
    let rest = sym (drop-drop n b m) ∙ (ap (drop n) e ∙ drop_at s (joined ss) n h.0) in
    ap (λ x. x ∷ cut (b + n) ns m) here ∙ ap (λ xs. s ∷ xs) (cut_from ns ss (b + n) m h.1 rest)

pub cut_joined : (ns : List ℕ) (ss : List (List ℕ)) → Sized ns ss → cut 0 ns (joined ss) ≡ ss
cut_joined ns ss h = cut_from ns ss 0 (joined ss) h refl

-- ---- spans that are lent
module _ (sizes : List ℕ) where
  -- span i of m, and m with it back as ys
  abbrev pub part : ℕ → List ℕ → List ℕ
  part i m = get_or (cut 0 sizes m) i []

  abbrev pub back : ℕ → List ℕ → List ℕ → List ℕ
  back i ys m = put (start 0 sizes i) (get_or sizes i 0) ys m

  -- a span is as long as its size
  pub part_length : (i : ℕ) (m : List ℕ) → i < length sizes → length m ≡ end 0 sizes → length (part i m) ≡ get_or sizes i 0
  part_length i m h l =
      let f = start_end sizes 0 i h in
      ap length (cut_at sizes 0 i m h) ∙ simp (length-take, length-drop) (omega (arith, f, l))

  -- m has its words, and cs are its spans
  pub record Parts (m : List ℕ) (cs : List (List ℕ)) : Type 0 where
    pub words_are : length m ≡ end 0 sizes
    pub cuts : cut 0 sizes m ≡ cs

  pub here : (m : List ℕ) → length m ≡ end 0 sizes → Parts m (cut 0 sizes m)
  here m l = record { words_are = l; cuts = refl }

  -- span i comes back as ys
  pub then : (i : ℕ) (ys : List ℕ) {m : List ℕ} {cs : List (List ℕ)} → i < length sizes → length ys ≡ get_or sizes i 0 → Parts m cs
      → Parts (back i ys m) (set cs i ys)
  then i ys {m} {cs} h l p =
      let f = start_end sizes 0 i h in
      record {
        words_are = put_length (start 0 sizes i) (get_or sizes i 0) ys m l (omega (arith, f, p.words_are)) ∙ p.words_are;
        cuts = cut_put sizes 0 i ys m h (omega (arith, p.words_are)) l ∙ ap (λ xs. set xs i ys) p.cuts;
      }
