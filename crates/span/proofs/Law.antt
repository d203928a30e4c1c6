-- What a lent part leaves: one law for every layout.
use Prim.Native.Nat.{ℕ, zero, suc, ◌+◌, ◌-◌, ◌≤◌, ◌<◌}
use mathlib.Core.Path.{◌≡◌, refl, sym, ap, ◌∙◌}
use mathlib.Core.List.{List, [], ◌∷◌, ◌++◌, append_assoc}
use native.Mathlib.Omega.{arith}
use lib.ListN.{length, take, drop, get_or, set, length-append, length-take, length-drop, take-append-drop}
use lib.Seq.{take_at, drop_at, take-append-le, drop-append-le, drop-append-add, drop-drop, length-take-le}
use Rattle.span.specs.Span.{put, cut, end, start}

-- a list of a known length is its words: what is said of it goes by computation then
abbrev pub words : ℕ → (ℕ → ℕ) → List ℕ
words zero f = []
words (suc n) f = f 0 ∷ words n (λ i. f (suc i))

pub whole : (n : ℕ) (w : List ℕ) → length w ≡ n → w ≡ words n (λ i. get_or w i 0)
whole zero [] l = refl
whole zero (x ∷ w) l = absurd (omega (arith, l))
whole (suc n) [] l = absurd (omega (arith, l))
whole (suc n) (x ∷ w) l = ap (λ ys. x ∷ ys) (whole n w (omega (arith, l)))

module _ (a k : ℕ) (ys m : List ℕ) (l : length ys ≡ k) (f : a + k ≤ length m) where
  pub put_length : length (put a k ys m) ≡ length m
  put_length = simp (length-append, length-take, length-drop) (omega arith)

  pub put_same : take k (drop a (put a k ys m)) ≡ ys
  put_same = rw (drop_at (take a m) (ys ++ drop k (drop a m)) a (length-take-le a m (omega arith))) (take_at ys (drop k (drop a m)) k l)

  head : length (take a m) ≡ a
  head = length-take-le a m (omega arith)

  first : (b n : ℕ) → b + n ≤ a → (r : List ℕ) → take n (drop b (take a m ++ r)) ≡ take n (drop b (take a m))
  first b n h r =
      rw (drop-append-le b (take a m) r (omega (arith, head)))
      (take-append-le n (drop b (take a m)) r (rw length-drop (omega (arith, head))))

  pub before : (b n : ℕ) → b + n ≤ a → take n (drop b (put a k ys m)) ≡ take n (drop b m)
  before b n h = first b n h (ys ++ drop k (drop a m)) ∙ sym (first b n h (drop a m)) ∙ rw (take-append-drop a m)

  pub after : (b : ℕ) → a + k ≤ b → drop b (put a k ys m) ≡ drop b m
  after b h =
      let t : length (take a m ++ ys) ≡ a + k = simp length-append (omega (arith, head)) in
      let z : b ≡ length (take a m ++ ys) + (b - (a + k)) = omega arith in
      let y : a + (k + (b - (a + k))) ≡ b = omega arith in
      ap (λ i. drop i (put a k ys m)) z
      ∙ rw (sym (append_assoc (take a m) ys (drop k (drop a m)))) (drop-append-add (take a m ++ ys) (drop k (drop a m)) (b - (a + k)))
      ∙ drop-drop (b - (a + k)) k (drop a m)
      ∙ drop-drop (k + (b - (a + k))) a m
      ∙ ap (λ i. drop i m) y

-- a word that is set is a span of one that came back
pub word_set : (a x : ℕ) (m : List ℕ) → a < length m → set m a x ≡ put a 1 (x ∷ []) m
word_set zero x [] h = absurd (omega arith)
word_set zero x (y ∷ m) h = refl
word_set (suc a) x [] h = absurd (omega arith)
word_set (suc a) x (y ∷ m) h = ap (λ ys. y ∷ ys) (word_set a x m (omega arith))

-- a part that is lent leaves all spans that start past it
cut_after : (ns : List ℕ) (b a k : ℕ) (ys m : List ℕ) → length ys ≡ k → a + k ≤ length m → a + k ≤ b → cut b ns (put a k ys m) ≡ cut b ns m
cut_after [] b a k ys m l f h = refl
cut_after (n ∷ ns) b a k ys m l f h = rw (after a k ys m l f b h, cut_after ns (b + n) a k ys m l f (omega arith))

start_le : (ns : List ℕ) (b i : ℕ) → b ≤ start b ns i
start_le [] b i = omega arith
start_le (n ∷ ns) b zero = omega arith
start_le (n ∷ ns) b (suc i) = omega (arith, start_le ns (b + n) i)

end_le : (ns : List ℕ) (b : ℕ) → b ≤ end b ns
end_le [] b = omega arith
end_le (n ∷ ns) b = omega (arith, end_le ns (b + n))

pub start_end : (ns : List ℕ) (b i : ℕ) → i < length ns → start b ns i + get_or ns i 0 ≤ end b ns
start_end [] b i h = absurd (omega arith)
start_end (n ∷ ns) b zero h = end_le ns (b + n)
start_end (n ∷ ns) b (suc i) h = start_end ns (b + n) i (omega arith)

-- THE LAW: span i, lent and back as ys, is the one span that changes
pub cut_put : (ns : List ℕ) (b i : ℕ) (ys m : List ℕ) → i < length ns → end b ns ≤ length m → length ys ≡ get_or ns i 0
    → cut b ns (put (start b ns i) (get_or ns i 0) ys m) ≡ set (cut b ns m) i ys
cut_put [] b i ys m h f l = absurd (omega arith)
cut_put (n ∷ ns) b zero ys m h f l =
    let g : b + n ≤ length m = omega (arith, end_le ns (b + n)) in
    rw (put_same b n ys m l g, cut_after ns (b + n) b n ys m l g (omega arith))
cut_put (n ∷ ns) b (suc i) ys m h f l =
    let s = start (b + n) ns i in
    let g : s + get_or ns i 0 ≤ length m = omega (arith, start_end ns (b + n) i (omega arith)) in
    rw (before s (get_or ns i 0) ys m l g b n (start_le ns (b + n) i)) (ap (λ xs. take n (drop b m) ∷ xs) (cut_put ns (b + n) i ys m (omega arith) f l))

pub cut_at : (ns : List ℕ) (b i : ℕ) (m : List ℕ) → i < length ns → get_or (cut b ns m) i [] ≡ take (get_or ns i 0) (drop (start b ns i) m)
cut_at [] b i m h = absurd (omega arith)
cut_at (n ∷ ns) b zero m h = refl
cut_at (n ∷ ns) b (suc i) m h = cut_at ns (b + n) i m (omega arith)
