-- The part and its words: each is all of the other.
use Prim.Native.Nat.{ℕ, suc, ◌-◌}
use mathlib.Core.Path.{◌≡◌, refl, ap, ◌∙◌}
use mathlib.Core.List.{List, [], ◌∷◌, ◌++◌, append-nil}
use native.Mathlib.Omega.{arith}
use borrow.Rule.Slice.PartMut.{mid_of, put_mid}
use lib.ListN.{length, length-drop, set, drop}
use Rattle.std.proofs.lemmas.List.{take_all, drop_all}
use Rattle.rules.specs.Limits.{calendar_words}
use Rattle.workdays.specs.Kept.{workdays_size, workdays_on, workdays_words}

pub workdays_whole : (w : List ℕ) → length w ≡ workdays_size → workdays_words (workdays_on w) ≡ w
workdays_whole [] l = absurd (omega arith)
workdays_whole (a ∷ []) l = absurd (omega arith)
workdays_whole (a ∷ b ∷ w) l = refl

-- the bits are all words from the third on
pub bits_whole : (w : List ℕ) → length w ≡ workdays_size → mid_of 2 calendar_words w ≡ drop 2 w
bits_whole w l = take_all calendar_words (drop 2 w) (omega (arith, length-drop 2 w))

-- what its beginning stores, as the code has it: two words, and the bits over all others
pub begun : (w bits : List ℕ) (first : ℕ) → length w ≡ workdays_size → length bits ≡ calendar_words
    → put_mid 2 (length (set (set w 0 1) 1 first) - 2) (set (set w 0 1) 1 first) bits ≡ 1 ∷ first ∷ bits
begun [] bits first l m = absurd (omega arith)
begun (a ∷ []) bits first l m = absurd (omega arith)
begun (a ∷ b ∷ w) bits first l m =
    let e : suc (suc (length w)) - 2 ≡ length w = omega arith in
    let none = ap (λ n. drop n w) e ∙ drop_all (length w) w (omega arith) in
    ap (λ r. 1 ∷ first ∷ bits ++ r) none ∙ ap (λ r. 1 ∷ first ∷ r) (append-nil bits)
