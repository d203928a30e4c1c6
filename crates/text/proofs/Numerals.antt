-- Laws of decimal text: its length, how it is stored, and that it reads back as the number.
use Rattle.std.proofs.Common.{◌≡◌, ℕ, zero, suc, ◌+◌, ◌-◌, ◌*◌, ◌/◌, ◌%◌, ◌^◌, ◌≤◌, ◌<◌, cond, List, ◌++◌, length, take, drop, refl, sym, ap, ◌∙◌, append_assoc, length-append, take-append-drop, ltb, None, Some, [], ◌∷◌, arith}
use Rattle.std.specs.Prelude.{IfNone, IfSome}
use Rattle.std.specs.declared.option.Option.{Option}
use Rattle.std.specs.Option.{unwrap_or}
use Rattle.std.specs.Fmt.{decimal, signed_decimal}
use Rattle.std.specs.Str.Parse.{digits_value}
use Rattle.std.proofs.Math.IntN.{sub_ℕ}
use Rattle.std.proofs.lemmas.Fmt.{decimal_digit, decimal_step, decimal_is_IsNumeral_wide, length-decimal-le}
use Rattle.std.proofs.lemmas.List.{length_push}
use Rattle.std.proofs.Math.Nat.{one-le-pow}
use lib.ListN.{set}
use lib.Seq.{sets, sets-eq, set_comm, drop-drop, length-sets}
use borrow.Author.Tests.{lt-ltb, le-ltb}
use borrow.Rule.Slice.PartMut.{put_mid}
use Rattle.basics.proofs.Cases.{on_lt}
use Rattle.little.proofs.Stores.{sets_then}
use Rattle.text.specs.Put.{Put}

-- ---- how long it is: at most 20 digits, and a sign
pub decimal_short : (n : ℕ) → n < 2 ^ 64 → length (decimal n) ≤ 20
decimal_short n h = length-decimal-le 20 n (omega arith) (omega arith) h

-- a number has one digit more than the power of ten below it
width_is : (k n : ℕ) → n < 2 ^ 64 → 10 ^ k ≤ n → n < 10 * 10 ^ k → length (decimal n) ≡ k + 1
width_is zero n h a b = ap length (decimal_digit n (omega arith))
width_is (suc k) n h a b =
    let p : 10 ^ suc k ≡ 10 * 10 ^ k = omega arith in
    let some : 10 ≤ n = omega (arith, one-le-pow k 10, a, p) in
    let front = width_is k (n / 10) (omega arith) (omega (arith, a, p)) (omega (arith, b, p)) in
    omega (arith, ap length (decimal_step n some h), length_push (decimal (n / 10)) (48 + n % 10), front)

pub width_told : (n : ℕ) (o : Option ℕ) → n < 2 ^ 64 → IfNone o (n ≡ 0) → IfSome o (λ k. 10 ^ k ≤ n) → IfSome o (λ k. n < 10 * 10 ^ k)
    → unwrap_or o 0 + 1 ≡ length (decimal n)
width_told n None h z a b = omega (arith, ap length (decimal_digit n (omega arith)))
width_told n (Some k) h z a b = sym (width_is k n h a b)

-- for the reader: the text of a less b
pub signed_below : (a b : ℕ) → a < b → signed_decimal (sub_ℕ a b) ≡ 45 ∷ decimal (b - a)
signed_below a b h =
    let e : suc (b - suc a) ≡ b - a = omega arith in
    rw (lt-ltb a b h) (ap (λ n. 45 ∷ decimal n) e)

pub signed_above : (a b : ℕ) → b ≤ a → signed_decimal (sub_ℕ a b) ≡ decimal (a - b)
signed_above a b h = rw (le-ltb a b h)

-- a less b, measured without storing it
pub length_difference : (a b : ℕ) → length (signed_decimal (sub_ℕ a b)) ≡ cond (ltb a b) (1 + length (decimal (b - a))) (length (decimal (a - b)))
length_difference a b =
    on_lt a b
    (λ q z. let e : suc (b - suc a) ≡ b - a = omega arith in rw q (omega (arith, ap (λ n. length (decimal n)) e)))
    (λ q z. rw q refl)

pub difference_short : (a b : ℕ) → a < 2 ^ 64 → b < 2 ^ 64 → length (signed_decimal (sub_ℕ a b)) ≤ 21
difference_short a b h g =
    on_lt a b
    (λ q z. rw (length_difference a b, q) (omega (arith, decimal_short (b - a) (omega arith))))
    (λ q z. rw (length_difference a b, q) (omega (arith, decimal_short (a - b) (omega arith))))

-- ---- how it is stored
-- one text stored behind another
pub put_then : (x y o o1 o2 : List ℕ) (p q r : ℕ) → Put x o o1 p q → Put y o1 o2 q r → Put (x ++ y) o o2 p r
put_then x y o o1 o2 p q r a b =
    record {
      bytes = b.bytes ∙ sets_then x y o o1 p q a.bytes a.end;
      end = omega (arith, a.end, b.end, length-append x y);
    }

pub room_then : (x y o o1 : List ℕ) (p q : ℕ) → p + length (x ++ y) ≤ length o → Put x o o1 p q → q + length y ≤ length o1
room_then x y o o1 p q h a = omega (arith, length-append x y, a.end, ap length a.bytes, length-sets o p x)

-- for the reader: a byte stored behind a text, then the text
pub sets_last : (x o : List ℕ) (p q d : ℕ) → q ≡ p + length x → sets (set o q d) p x ≡ sets o p (x ++ (d ∷ []))
sets_last [] o p q d e = ap (λ k. set o k d) (e ∙ omega arith)
sets_last (a ∷ x) o p q d e =
    ap (λ l. sets l (suc p) x) (set_comm o q p d a (λ z. absurd (omega arith)))
    ∙ sets_last x (set o p a) (suc p) q d (e ∙ omega arith)

-- a text copied over a part of the bytes
pub sets_mid : (o x : List ℕ) (p k : ℕ) → k ≡ length x → p + length x ≤ length o → put_mid p k o x ≡ sets o p x
sets_mid o x p k e h = rw (e, sets-eq x o p h, drop-drop (length x) p o, append_assoc (take p o) x (drop (p + length x) o))

-- bytes that are as they were up to p, the text there, and as they were behind it
pub sets_between : (o o2 x : List ℕ) (p q : ℕ) → p + length x ≡ q → q ≤ length o → take p o2 ≡ take p o → drop p o2 ≡ x ++ drop q o → o2 ≡ sets o p x
sets_between o o2 x p q e h f g =
    sym (take-append-drop p o2) ∙ rw (f, g, sets-eq x o p (omega arith), e, append_assoc (take p o) x (drop q o))

-- ---- what it says: the digits of a number read back as the number
pub reads_back : (n : ℕ) → n < 10 ^ 64 → digits_value 10 (decimal n) ≡ n
reads_back n h = (decimal_is_IsNumeral_wide n h).1
