-- Every text that is written: it is not empty, so that the promise leaves one answer; and there is room for it.
use Prim.Native.Nat.{ℕ, zero, suc, ◌^◌, ◌≤◌, ◌<◌}
use mathlib.Core.Path.{◌≡◌, refl, ap}
use mathlib.Core.Bool.{cond}
use mathlib.Core.List.{List}
use native.Mathlib.Omega.{arith}
use lib.Dec.{ltb}
use lib.ListN.{length}
use Rattle.basics.proofs.Cases.{on}
use Rattle.bookformat.specs.Book.{book_refusal}
use Rattle.bookformat.proofs.Told.{book_facts, book_in_table}
use Rattle.text.proofs.Numerals.{decimal_short}
use Rattle.report.specs.Report.{refused_text, text_by, text_of, input_text, most_room, short_for, WroteText}
use Rattle.std.proofs.Common.{Result, Ok, Err}
use Rattle.rules.specs.declared.refusals.Refusal.{Refusal}
use Rattle.rules.specs.declared.refusals.Refusal.TheVariants.{TooShort}
use Rattle.rules.proofs.Numbered.{number_back}
use Rattle.report.proofs.Listing.{listing_length, listing_short, refused_length}

-- how long a text can be
pub record SizedText (text : List ℕ) : Type 0 where
  pub some : 0 < length text
  pub fits : length text ≤ most_room

refused_sized : (n : ℕ) → n < 2 ^ 64 → SizedText (refused_text n)
refused_sized n h = record { some = omega (arith, refused_length n); fits = omega (arith, refused_length n, decimal_short n h) }

text_by_sized : (n : ℕ) (b : List ℕ) → book_refusal b ≡ n → SizedText (text_by n b)
text_by_sized zero b z =
    record { some = omega (arith, listing_length b); fits = omega (arith, listing_short b z, (book_facts b z).0.few) }
text_by_sized (suc n) b z = refused_sized (suc n) (omega (arith, book_in_table b))

pub text_sized : (b : List ℕ) → SizedText (text_of b)
text_sized b = text_by_sized (book_refusal b) b refl

pub input_sized : (b : List ℕ) → SizedText (input_text b)
input_sized b = on (ltb 65536 (length b)) (λ q. rw q (refused_sized 20 (omega arith))) (λ q. rw q (text_sized b))

-- ---- number and bytes are the whole answer
module _ (text old new : List ℕ) (s : SizedText text) where
  pub one_answer : (r : Result ℕ Refusal) → WroteText text old new r → r ≡ cond (short_for text old) (Err TooShort) (Ok (length text))
  one_answer (Ok n) w =
      on (short_for text old)
      (λ q. let e : 0 ≡ 22 = rw q at w.number in absurd (omega (arith, e)))
      (λ q. rw q (ap Ok (rw q at w.written)))
  one_answer (Err n) w =
      on (short_for text old)
      (λ q. rw q (ap Err (number_back n TooShort (rw q at w.number))))
      (λ q. let e : 0 ≡ length text = rw q at w.written in absurd (omega (arith, e, s.some)))
