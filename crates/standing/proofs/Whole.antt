-- The first 65,537 bytes of an input say which text it gets: a longer one is refused whatever follows.
use Rattle.std.specs.Prelude.{ℕ, ◌≡◌, Bool, List, ltb, length, take, None, Some, IfSome}
use Rattle.std.proofs.Common.{true, false, arith, refl, ap, ◌∙◌, subst, take_all, length-take-le, ltb-true, ltb-false, lt-ltb}
use Rattle.std.specs.declared.option.Option.{Option}
use Rattle.std.specs.Io.KnownBytes.{Appends}
use Rattle.report.specs.Report.{input_text}

text_of_front_by : (t : Bool) (xs : List ℕ) → ltb 65536 (length xs) ≡ t → input_text (take 65537 xs) ≡ input_text xs
text_of_front_by true xs q =
    let long : length (take 65537 xs) ≡ 65537 = length-take-le 65537 xs (omega (arith, ltb-true 65536 (length xs) q)) in
    let cut : ltb 65536 (length (take 65537 xs)) ≡ true = lt-ltb 65536 (length (take 65537 xs)) (omega (arith, long)) in
    rw (q, cut) refl
text_of_front_by false xs q = ap input_text (take_all 65537 xs (omega (arith, ltb-false 65536 (length xs) q)))

pub text_of_front : (xs : List ℕ) → input_text (take 65537 xs) ≡ input_text xs
text_of_front xs = text_of_front_by (ltb 65536 (length xs)) xs refl

-- what was read of an input whose bytes are known, and the output after the text for what was read
pub whole : (known old new : Option (List ℕ)) (book : List ℕ) → IfSome known (λ xs. book ≡ take 65537 xs)
    → Appends old new (input_text book) → IfSome known (λ xs. Appends old new (input_text xs))
whole None old new book read written = tt
whole (Some xs) old new book read written =
    subst (Appends old new) (ap input_text read ∙ text_of_front xs) written
