-- What the program makes of the bytes that it read, before it writes.
use Rattle.std.specs.Prelude.{ℕ, ◌≡◌, List, ◌++◌, length, drop}
use Rattle.std.specs.declared.option.Option.{Option}
use Rattle.std.specs.Io.KnownBytes.{Appends, Consumes}
use Rattle.report.specs.Report.{input_text}
use Rattle.standing.specs.declared.Failed.{Failed}
use Rattle.standing.specs.declared.Failed.TheVariants.{Reading, Writing}

-- b was read, and the output holds its text, all n bytes of it, and then its old tail
pub record HoldsText (b old new : List ℕ) (n : ℕ) : Type 0 where
  pub count : n ≡ length (input_text b)
  pub bytes : new ≡ input_text b ++ drop n old

-- what a failure leaves, of the input's bytes and the output's: where a read failed, some bytes were read and the output got the text
-- for these, and no other byte; of a write that failed nothing is said
abbrev pub AfterFailure : Failed → Option (List ℕ) → Option (List ℕ) → Option (List ℕ) → Option (List ℕ) → Type 0
AfterFailure Reading known left old new = (b : List ℕ) × (Consumes known left b × Appends old new (input_text b))
AfterFailure Writing known left old new = Unit {0}
