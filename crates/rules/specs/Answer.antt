-- An answer: a value, or refused with a number; document 01's number and value of it, by cases.
use Rattle.std.specs.Prelude.{ℕ, cond, eqb, Result, Ok, Err}
use Rattle.rules.specs.declared.refusals.Refusal.{Refusal}
use Rattle.rules.specs.Refusals.{refusal_number, refusal_of}

-- what is answered where n is the number that refuses, 0 for none: the value, or refused with n
abbrev pub answered : {A : Type 0} → ℕ → A → Result A Refusal
answered n x = cond (eqb n 0) (Ok x) (Err (refusal_of n))

-- of an answer the number of the refusal, 0 where nothing is refused
abbrev pub number_of : {A : Type 0} → Result A Refusal → ℕ
number_of (Ok x) = 0
number_of (Err r) = refusal_number r

-- ---- the answer to an event: accepted with the receipt of a payment, 0 for others; or refused
abbrev pub Answer : Type 0
Answer = Result ℕ Refusal

-- the receipt that an answer carries, 0 for none
abbrev pub receipt_of : Answer → ℕ
receipt_of (Ok r) = r
receipt_of (Err n) = 0
