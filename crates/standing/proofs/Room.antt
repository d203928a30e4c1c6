-- There is room for every text, so that the whole of it is handed on.
use Prim.Native.Nat.{ℕ, ◌≤◌}
use mathlib.Core.Path.{◌≡◌, sym, ◌∙◌}
use mathlib.Core.Bool.{false}
use mathlib.Core.List.{List}
use native.Mathlib.Omega.{arith}
use borrow.Author.Tests.{le-ltb}
use lib.ListN.{length}
use Rattle.std.proofs.Common.{Result, Ok}
use Rattle.std.specs.Result.{IsOk}
use Rattle.rules.specs.declared.refusals.Refusal.{Refusal}
use Rattle.report.specs.Report.{input_text, most_room, short_for, WroteText}
use Rattle.report.proofs.Texts.{input_sized, one_answer}
use Rattle.standing.specs.Program.{HoldsText}

module _ (b old new : List ℕ) (r : Result ℕ Refusal) (h : most_room ≤ length old) (w : WroteText (input_text b) old new r) where
  enough : short_for (input_text b) old ≡ false
  enough = le-ltb (length old) (length (input_text b)) (omega (arith, (input_sized b).fits))

  answer_is : r ≡ Ok (length (input_text b))
  answer_is = rw enough at (one_answer (input_text b) old new (input_sized b) r w)

  pub told_ok : IsOk r
  told_ok = rw answer_is

  pub holds : (n : ℕ) → r ≡ Ok n → HoldsText b old new n
  holds n e =
      let q : length (input_text b) ≡ n = let f : Ok (length (input_text b)) ≡ Ok n = sym answer_is ∙ e in cc in
      record { count = sym q; bytes = rw (enough, q) at w.bytes }
