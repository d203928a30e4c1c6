-- The laws of a bill: it grows strictly with the usage, it is in the range of a bill's amount, and its lines hold the whole usage, in order.
use Rattle.std.proofs.lemmas.Grind.{common_steps}
use Prim.Native.Nat.{ℕ, ◌-◌, ◌≤◌, ◌<◌}
use mathlib.Core.Path.{◌≡◌, refl, ◌∙◌}
use mathlib.Core.Bool.{Bool, true, ◌&&◌}
use mathlib.Core.List.{List, [], ◌∷◌}
use native.Mathlib.Omega.{arith}
use lib.Dec.{leb, eqb}
use lib.ListN.{length, get_or}
use borrow.Author.Tests.{leb-true, le-leb, eqb-true}
use Rattle.std.specs.List.{list_all}
use Rattle.std.proofs.lemmas.Bool.{and_from}
use Rattle.basics.proofs.Cases.{Each, links}
use Rattle.std.proofs.lemmas.List.Recursion.{and_at}
use Rattle.rules.specs.declared.Block.{Block}
use Rattle.rules.specs.Kinds as kinds
use Rattle.rules.specs.Limits.{most_amount, most_usage}
use Rattle.rules.specs.History.{within}
use Rattle.rules.specs.Range.{in_range}
use Rattle.rules.specs.Tariff.{basic_charges, schedules, lines_from, energy_by, row_of, basic_of, cents_of, is_class, bill_refusal, no_line}
use Rattle.rules.proofs.Days.{within_in}
use Rattle.tariff.specs.Allowed.{Allowed}
use Rattle.tariff.specs.Classes.{class_number}
use Rattle.tariff.specs.declared.classes.Class.{Class}
use Rattle.tariff.specs.declared.classes.Class.TheVariants.{Residential, SinglePhase, ThreePhase}
use Rattle.tariff.proofs.Rows.{lines_length, steep_from, growth, empty_behind, used_in, all_used}

-- what no energy sum passes, in hundredths of a cent, and no basic charge, in cents: far from the end of 64 bits and of a bill's amount
abbrev pub most_energy : ℕ
most_energy = 10_000_000_000

abbrev pub most_basic : ℕ
most_basic = 10_000

-- ---- the one fact over the rows, and that over the basic charges, which the checker computes
-- a row is steep, its energy sum for the most usage is small, and it has three blocks
abbrev sound : List Block → Bool
sound row = steep_from 0 row && leb (energy_by row most_usage) most_energy && eqb (length row) 3

rows : list_all sound schedules ≡ true
rows = refl

abbrev small : ℕ → Bool
small basic = leb 1 basic && leb basic most_basic

charges : list_all small basic_charges ≡ true
charges = refl

-- ---- a class that is known
pub class_known : (c : Class) → is_class (class_number c) ≡ true
class_known Residential = refl
class_known SinglePhase = refl
class_known ThreePhase = refl

-- ---- refused or not
pub allowed : (class usage : ℕ) → bill_refusal class usage ≡ 0 → Allowed class usage
allowed class usage z = grind (arith, common_steps)

pub allowed_in : (class usage : ℕ) → is_class class ≡ true → usage ≤ most_usage → Allowed class usage
allowed_in class usage k m = allowed class usage (rw (k, le-leb usage most_usage m) refl)

-- ---- for a class and a usage
module _ (class usage : ℕ) (a : Allowed class usage) where
  row_facts : (steep_from 0 (row_of class) ≡ true) × Each (leb (energy_by (row_of class) most_usage) most_energy ∷ eqb (length (row_of class)) 3 ∷ [])
  row_facts =
      links (steep_from 0 (row_of class)) (leb (energy_by (row_of class) most_usage) most_energy ∷ eqb (length (row_of class)) 3 ∷ [])
      (and_at (list_all sound) sound refl (λ _ _. refl) schedules (class - 1) [] (omega arith) rows)

  pub energy_most : energy_by (row_of class) usage ≤ most_energy
  energy_most =
      let top = leb-true (energy_by (row_of class) most_usage) most_energy row_facts.1.0 in
      omega (arith, growth usage most_usage a.usage_in_range (omega arith) 0 (row_of class) row_facts.0)

  pub basic_in : (1 ≤ basic_of class) × (basic_of class ≤ most_basic)
  basic_in =
      let f = links (leb 1 (basic_of class)) (leb (basic_of class) most_basic ∷ []) (and_at (list_all small) small refl (λ _ _. refl) basic_charges (class - 1) 0 (omega arith) charges) in
      (leb-true 1 (basic_of class) f.0, leb-true (basic_of class) most_basic f.1.0)

  -- the range of a bill's amount
  pub bill_in_range : (1 ≤ cents_of class usage) × (cents_of class usage ≤ most_amount)
  unfolding cents_of
  bill_in_range = let e = energy_most in let b = basic_in in (omega arith, omega arith)

  -- so that row 3 lets a bill of that amount pass, on any day
  pub posts : (t : ℕ) → in_range (record { kind = kinds.bill; option = 0; day = t; amount = cents_of class usage }) ≡ true
  unfolding in_range
  posts t =
      and_from (within 0 0 0) (within 1 most_amount (cents_of class usage)) (within_in 0 0 0 (omega arith) (omega arith))
      (within_in 1 most_amount (cents_of class usage) bill_in_range.0 bill_in_range.1)

  -- the bill grows strictly with the usage
  pub grows : (less : ℕ) → less < usage → cents_of class less < cents_of class usage
  unfolding cents_of
  grows less l = omega (arith, growth less usage (omega arith) a.usage_in_range 0 (row_of class) row_facts.0)

  -- and never falls
  pub rises : (less : ℕ) → less ≤ usage → cents_of class less ≤ cents_of class usage
  unfolding cents_of
  rises less l = omega (arith, growth less usage l a.usage_in_range 0 (row_of class) row_facts.0)

  pub three_lines : length (lines_from 0 (row_of class) usage) ≡ 3
  three_lines = lines_length 0 (row_of class) usage ∙ eqb-true (length (row_of class)) 3 row_facts.1.1.0

  -- the lines fill up in order: where one is empty, so are those behind it
  pub in_order : (i j : ℕ) → i ≤ j → (get_or (lines_from 0 (row_of class) usage) i no_line).used ≡ 0 → (get_or (lines_from 0 (row_of class) usage) j no_line).used ≡ 0
  in_order i j l z = empty_behind 0 (row_of class) usage i j row_facts.0 l z

  -- the kilowatt-hours of the lines are the usage
  pub whole : used_in (lines_from 0 (row_of class) usage) ≡ usage
  whole = omega (arith, all_used 0 (row_of class) usage row_facts.0 a.usage_in_range)
