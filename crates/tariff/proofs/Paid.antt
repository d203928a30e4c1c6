-- The laws of a reading for a budget: the usage told is exact and maximal, and no other is.
use Prim.Native.Nat.{ℕ, zero, suc, ◌+◌, ◌≤◌, ◌<◌}
use mathlib.Core.Path.{◌≡◌, refl, sym}
use mathlib.Core.Bool.{Bool, true, false, ◌||◌}
use mathlib.Core.List.{[], ◌∷◌}
use native.Mathlib.Omega.{arith}
use lib.Dec.{leb, ltb, eqb}
use borrow.Author.Tests.{leb-true, leb-false, le-leb, ltb-true, lt-ltb, le-ltb}
use Rattle.basics.proofs.Cases.{on, on_eq, on_le, links}
use Rattle.std.proofs.Common.{Some, None, Ok}
use Rattle.rules.specs.Limits.{most_usage}
use Rattle.rules.specs.Tariff.{cents_of, is_class}
use Rattle.rules.specs.Budget.{largest_where, pays, reading_of}
use Rattle.rules.proofs.Events.{last_paid}
use Rattle.tariff.specs.Classes.{class_number}
use Rattle.tariff.specs.declared.classes.Class.{Class}
use Rattle.tariff.specs.Largest.{Largest, NonePaid}
use Rattle.tariff.proofs.Law.{class_known, allowed_in, rises}

-- ---- the largest number from 0 to n of which p holds
module _ (p : ℕ → Bool) where
  largest_to : (n : ℕ) → largest_where p n ≤ n
  unfolding largest_where
  largest_to zero = omega arith
  largest_to (suc n) = on (p (suc n)) (λ q. rw q (omega arith)) (λ q. rw q (omega (arith, largest_to n)))

  holds_of_largest : (n : ℕ) → p 0 ≡ true → p (largest_where p n) ≡ true
  unfolding largest_where
  holds_of_largest zero h = h
  holds_of_largest (suc n) h = on (p (suc n)) (λ q. rw q q) (λ q. rw q (holds_of_largest n h))

  not_above : (n v : ℕ) → largest_where p n < v → v ≤ n → p v ≡ false
  unfolding largest_where
  not_above zero v l m = absurd (omega arith)
  not_above (suc n) v l m =
      on (p (suc n)) (λ q. absurd (omega (arith, rw q at l)))
      (λ q. on_eq v (suc n) (λ z e. rw e q) (λ z e. not_above n v (rw q at l) (omega arith)))

module _ (class sum : ℕ) where
  -- the usage that is told for a sum is the largest that it pays for
  pub is_largest : cents_of class 0 ≤ sum → Largest class sum (largest_where (pays class sum) most_usage)
  is_largest h =
      record {
        in_range = largest_to (pays class sum) most_usage;
        paid = leb-true _ sum (holds_of_largest (pays class sum) most_usage (le-leb (cents_of class 0) sum h));
        maximal = λ more l m. leb-false _ sum (not_above (pays class sum) most_usage more l m);
      }

  at_most : (u v : ℕ) → Largest class sum u → Largest class sum v → u ≤ v
  at_most u v a b = on_le u v (λ q l. l) (λ q l. absurd (omega (arith, b.maximal u l a.in_range, a.paid)))

  -- and there is one largest alone
  pub one_largest : (u : ℕ) → cents_of class 0 ≤ sum → Largest class sum u → largest_where (pays class sum) most_usage ≡ u
  one_largest u h a =
      let b = is_largest h in
      omega (arith, at_most _ u b a, at_most u _ a b)

-- so that where it was found, it is the reading
pub reading_is : (class sum usage : ℕ) → is_class class ≡ true → cents_of class 0 ≤ sum → Largest class sum usage → reading_of class sum ≡ Ok (Some usage)
reading_is class sum usage k h l = rw (k, le-ltb sum (cents_of class 0) h, one_largest class sum usage h l) refl

-- and none is told where no usage is paid for
pub none_is : (class sum : ℕ) → is_class class ≡ true → NonePaid class sum → reading_of class sum ≡ Ok None
none_is class sum k n = rw (k, lt-ltb sum (cents_of class 0) (n 0 (omega arith))) refl

-- ---- of a class as the code has it, and the bills that it worked out
pub found : (class sum usage : ℕ) (c : Class) → class_number c ≡ class → cents_of (class_number c) 0 ≤ sum → Largest (class_number c) sum usage
    → Ok (Some usage) ≡ reading_of class sum
found class sum usage c e h l = sym (reading_is class sum usage (rw e at (class_known c)) (rw e at h) (rw e at l))

-- where usage 0 costs more than the sum, so does every usage
pub none_found : (class sum : ℕ) (c : Class) → class_number c ≡ class → sum < cents_of (class_number c) 0 → NonePaid class sum
none_found class sum c e h usage m =
    let k = rw e at (class_known c) in
    omega (arith, rw e at h, rises class usage (allowed_in class usage k m) 0 (omega arith))

-- ---- the worked cases ask for two bills in place of every one
-- where one kilowatt-hour more is not paid for, or not allowed, no larger usage is paid for
none_above : (class sum usage : ℕ) → is_class class ≡ true → (eqb usage most_usage || ltb sum (cents_of class (usage + 1))) ≡ true
    → (more : ℕ) → usage < more → more ≤ most_usage → sum < cents_of class more
none_above class sum usage k e more l m =
    on_eq usage most_usage (λ q z. absurd (omega arith))
    (λ q z. omega (arith, ltb-true sum (cents_of class (usage + 1)) (rw q at e), rises class more (allowed_in class more k m) (usage + 1) (omega arith)))

-- so that a usage that passes their test is the reading
pub by_the_next : (class sum usage : ℕ) → last_paid class sum usage ≡ true → reading_of class sum ≡ Ok (Some usage)
by_the_next class sum usage e =
    let last = eqb usage most_usage || ltb sum (cents_of class (usage + 1)) in
    let f = links (is_class class) (leb usage most_usage ∷ leb (cents_of class usage) sum ∷ last ∷ []) e in
    let m = leb-true usage most_usage f.1.0 in
    let p = leb-true (cents_of class usage) sum f.1.1.0 in
    reading_is class sum usage f.0 (omega (arith, rises class usage (allowed_in class usage f.0 m) 0 (omega arith), p))
    (record { in_range = m; paid = p; maximal = none_above class sum usage f.0 f.1.1.1.0 })
