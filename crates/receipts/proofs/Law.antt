-- The law of the part, one for every till: after a lawful history it answers what the rules say.
use Prim.Native.Nat.{ℕ, zero, suc, zero-le, ◌+◌, ◌*◌, ◌-◌, ◌≤◌, ◌<◌}
use mathlib.Core.Path.{◌≡◌, refl, sym, ◌∙◌}
use mathlib.Core.Bool.{Bool, true, false, cond, not, ◌&&◌, ◌||◌}
use mathlib.Core.List.{List, [], ◌∷◌}
use mathlib.Core.Logic.{◌≢◌}
use native.Mathlib.Omega.{arith}
use lib.Dec.{leb, ltb, eqb}
use lib.ListN.{length, get_or, set, length-set}
use lib.Seq.{get_or-set_same, get_or-set_other}
use borrow.Author.Tests.{le-leb, leb-true, ltb-true}
use Rattle.std.proofs.lemmas.Bool.{and_parts}
use Rattle.std.specs.List.{list_all}
use Rattle.basics.proofs.Cases.{on, on_eq}
use Rattle.basics.proofs.Lists.{at_set}
use Rattle.std.specs.Prelude.{Option}
use Rattle.rules.specs.declared.Calendar.{Calendar}
use Rattle.rules.specs.Limits.{limit, last_till, known_receipts}
use Rattle.rules.specs.Kinds.{payment, returned_payment}
use Rattle.rules.specs.History.{History, is, within}
use Rattle.rules.specs.Receipts.{payments, returned, returnable}
use Rattle.rules.specs.Accepted.{Lawful}
use Rattle.rules.proofs.Days.{within_true}
use Rattle.rules.proofs.Ranged.{ranged}
use Rattle.rules.proofs.Passed.{passed}
use Rattle.rules.proofs.Bounds.{return_known, not_yet, count_limit}
use Rattle.receipts.specs.Receipts.{Receipts, tills, receipts_of, count_by, place, payment_by, receipts_ok, ReceiptsFit}

-- ---- a till's places, before and after: pays are its payments, newest first, n how many, R the returned ones
abbrev Placed : ℕ → List ℕ → List ℕ → ℕ → (ℕ → Bool) → Type 0
Placed till ring pays n R =
    (r : ℕ) → 1 ≤ r → r ≤ n → n < r + known_receipts → get_or ring (place till r) 0 ≡ cond (not (R r)) (get_or pays (n - r) 0) 0

module _ (till : ℕ) (ring pays : List ℕ) (n : ℕ) (R : ℕ → Bool) (k : Placed till ring pays n R) where
  next_place : length ring ≡ known_receipts * tills → till ≤ last_till → (a : ℕ) → R (suc n) ≡ false
      → Placed till (set ring (place till (n + 1)) a) (a ∷ pays) (suc n) R
  next_place m t a f r p q w =
      on_eq r (n + 1)
      (λ _ z. let s : suc n - r ≡ 0 = omega arith in let u : r ≡ suc n = omega arith in
      rw (s, z) (get_or-set_same ring (place till (n + 1)) a 0 (omega arith) ∙ rw (sym z, u, f)))
      (λ _ z. let s : suc n - r ≡ suc (n - r) = omega arith in
      rw s (get_or-set_other ring (place till (n + 1)) (place till r) a 0 (omega arith) ∙ k r p (omega arith) (omega arith)))

  cleared_place : (a : ℕ) → a ≤ n → n < a + known_receipts → Placed till (set ring (place till a) 0) pays n (λ r. eqb a r || R r)
  cleared_place a x y r p q w =
      on_eq a r
      (λ e z. rw (e, z) (at_set ring (place till r) 0))
      (λ e z. rw e (get_or-set_other ring (place till a) (place till r) 0 0 (omega arith) ∙ k r p q w))

  -- what is stored for another till leaves them
  other_till : (o x a : ℕ) → o ≢ till → Placed till (set ring (place o x) a) pays n R
  other_till o x a d r p q w = get_or-set_other ring (place o x) (place till r) a 0 (omega arith) ∙ k r p q w

-- ---- over a history
counts_length : (h : History) → length (receipts_of h).counts ≡ tills
unfolding receipts_of
counts_length [] = refl
counts_length (e ∷ h) = let ih = counts_length h in on (is payment e) (λ q. rw (q, length-set) ih) (λ q. rw q ih)

full_length : (h : History) → length (receipts_of h).recent ≡ known_receipts * tills
unfolding receipts_of
full_length [] = refl
full_length (e ∷ h) =
    let ih = full_length h in
    on (is payment e) (λ q. rw (q, length-set) ih)
    (λ q. on (is returned_payment e) (λ r. rw (q, r, length-set) ih) (λ r. rw (q, r) ih))

count_is : (c : Option Calendar) (till : ℕ) (h : History) → Lawful c h → count_by (receipts_of h) till ≡ length (payments till h)
unfolding receipts_of
count_is c till [] w = grind arith
count_is c till (e ∷ h) w =
    let ih = count_is c till h w.1 in
    let counts = (receipts_of h).counts in
    let n = count_by (receipts_of h) e.option + 1 in
    on_eq e.kind payment
    (λ q z.
    let a = (ranged payment e (passed h e w.0).fields_fit z).option_high in
    on_eq e.option till
    (λ o y. rw (z, o, y) (get_or-set_same counts till (count_by (receipts_of h) till + 1) 0 (omega (arith, counts_length h)) ∙ omega (arith, ih)))
    (λ o y. rw (z, o) (get_or-set_other counts e.option till n 0 (omega arith) ∙ ih)))
    (λ q _. rw q ih)

places : (c : Option Calendar) (till : ℕ) (h : History) → Lawful c h
    → Placed till (receipts_of h).recent (payments till h) (length (payments till h)) (returned till h)
unfolding receipts_of
places c till [] w = grind arith
places c till (e ∷ h) w =
    let k = places c till h w.1 in
    let ring = (receipts_of h).recent in
    let pays = payments till h in
    let n = length pays in
    on_eq e.kind payment
    (λ q z.
    let a = (ranged payment e (passed h e w.0).fields_fit z).option_high in
    on_eq e.option till
    (λ o y. rw (z, o, y, count_is c till h w.1)
    (next_place till ring pays n (returned till h) k (full_length h) (omega arith) e.amount (not_yet c till h w.1 (suc n) (omega arith))))
    (λ o y. rw (z, o) (other_till till ring pays n (returned till h) k e.option _ e.amount y)))
    (λ q _. on_eq e.kind returned_payment
    (λ r z. let m = return_known h e (passed h e w.0) z in
    on_eq e.option till
    (λ o y. rw (z, o, y) (cleared_place till ring pays n (returned till h) k e.amount (rw y at m.high) (rw y at m.near)))
    (λ o y. rw (z, o) (other_till till ring pays n (returned till h) k e.option _ 0 y)))
    (λ r _. rw (q, r) k))

-- known, returned or not: the two readings of a receipt
readings : (a b : Bool) (x y : ℕ) → (a ≡ true → x ≡ cond (not b) y 0) → cond a x 0 ≡ cond (a && not b) y 0
readings true true x y f = f refl
readings true false x y f = f refl
readings false b x y f = refl

payment_is : (c : Option Calendar) (till : ℕ) (h : History) → Lawful c h → (r : ℕ) → payment_by (receipts_of h) till r ≡ returnable till h r
payment_is c till h w r =
    let n = length (payments till h) in
    rw (count_is c till h w)
    (readings (within 1 n r && ltb (n - r) known_receipts) (returned till h r) _ _
    (λ t.
    let v = within_true 1 n r (and_parts (within 1 n r) (ltb (n - r) known_receipts) t).0 in
    places c till h w r v.0 v.1 (omega (arith, ltb-true (n - r) known_receipts (and_parts (within 1 n r) (ltb (n - r) known_receipts) t).1))))

-- ---- the law
pub record ReceiptsLaw (h : History) : Type 0 where
  pub count_is : (till : ℕ) → count_by (receipts_of h) till ≡ length (payments till h)
  pub payment_is : (till r : ℕ) → payment_by (receipts_of h) till r ≡ returnable till h r
  pub counts_size : length (receipts_of h).counts ≡ tills
  pub size : length (receipts_of h).recent ≡ known_receipts * tills
  pub passes : receipts_ok (receipts_of h) ≡ true

-- a list passes where each of its places c does
every : (xs : List ℕ) → ((i : ℕ) → get_or xs i 0 ≤ limit) → list_all (λ n. leb n limit) xs ≡ true
every [] f = refl
every (x ∷ xs) f = rw (le-leb x limit (f 0)) (every xs (λ i. f (suc i)))

one : (xs : List ℕ) → list_all (λ n. leb n limit) xs ≡ true → (i : ℕ) → get_or xs i 0 ≤ limit
one [] p i = zero-le
one (x ∷ xs) p zero = leb-true x limit (and_parts (leb x limit) (list_all (λ n. leb n limit) xs) p).0
one (x ∷ xs) p (suc i) = one xs (and_parts (leb x limit) (list_all (λ n. leb n limit) xs) p).1 i

pub receipts_law : (c : Option Calendar) (h : History) → Lawful c h → ReceiptsLaw h
receipts_law c h w = record {
  count_is = λ till. count_is c till h w;
  payment_is = λ till r. payment_is c till h w r;
  counts_size = counts_length h;
  size = full_length h;
  passes = every (receipts_of h).counts (λ till. rw (count_is c till h w) (count_limit c till h w));
}

-- what the test tells
pub receipts_fit : (s : Receipts) → receipts_ok s ≡ true → ReceiptsFit s
receipts_fit s e = record { count_le = one s.counts e }
