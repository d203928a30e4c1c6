-- Every place of the ring after items xs: the newest that stands there, open or paid; 0 where none ever stood.
use Rattle.std.proofs.lemmas.Grind.{common_steps}
use Prim.Native.Nat.{ℕ, ◌+◌, ◌-◌, ◌*◌, ◌/◌, ◌%◌, ◌≤◌, ◌<◌}
use mathlib.Core.Path.{◌≡◌, refl, sym, ◌∙◌}
use mathlib.Core.List.{List, [], ◌∷◌, ◌++◌}
use native.Mathlib.Omega.{arith}
use lib.ListN.{length, get_or, replicate, get_or-replicate}
use lib.Seq.{ext_get_or}
use Rattle.basics.proofs.Cases.{on_lt, on_eq}
use Rattle.rules.specs.Money.{Item}
use Rattle.ledger.specs.Ring.{places, ring_size, day_in, upto_in, day_at, upto_at, stored}

-- past the last
abbrev zero_item : Item
zero_item = record { day = 0; amount = 0; upto = 0 }

pub record Placed (xs : List Item) (s : List ℕ) : Type 0 where
  pub size : length s ≡ ring_size
  pub days : (k : ℕ) → k < length xs → length xs ≤ k + places → day_at s k ≡ (get_or xs k zero_item).day
  pub uptos : (k : ℕ) → k < length xs → length xs ≤ k + places → upto_at s k ≡ (get_or xs k zero_item).upto
  pub free_days : (k : ℕ) → length xs ≤ k → k < places → day_at s k ≡ 0
  pub free_uptos : (k : ℕ) → length xs ≤ k → k < places → upto_at s k ≡ 0

pub none_placed : Placed [] (replicate ring_size 0)
none_placed =
    record {
      size = refl;
      days = λ k a b. absurd (omega arith);
      uptos = λ k a b. absurd (omega arith);
      free_days = λ k a b. get_or-replicate ring_size (day_in k) 0 0 (omega arith);
      free_uptos = λ k a b. get_or-replicate ring_size (upto_in k) 0 0 (omega arith);
    }

module _ (xs : List Item) (s : List ℕ) (p : Placed xs s) (x : Item) where
  pub placed_more : Placed (xs ++ (x ∷ [])) (stored s (length xs) x.day x.upto)
  placed_more = grind (arith, common_steps)

-- ---- the places say every word: what xs leave in the ring is one list
-- the newest of n items that stands at place i
abbrev newest : ℕ → ℕ → ℕ
newest n i = i + places * ((n - 1 - i) / places)

record Newest (n i k : ℕ) : Type 0 where
  made : k < n
  near : n ≤ k + places
  there : k % places ≡ i

newest_at : (n i : ℕ) → i < n → i < places → Newest n i (newest n i)
newest_at n i h b = record { made = omega arith; near = omega arith; there = omega arith }

module _ (xs : List Item) (s t : List ℕ) (p : Placed xs s) (q : Placed xs t) where
  -- a place, by the item that stands there
  in_place : (i : ℕ) → i < places → (get_or s (2 * i) 0 ≡ get_or t (2 * i) 0) × (get_or s (2 * i + 1) 0 ≡ get_or t (2 * i + 1) 0)
  in_place i b =
      on_lt i (length xs)
      (λ _ h.
      let k = newest (length xs) i in
      let w = newest_at (length xs) i h b in
      let d : day_at s k ≡ day_at t k = p.days k w.made w.near ∙ sym (q.days k w.made w.near) in
      let u : upto_at s k ≡ upto_at t k = p.uptos k w.made w.near ∙ sym (q.uptos k w.made w.near) in
      (rw w.there at d, rw w.there at u))
      (λ _ h.
      let z : i % places ≡ i = omega arith in
      let d : day_at s i ≡ day_at t i = p.free_days i h b ∙ sym (q.free_days i h b) in
      let u : upto_at s i ≡ upto_at t i = p.free_uptos i h b ∙ sym (q.free_uptos i h b) in
      (rw z at d, rw z at u))

  pub one_ring : s ≡ t
  one_ring =
      ext_get_or 0 s t (p.size ∙ sym q.size)
      (λ i h.
      let w = in_place (i / 2) (omega (arith, p.size)) in
      on_eq (i % 2) 0
      (λ _ z. let y : 2 * (i / 2) ≡ i = omega arith in rw y at w.0)
      (λ _ z. let y : 2 * (i / 2) + 1 ≡ i = omega arith in rw y at w.1))
