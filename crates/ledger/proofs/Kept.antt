-- The ledger's steps on its open items, without histories: what joins, what is settled, and what each kind's step comes to.
use Prim.Native.Nat.{ℕ, suc, ◌+◌, ◌-◌, ◌≤◌, ◌<◌}
use mathlib.Core.Path.{◌≡◌, sym, ap, ◌∙◌}
use mathlib.Core.Bool.{true, false}
use mathlib.Core.List.{[], ◌∷◌, ◌++◌}
use native.Mathlib.Omega.{arith}
use lib.ListN.{length, length-set}
use borrow.Author.Tests.{ltb-true}
use Rattle.std.specs.List.{filter}
use Rattle.basics.proofs.Cases.{on_le, on_lt}
use Rattle.rules.specs.declared.Event.{Event}
use Rattle.rules.specs.Kinds.{payout}
use Rattle.rules.specs.History.{amount_if}
use Rattle.rules.specs.Limits.{most_open}
use Rattle.ledger.specs.Ring.{ring_size, upto_at, stored, items_from, closed_from, below_from}
use Rattle.ledger.specs.Ledger.{Ledger, credits_by, open_of, entered_in, credited_in, paid_from, settled, ledger_after, is_settled}
use Rattle.ledger.proofs.Ring.{is_open, Chained, ring_joined, chain_join, left_open, left_chained, closed_in, closed_again, below_again, many}
use Rattle.ledger.proofs.Turns.{done, stop, pass}

-- a ring of 64 places that holds the open items, whose sums rise to C
pub record Formed (l : Ledger) : Type 0 where
  pub size : length l.ring ≡ ring_size
  pub closed_le : l.closed ≤ l.made
  pub chain : Chained l.below l.charged (open_of l)

pub kept_count : (l : Ledger) → length (open_of l) ≡ l.made - l.closed
kept_count l = many (l.made - l.closed) l.closed l.below l.ring

-- ---- one more item
module _ (l : Ledger) (f : Formed l) (d a : ℕ) (r : l.made - l.closed < most_open) where
  pub enter_open : open_of (entered_in l d a) ≡ open_of l ++ (record { day = d; amount = a; upto = l.charged + a } ∷ [])
  enter_open =
      let n = l.made - l.closed in
      let y : l.made + 1 - l.closed ≡ suc n = omega (arith, f.closed_le) in
      let z : l.made ≡ l.closed + n = omega (arith, f.closed_le) in
      ap (λ m. items_from m l.closed l.below (stored l.ring l.made d (l.charged + a))) y
      ∙ ap (λ m. items_from (suc n) l.closed l.below (stored l.ring m d (l.charged + a))) z
      ∙ ring_joined n l.closed l.below l.charged l.ring d a f.size r f.chain

  pub enter_formed : 0 < a → Formed (entered_in l d a)
  enter_formed q =
      record {
        size = simp length-set f.size;
        closed_le = omega (arith, f.closed_le);
        chain = rw enter_open (chain_join l.below l.charged d a (open_of l) q f.chain);
      }

-- ---- what is paid
module _ (l : Ledger) (c : l.closed ≤ l.made) where
  left : l.closed + (l.made - l.closed) ≡ l.made
  left = omega arith

  pub settle_open : Chained l.below l.charged (open_of l) → open_of (settled l) ≡ filter (is_open (credits_by l)) (open_of l)
  settle_open e =
      ap (λ m. items_from (m - (settled l).closed) (settled l).closed (settled l).below l.ring) (sym left)
      ∙ left_open (credits_by l) l.charged l.ring (l.made - l.closed) l.closed l.below e

  pub settle_chain : Chained l.below l.charged (open_of l) → Chained (settled l).below l.charged (open_of (settled l))
  settle_chain e = rw left at (left_chained (credits_by l) l.charged l.ring (l.made - l.closed) l.closed l.below e)

  -- it closes none that was not made, and opens none
  pub settle_in : (l.closed ≤ (settled l).closed) × ((settled l).closed ≤ l.made)
  settle_in =
      let i = closed_in (l.made - l.closed) l.closed (credits_by l) l.ring in
      (i.0, omega (arith, i.1, left))

  -- once settled, it stays so while credits do not rise
  settled_again : (p : ℕ) → p ≤ credits_by l
      → (closed_from (l.made - (settled l).closed) (settled l).closed p l.ring ≡ (settled l).closed)
      × (below_from (l.made - (settled l).closed) (settled l).closed (settled l).below p l.ring ≡ (settled l).below)
  settled_again p h =
      let n = l.made - l.closed in
      let z = ap (λ m. m - (settled l).closed) (sym left) in (
        ap (λ m. closed_from m (settled l).closed p l.ring) z ∙ closed_again (credits_by l) p l.ring h n l.closed,
        ap (λ m. below_from m (settled l).closed (settled l).below p l.ring) z ∙ below_again (credits_by l) p l.ring h n l.closed l.below,
      )

  pub settle_twice : settled (settled l) ≡ settled l
  settle_twice =
      let a = settled_again (credits_by l) (omega arith) in
      λ i. record { charged = l.charged; credited = l.credited; paid_out = l.paid_out; made = l.made; closed = a.0 i; below = a.1 i; ring = l.ring }

pub settle_formed : (l : Ledger) → Formed l → Formed (settled l)
settle_formed l f = record { size = f.size; closed_le = (settle_in l f.closed_le).1; chain = settle_chain l f.closed_le f.chain }

abbrev with : Ledger → (d o k b : ℕ) → Ledger
with l d o k b = record { charged = l.charged; credited = d; paid_out = o; made = l.made; closed = k; below = b; ring = l.ring }

-- ---- the first open item tells whether there is anything to settle
module _ (l : Ledger) where
  rests : ((settled l).closed ≡ l.closed) × ((settled l).below ≡ l.below) → settled l ≡ l
  rests e = λ i. with l l.credited l.paid_out (e.0 i) (e.1 i)

  pub still_settled : is_settled l ≡ true → settled l ≡ l
  still_settled e =
      on_le l.made l.closed
      (λ q h. let z = done l.made l.closed (credits_by l) l.below l.ring h in rests (z.0, z.1))
      (λ q h. rests (stop l.made l.closed (credits_by l) l.below l.ring h (ltb-true (credits_by l) (upto_at l.ring l.closed) (rw q at e))))

  pub settled_still : settled l ≡ l → is_settled l ≡ true
  settled_still e =
      on_le l.made l.closed
      (λ q h. rw q)
      (λ q h. on_lt (credits_by l) (upto_at l.ring l.closed)
      (λ r m. rw (q, r))
      (λ r m.
      let z = (pass l.made l.closed (credits_by l) l.below l.ring h m).0 in
      let i = (closed_in (l.made - (l.closed + 1)) (l.closed + 1) (credits_by l) l.ring).0 in
      absurd (omega (arith, z, i, ap (λ k. k.closed) e))))

-- ---- the step by kind: an event of which the ledger keeps nothing leaves it, and a payout closes nothing
no_credit_in : (l : Ledger) → credited_in l 0 ≡ l
no_credit_in l = let z : l.credited + 0 ≡ l.credited = omega arith in λ i. with l (z i) l.paid_out l.closed l.below

no_payout_in : (l : Ledger) → paid_from l 0 ≡ l
no_payout_in l = let z : l.paid_out + 0 ≡ l.paid_out = omega arith in λ i. with l l.credited (z i) l.closed l.below

-- a payout closes nothing
payout_settled : (l : Ledger) → l.closed ≤ l.made → settled l ≡ l → (o : ℕ) → settled (paid_from l o) ≡ paid_from l o
payout_settled l c s o =
    let a = settled_again l c (l.credited - (l.paid_out + o)) (omega arith) in
    let k = ap (λ m. m.closed) s in
    let b = ap (λ m. m.below) s in
    λ i. with l l.credited (l.paid_out + o) ((rw k at a.0) i) ((rw (k, b) at a.1) i)

module _ (l : Ledger) (e : Event) where
  pub charge_step : amount_if payout e ≡ 0 → (c : ℕ) → ledger_after l e true c 0 ≡ settled (entered_in l e.day c)
  unfolding ledger_after
  charge_step z c = rw z (ap settled (no_payout_in (credited_in (entered_in l e.day c) 0) ∙ no_credit_in (entered_in l e.day c)))

  pub credit_step : amount_if payout e ≡ 0 → (c k : ℕ) → ledger_after l e false c k ≡ settled (credited_in l k)
  unfolding ledger_after
  credit_step z c k = rw z (ap settled (no_payout_in (credited_in l k)))

  module _ (f : l.closed ≤ l.made) (s : settled l ≡ l) (c : ℕ) where
    pub payout_step : ledger_after l e false c 0 ≡ paid_from l (amount_if payout e)
    unfolding ledger_after
    payout_step = ap (λ m. settled (paid_from m (amount_if payout e))) (no_credit_in l) ∙ payout_settled l f s (amount_if payout e)

    pub no_step : amount_if payout e ≡ 0 → ledger_after l e false c 0 ≡ l
    no_step z = payout_step ∙ (ap (paid_from l) z ∙ no_payout_in l)
