-- A deposit becomes full only by a deposit paid, and while it is full none is paid: so the day of the newest paid is the day on
-- which a full deposit became full.
use Prim.Native.Nat.{ℕ, ◌+◌, ◌≤◌, ◌<◌, zero-le}
use mathlib.Core.Path.{◌≡◌, refl, sym, ◌∙◌}
use mathlib.Core.Bool.{true, false, cond, true≢false}
use mathlib.Core.List.{[], ◌∷◌}
use native.Mathlib.Omega.{arith}
use Rattle.basics.proofs.Cases.{on, on_eq}
use Rattle.std.specs.Prelude.{Option}
use Rattle.rules.specs.declared.Calendar.{Calendar}
use Rattle.rules.specs.declared.Event.{Event}
use Rattle.rules.specs.Kinds.{deposit_asked, deposit_paid}
use Rattle.rules.specs.Limits.{final_day}
use Rattle.rules.specs.History.{History, is}
use Rattle.rules.specs.Deposit.{moves, held, required, full, full_on}
use Rattle.rules.specs.Accepted.{view_of, Lawful}
use Rattle.rules.proofs.Sums.{total_since, newest_since}
use Rattle.rules.proofs.Ranged.{ranged}
use Rattle.rules.proofs.Passed.{Passed, passed}
use Rattle.rules.proofs.Bounds.{asked_over, paid_within}

-- the day of the newest deposit paid, 0 for none
abbrev pub paid_on : History → ℕ
paid_on [] = 0
paid_on (e ∷ h) = cond (is deposit_paid e) e.day (paid_on h)

pub paid_in : (c : Option Calendar) (h : History) → Lawful c h → paid_on h ≤ final_day
paid_in c [] w = zero-le
paid_in c (e ∷ h) w = on (is deposit_paid e) (λ q. rw q (passed h e w.0).in_time) (λ q. rw q (paid_in c h w.1))

-- ---- what full says
record Full (h : History) : Type 0 where
  some : 0 < required h
  all : held h ≡ required h

is_full_lem : (h : History) → full h ≡ true → Full h
is_full_lem h f = grind arith

module _ (c : Option Calendar) (h : History) (e : Event) (p : Passed c h e) where
  -- while it is full no deposit is paid
  none_paid : full h ≡ true → e.kind ≡ deposit_paid → ⊥
  none_paid f z =
      let k = is_full_lem h f in
      let a = paid_within (view_of c h e) e p.allowed.r7 z in
      let b = (ranged deposit_paid e p.fields_fit z).amount_low in
      omega arith

  -- no other event makes it full
  none_fills : full h ≡ false → is deposit_paid e ≡ false → full (e ∷ h) ≡ true → ⊥
  none_fills g y f =
      let k = is_full_lem (e ∷ h) f in
      let paid = total_since deposit_paid moves e h in
      let asked = newest_since deposit_asked moves e h in
      on (moves e)
      (λ m. let r : required (e ∷ h) ≡ 0 = rw (asked, m) in omega (arith, k.some))
      (λ m. on_eq e.kind deposit_asked
      (λ q z.
      let a = asked_over (view_of c h e) e p.allowed.r7 z in
      let s : held (e ∷ h) ≡ held h + 0 = rw (paid, m, y) in
      let r : required (e ∷ h) ≡ e.amount = rw (asked, m, q) in
      omega (arith, k.all))
      (λ q z.
      let s : held (e ∷ h) ≡ held h = rw (paid, m, y) (omega arith) in
      let r : required (e ∷ h) ≡ required h = rw (asked, m, q) in
      let u : full (e ∷ h) ≡ full h = rw (s, r) in
      true≢false (sym f ∙ (u ∙ g))))

pub full_is : (c : Option Calendar) (h : History) → Lawful c h → full h ≡ true → paid_on h ≡ full_on h
full_is c [] w f = refl
full_is c (e ∷ h) w f =
    let p = passed h e w.0 in
    on (full h)
    (λ g. on_eq e.kind deposit_paid
    (λ q z. absurd (none_paid c h e p g z))
    (λ q z. rw (g, q) (full_is c h w.1 g)))
    (λ g. on (is deposit_paid e)
    (λ q. rw (g, q))
    (λ q. absurd (none_fills c h e p g q f)))
