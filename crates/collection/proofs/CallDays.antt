-- Two days of calls say of a later day what all calls say.
use Prim.Native.Nat.{ℕ, ◌+◌, ◌-◌, ◌≤◌}
use mathlib.Core.Path.{◌≡◌, refl}
use mathlib.Core.Bool.{Bool, true, false, ◌&&◌, ◌||◌}
use mathlib.Core.List.{[], ◌∷◌}
use native.Mathlib.Omega.{arith}
use Rattle.basics.proofs.Cases.{on, on_eq, absorb}
use Rattle.rules.specs.declared.Event.{Event}
use Rattle.rules.specs.Kinds.{call}
use Rattle.rules.specs.Limits.{call_days}
use Rattle.rules.specs.History.{History, is, within, last_posted}
use Rattle.rules.specs.Notice.{called}
use Rattle.rules.proofs.Days.{Sorted}
use Rattle.collection.specs.declared.Calls.{Calls}
use Rattle.collection.specs.Collection.{calls_after, recent_by, called_by, collection_of}

recent_true : (m t : ℕ) → recent_by m t ≡ true → (1 ≤ m) × (m ≤ t) × (t ≤ m + (call_days - 1))
unfolding recent_by within
recent_true m t e = grind arith

recent_in : (m t : ℕ) → 1 ≤ m → m ≤ t → t ≤ m + (call_days - 1) → recent_by m t ≡ true
unfolding recent_by within
recent_in m t p q r = grind arith

-- the day after a call's day d, kept
recent_day : (d t : ℕ) → recent_by (d + 1) t ≡ within (d + 1) (d + call_days) t
unfolding recent_by within
recent_day d t = grind arith

or_twice : (a b : Bool) → (a || (a || b)) ≡ (a || b)
or_twice true b = refl
or_twice false b = refl

-- what is kept is in order, and not past the last day
pub record CallsKept (c : Calls) (day : ℕ) : Type 0 where
  pub newest : c.last ≤ day + 1
  pub older : c.earlier ≤ c.last - 1

kept_after : (c : Calls) (e : Event) (day : ℕ) → day ≤ e.day → CallsKept c day → CallsKept (calls_after c e) e.day
kept_after c e day l k = grind arith

pub calls_kept : (h : History) → Sorted h → CallsKept (collection_of h).calls (last_posted h)
unfolding collection_of
calls_kept [] s = grind arith
calls_kept (e ∷ h) s = kept_after (collection_of h).calls e (last_posted h) s.0 (calls_kept h s.1)

-- one event, without lists
step : (c : Calls) (e : Event) (day t : ℕ) → CallsKept c day → day ≤ e.day → e.day ≤ t
    → called_by (calls_after c e) t ≡ ((is call e && within (e.day + 1) (e.day + call_days) t) || called_by c t)
step c e day t k d l =
    on (is call e)
    (λ q. on_eq c.last (e.day + 1)
    (λ s z. simp (q, s) (simp (z, recent_day, or_twice)))
    (λ s z. simp (
      q,
      s,
      recent_day,
      absorb (recent_by c.last t) (recent_by c.earlier t) (λ b. recent_in _ _ (omega (arith, recent_true _ _ b)) (omega
          (arith, recent_true _ _ b)) (omega (arith, recent_true _ _ b))),
    )))
    (λ q. simp q)

pub called_is : (h : History) (t : ℕ) → Sorted h → last_posted h ≤ t → called_by (collection_of h).calls t ≡ called h t
unfolding recent_by collection_of
called_is [] t s l = refl
called_is (e ∷ h) t s l =
    cc (step (collection_of h).calls e (last_posted h) t (calls_kept h s.1) s.0 l, called_is h t s.1 (omega arith))
