-- The three newest notices and the newest disconnection say of the last 365 days what the whole history says.
use Prim.Native.Nat.{ℕ, ◌+◌, ◌-◌, ◌≤◌, min}
use mathlib.Core.Path.{◌≡◌, refl, sym}
use mathlib.Core.Bool.{Bool, true, false, cond, not, ◌&&◌}
use mathlib.Core.List.{[], ◌∷◌}
use native.Mathlib.Omega.{arith}
use lib.Dec.{leb}
use borrow.Author.Tests.{le-leb, lt-leb}
use Rattle.std.specs.List.{list_any}
use Rattle.basics.proofs.Cases.{on, absorb}
use Rattle.rules.specs.Limits.{conduct_days}
use Rattle.rules.specs.Kinds.{final_notice, disconnection}
use Rattle.rules.specs.History.{History, is, within, last_posted, count}
use Rattle.rules.specs.Deposit.{recent}
use Rattle.rules.proofs.Days.{Sorted}
use Rattle.deposit.specs.declared.Conduct.{Conduct}
use Rattle.deposit.specs.Conduct.{conduct_of, recent_by, quiet_by}

-- the notices, and some disconnection, of the 365 days up to t
abbrev pub notices : History → ℕ → ℕ
notices h t = count (λ e. is final_notice e && recent t e) h

abbrev pub was_cut : History → ℕ → Bool
was_cut h t = list_any (λ e. is disconnection e && recent t e) h

-- ---- a day that is kept as the day after it
recent_now : (d t : ℕ) → d ≤ t → within d (d + (conduct_days - 1)) t ≡ leb t (d + (conduct_days - 1))
unfolding within
recent_now d t l = grind arith

recent_more : (a b t : ℕ) → a ≤ b → recent_by a t ≡ true → recent_by b t ≡ true
unfolding recent_by
recent_more a b t l e = grind arith

recent_day : (d t : ℕ) → recent_by (d + 1) t ≡ leb t (d + (conduct_days - 1))
unfolding recent_by
recent_day d t = grind arith

recent_none : (t : ℕ) → recent_by 0 t ≡ false
unfolding recent_by
recent_none t = refl

-- ---- what is kept is in order, and not past the last day
pub record ConductKept (w : Conduct) (day : ℕ) : Type 0 where
  pub one : w.first ≤ day + 1
  pub two : w.second ≤ w.first
  pub three : w.third ≤ w.second
  pub cuts : w.cut ≤ day + 1

pub conduct_kept : (h : History) → Sorted h → ConductKept (conduct_of h) (last_posted h)
unfolding conduct_of
conduct_kept [] s = grind arith
conduct_kept (e ∷ h) s =
    let k = conduct_kept h s.1 in
    let cuts : (conduct_of (e ∷ h)).cut ≤ e.day + 1 = on (is disconnection e) (λ r. rw r (omega arith)) (λ r. rw r (omega arith)) in
    on (is final_notice e)
    (λ q. record { one = simp q (omega arith); two = simp q (omega arith); three = simp q (omega arith); cuts = cuts })
    (λ q. record { one = simp q (omega arith); two = simp q (omega arith); three = simp q (omega arith); cuts = cuts })

-- ---- counting: 1 for a kept day that is recent
ones : ℕ → ℕ → ℕ
ones m t = cond (recent_by m t) 1 0

ones_at_most : (m t : ℕ) → ones m t ≤ 1
unfolding ones
ones_at_most m t = grind arith

ones_more : (a b t : ℕ) → a ≤ b → ones a t ≤ ones b t
unfolding ones
ones_more a b t l = on (recent_by a t) (λ q. simp (q, recent_more a b t l q) (omega arith)) (λ q. simp q (omega arith))

ones_day : (d t : ℕ) → ones (d + 1) t ≡ cond (leb t (d + (conduct_days - 1))) 1 0
unfolding ones
ones_day d t = simp recent_day

ones_is : (m t : ℕ) (b : Bool) → recent_by m t ≡ b → ones m t ≡ cond b 1 0
unfolding ones
ones_is m t b q = simp q

counted : (h : History) (t : ℕ) → Sorted h → last_posted h ≤ t
    → min (notices h t) 3 ≡ ones (conduct_of h).first t + ones (conduct_of h).second t + ones (conduct_of h).third t
unfolding conduct_of
counted [] t s l = omega (arith, ones_is 0 t false (recent_none t))
counted (e ∷ h) t s l =
    let ih = counted h t s.1 (omega arith) in
    let k = conduct_kept h s.1 in
    on (is final_notice e)
    (λ q. simp (q, recent_now e.day t l, ← ones_day) (omega (
      arith,
      ones_at_most (e.day + 1) t,
      ones_more (conduct_of h).first (e.day + 1) t
          (omega arith),
      ones_more _ _ t k.two,
      ones_more _ _ t k.three,
    )))
    (λ q. simp q (omega arith))

notices_are : (h : History) (t : ℕ) → Sorted h → last_posted h ≤ t → not (recent_by (conduct_of h).third t) ≡ leb (notices h t) 2
notices_are h t s l =
    let n = counted h t s l in
    let k = conduct_kept h s in
    let two = ones_more _ _ t k.two in
    let three = ones_more _ _ t k.three in
    let one = ones_at_most (conduct_of h).first t in
    on (recent_by (conduct_of h).third t)
    (λ q. simp q (sym (lt-leb (notices h t) 2 (omega (arith, ones_is _ t true q)))))
    (λ q. simp q (sym (le-leb (notices h t) 2 (omega (arith, ones_is _ t false q)))))

cut_is : (h : History) (t : ℕ) → Sorted h → last_posted h ≤ t → recent_by (conduct_of h).cut t ≡ was_cut h t
unfolding conduct_of
cut_is [] t s l = recent_none t
cut_is (e ∷ h) t s l =
    let ih = cut_is h t s.1 (omega arith) in
    let k = conduct_kept h s.1 in
    on (is disconnection e)
    (λ q. simp (q, recent_now e.day t l, ← ih, ← recent_day) (sym (absorb _ _ (recent_more (conduct_of h).cut (e.day + 1) t (omega arith)))))
    (λ q. simp q ih)

pub quiet_is : (h : History) (t : ℕ) → Sorted h → last_posted h ≤ t → quiet_by (conduct_of h) t ≡ (leb (notices h t) 2 && not (was_cut h t))
quiet_is h t s l = rw (notices_are h t s l, cut_is h t s l)
