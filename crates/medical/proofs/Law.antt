-- The law of the part: after a lawful history it answers what the rules say.
use Prim.Native.Nat.{ℕ, ◌+◌, ◌≤◌, max, zero-le}
use mathlib.Core.Path.{◌≡◌}
use mathlib.Core.Bool.{Bool, true, false, cond, ◌&&◌, ◌||◌}
use mathlib.Core.List.{[], ◌∷◌}
use native.Mathlib.Omega.{arith}
use lib.Dec.{ltb}
use borrow.Author.Tests.{le-leb, le-ltb, eqb-true}
use Rattle.basics.proofs.Cases.{on}
use Rattle.std.proofs.lemmas.Bool.{cond_both}
use Rattle.std.specs.Prelude.{Option}
use Rattle.rules.specs.declared.Calendar.{Calendar}
use Rattle.rules.specs.declared.Event.{Event}
use Rattle.rules.specs.Kinds.{certificate, approval}
use Rattle.rules.specs.Limits.{final_day, certificate_days, approval_days}
use Rattle.rules.specs.History.{History, is, last_posted}
use Rattle.rules.specs.Medical.{covers, certified, approved}
use Rattle.rules.specs.Range.{fields_of}
use Rattle.rules.specs.Accepted.{Lawful}
use Rattle.rules.proofs.Days.{Sorted}
use Rattle.rules.proofs.Ranged.{ranged, longest_lem}
use Rattle.rules.proofs.Passed.{Passed, passed}
use Rattle.rules.proofs.Bounds.{sorted}
use Rattle.medical.specs.declared.Medical.{Medical}
use Rattle.medical.specs.Medical.{medical_of, certified_by, approved_by, medical_ok}

-- t comes before the later of two days where it comes before one of them
before_later : (t a b : ℕ) → ltb t (max a b) ≡ (ltb t b || ltb t a)
before_later t a b = grind arith

-- the same of x for a, where arithmetic shows that x is a, however it is written
before_kept : {x : ℕ} (t a b : ℕ) (u v : Bool) → x ≡ a → ltb t b ≡ u → ltb t a ≡ v → ltb t (max x b) ≡ (u || v)
before_kept t a b u v e f g = rw (e, before_later, f, g)

-- the day past the end that an event of a kind sets, against a day not before it
lasting : (k : Bool) (e : Event) (t : ℕ) → e.day ≤ t → ltb t (cond k (e.day + e.amount) 0) ≡ (k && covers e t)
unfolding covers
lasting true e t l = simp (le-leb e.day t l)
lasting false e t l = le-ltb t 0 zero-le

certified_is : (h : History) (t : ℕ) → Sorted h → last_posted h ≤ t → certified_by (medical_of h) t ≡ certified h t
unfolding medical_of
certified_is [] t s l = le-ltb t 0 zero-le
certified_is (e ∷ h) t s l =
    on (is certificate e)
    (λ q. rw q (before_kept t (medical_of h).certified_to _ _ _ (omega arith) (lasting true e t l) (certified_is h t s.1 (omega arith))))
    (λ q. rw q (before_kept t (medical_of h).certified_to _ _ _ (omega arith) (lasting false e t l) (certified_is h t s.1 (omega arith))))

approved_is : (h : History) (t : ℕ) → Sorted h → last_posted h ≤ t → approved_by (medical_of h) t ≡ approved h t
unfolding medical_of
approved_is [] t s l = le-ltb t 0 zero-le
approved_is (e ∷ h) t s l =
    on (is certificate e)
    (λ q. rw q (le-ltb t 0 zero-le))
    (λ q. rw (q, before_later, lasting (is approval e) e t l, approved_is h t s.1 (omega arith)))

-- ---- the test
-- the end that an accepted event of kind k sets, by the largest amount of the kind on the event's day
end_in : {c : Option Calendar} (k : ℕ) (h : History) (e : Event) → Passed c h e → cond (is k e) (e.day + e.amount) 0 ≤ final_day + (fields_of k e.day).amount_to
end_in k h e p =
    cond_both (is k e) (e.day + e.amount) 0 (λ n. n ≤ final_day + (fields_of k e.day).amount_to)
    (λ q. omega (arith, p.in_time, (ranged k e p.fields_fit (eqb-true e.kind k q)).amount_high))
    (λ q. zero-le)

record Ends (m : Medical) : Type 0 where
  certified_le : m.certified_to ≤ final_day + certificate_days
  approved_le : m.approved_to ≤ final_day + approval_days

ends : (c : Option Calendar) (h : History) → Lawful c h → Ends (medical_of h)
unfolding medical_of
ends c [] w = grind arith
ends c (e ∷ h) w =
    let k = ends c h w.1 in
    let r = end_in certificate h e (passed h e w.0) in
    let a = end_in approval h e (passed h e w.0) in
    record {
      certified_le = on (is certificate e) (λ q. rw q (omega (arith, k.certified_le, rw q at r, longest_lem e.day))) (λ q. rw q (omega (arith, k.certified_le)));
      approved_le = on (is certificate e) (λ q. rw q zero-le) (λ q. rw q (omega arith));
    }

-- ---- the law
pub record MedicalLaw (h : History) : Type 0 where
  pub certified_is : (t : ℕ) → last_posted h ≤ t → certified_by (medical_of h) t ≡ certified h t
  pub approved_is : (t : ℕ) → last_posted h ≤ t → approved_by (medical_of h) t ≡ approved h t
  pub passes : medical_ok (medical_of h) ≡ true

pub medical_law : (c : Option Calendar) (h : History) → Lawful c h → MedicalLaw h
medical_law c h w =
    let k = ends c h w in
    record {
      certified_is = λ t l. certified_is h t (sorted c h w) l;
      approved_is = λ t l. approved_is h t (sorted c h w) l;
      passes = rw (le-leb _ _ k.certified_le, le-leb _ _ k.approved_le);
    }
