-- The law of the part: after a lawful history it answers what the rules say.
use Prim.Native.Nat.{ℕ, ◌+◌, ◌≤◌}
use mathlib.Core.Path.{◌≡◌, refl, sym}
use mathlib.Core.Bool.{Bool, true, cond}
use mathlib.Core.List.{[], ◌∷◌}
use native.Mathlib.Omega.{arith}
use borrow.Author.Tests.{le-leb}
use Rattle.std.specs.Prelude.{Option}
use Rattle.rules.specs.declared.Calendar.{Calendar}
use Rattle.rules.specs.declared.Service.{Service}
use Rattle.rules.specs.declared.Service.TheVariants.{On, Off, Closed}
use Rattle.rules.specs.Kinds.{disconnection, reconnection, closing}
use Rattle.rules.specs.Limits.{final_day}
use Rattle.rules.specs.History.{History, is, last_posted}
use Rattle.rules.specs.Service.{service}
use Rattle.rules.specs.Notice.{notice_live, notice_in_days, called}
use Rattle.rules.specs.Accepted.{Lawful}
use Rattle.rules.proofs.Bounds.{sorted, in_days}
use Rattle.collection.specs.Collection.{service_by, live_by, in_days_by, called_by, collection_of, collection_ok}
use Rattle.collection.proofs.CallDays.{calls_kept, called_is}
use Rattle.collection.proofs.NewestNotice.{alone, day_past, all_days, all_days_shut, waited_days, waited_days_shut, surviving_is}

-- one event, without lists: off, on, closed, or as before
words_are : (d r c : Bool) (n : ℕ) (s : Service) → service_by n ≡ s → service_by (cond d 1 (cond r 0 (cond c 2 n))) ≡ cond d Off (cond r On (cond c Closed s))
words_are d r c n s q = grind arith

service_is : (h : History) → service_by (collection_of h).service ≡ service h
unfolding collection_of
service_is [] = refl
service_is (e ∷ h) = words_are (is disconnection e) (is reconnection e) (is closing e) (collection_of h).service (service h) (service_is h)

words_in : (d r c : Bool) (n : ℕ) → n ≤ 2 → cond d 1 (cond r 0 (cond c 2 n)) ≤ 2
words_in d r c n l = grind arith

service_in_lem : (h : History) → (collection_of h).service ≤ 2
unfolding collection_of
service_in_lem [] = omega arith
service_in_lem (e ∷ h) = words_in (is disconnection e) (is reconnection e) (is closing e) (collection_of h).service (service_in_lem h)

live_in : (h : History) → (collection_of h).notice.live ≤ 1
unfolding collection_of
live_in [] = omega arith
live_in (e ∷ h) = grind arith

pub record CollectionLaw (c : Option Calendar) (h : History) : Type 0 where
  pub service_is : service_by (collection_of h).service ≡ service h
  pub live_is : (t : ℕ) → last_posted h ≤ t → live_by (collection_of h).notice t ≡ notice_live h t
  pub in_days_is : (t : ℕ) → last_posted h ≤ t → in_days_by c (collection_of h).notice t ≡ notice_in_days c h t
  pub called_is : (t : ℕ) → last_posted h ≤ t → called_by (collection_of h).calls t ≡ called h t
  pub passes : collection_ok (collection_of h) ≡ true

pub collection_law : (c : Option Calendar) (h : History) → Lawful c h → CollectionLaw c h
collection_law c h w =
    let s = sorted c h w in
    let k = calls_kept h s in
    let d = in_days c h w in
    record {
      service_is = service_is h;
      live_is = λ t l. sym (surviving_is all_days all_days_shut h t s (alone c h w) l);
      in_days_is = λ t l. sym (surviving_is (waited_days c) (waited_days_shut c) h t s (alone c h w) l);
      called_is = λ t l. called_is h t s l;
      passes = simp (
        le-leb (collection_of h).service 2 (service_in_lem h),
        le-leb (collection_of h).notice.live 1 (live_in h),
        le-leb
            (collection_of h).notice.day final_day (omega (arith, day_past h s)),
        le-leb (collection_of h).calls.last (final_day + 1) (omega arith),
        le-leb
            (collection_of h).calls.earlier (collection_of h).calls.last (omega arith),
      );
    }
