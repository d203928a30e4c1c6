-- The newest notice, kept with a flag, says of a later day what all notices say.
use Prim.Native.Nat.{ℕ, ◌+◌, ◌≤◌}
use mathlib.Core.Path.{◌≡◌, refl, sym, ◌∙◌}
use mathlib.Core.Bool.{Bool, true, false, cond, not, ◌&&◌, ◌||◌, true≢false}
use mathlib.Core.List.{[], ◌∷◌}
use native.Mathlib.Omega.{arith}
use lib.Dec.{leb, eqb}
use borrow.Author.Tests.{eqb-true, leb-true}
use Rattle.std.specs.Prelude.{Option}
use Rattle.std.proofs.lemmas.Bool.{and_from, and_parts, false_from_ne_true}
use Rattle.basics.proofs.Cases.{on}
use Rattle.rules.specs.declared.Calendar.{Calendar}
use Rattle.rules.specs.Kinds.{final_notice, disconnection}
use Rattle.rules.specs.History.{History, is, within, last_posted}
use Rattle.rules.specs.Money.{arrears}
use Rattle.rules.specs.Limits.{enough, notice_to}
use Rattle.rules.specs.Workdays.{waited}
use Rattle.rules.specs.Notice.{surviving, notice_live}
use Rattle.rules.specs.Accepted.{Lawful}
use Rattle.rules.proofs.Days.{Sorted, within_true, within_in}
use Rattle.rules.proofs.Passed.{passed}
use Rattle.collection.specs.declared.Notice.{Notice}
use Rattle.collection.specs.Collection.{collection_of}

-- W n t says whether a notice of day n counts on day t; whatever it asks, none does after n + 20
abbrev pub Shuts : (ℕ → ℕ → Bool) → Type 0
Shuts W = (n t : ℕ) → W n t ≡ true → t ≤ n + notice_to

-- a live notice counts on all its days
abbrev pub all_days : ℕ → ℕ → Bool
all_days n t = within n (n + notice_to) t

pub all_days_shut : Shuts all_days
all_days_shut n t w = (within_true n (n + notice_to) t w).1

-- for a disconnection on those on which it has waited
abbrev pub waited_days : Option Calendar → ℕ → ℕ → Bool
waited_days c n t = leb t (n + notice_to) && waited c n t

pub waited_days_shut : (c : Option Calendar) → Shuts (waited_days c)
waited_days_shut c n t w = leb-true t (n + notice_to) (and_parts (leb t (n + notice_to)) (waited c n t) w).0

-- a notice that is not live on a day counts on no later day
gone : (W : ℕ → ℕ → Bool) → Shuts W → (n : Notice) (b : Bool) (d t : ℕ) → (eqb n.live 1 && all_days n.day d) ≡ false
    → b ≡ (eqb n.live 1 && W n.day t) → n.day ≤ d → d ≤ t → b ≡ false
gone W shuts n b d t off e p l =
    e ∙ false_from_ne_true _ (λ on.
    let w = shuts n.day t (and_parts (eqb n.live 1) _ on).1 in
    true≢false (sym (and_from (eqb n.live 1) _ (and_parts (eqb n.live 1) _ on).0 (within_in n.day (n.day + notice_to) d p (omega arith))) ∙ off))

-- no notice is given while one is live
abbrev pub Alone : History → Type 0
Alone [] = Unit {0}
Alone (e ∷ h) = (e.kind ≡ final_notice → notice_live h e.day ≡ false) × Alone h

pub alone : (c : Option Calendar) (h : History) → Lawful c h → Alone h
alone c [] w = tt
alone c (e ∷ h) w = (λ z. rw z at (passed h e w.0).allowed.r11, alone c h w.1)

pub day_past : (h : History) → Sorted h → (collection_of h).notice.day ≤ last_posted h
unfolding collection_of
day_past [] s = omega arith
day_past (e ∷ h) s =
    let k = day_past h s.1 in
    on (is final_notice e) (λ q. simp q (omega arith)) (λ q. simp q (omega arith))

-- a mark, kept as a word
mark : (b : Bool) → eqb (cond b 1 0) 1 ≡ b
mark true = refl
mark false = refl

-- one event, without lists: a new notice where n, else the one kept
step : (n a b s live : Bool) (W : ℕ → Bool) (d day : ℕ) → (n ≡ true → s ≡ false) → s ≡ (live && W day)
    → ((((n && W d) || s) && a) && b) ≡ ((((n || live) && a) && b) && W (cond n d day))
step true a b s live W d day o q = grind arith
step false a b s live W d day o q = grind arith

-- the one law of both questions, for whatever days a notice counts on
pub surviving_is : (W : ℕ → ℕ → Bool) → Shuts W → (h : History) (t : ℕ) → Sorted h → Alone h → last_posted h ≤ t
    → surviving (λ n. W n t) h ≡ (eqb (collection_of h).notice.live 1 && W (collection_of h).notice.day t)
unfolding collection_of
surviving_is W shuts [] t s a l = refl
surviving_is W shuts (e ∷ h) t s a l =
    let n = (collection_of h).notice in
    let was = surviving (λ n. W n t) h in
    let ih = surviving_is W shuts h t s.1 a.1 (omega arith) in
    let now = surviving_is all_days all_days_shut h e.day s.1 a.1 s.0 in
    rw mark
    (step (is final_notice e) (not (is disconnection e)) (leb enough (arrears (e ∷ h) e.day)) was (eqb n.live 1) (λ n. W n t) e.day n.day
    (λ q. gone W shuts n was e.day t (sym now ∙ a.0 (eqb-true e.kind final_notice q)) ih (omega (arith, day_past h s.1)) l)
    ih)
