-- What the search proves all questions by: what is asked of k, which the test made of the memory m, where P is what the code says of it.
use Rattle.std.proofs.Common.{ℕ, ◌≡◌, refl, ap, ◌∙◌, true, false, List, Result, Ok, Err, MatchResult, IsOkAnd}
use Rattle.basics.proofs.Cases.{on}
use Rattle.rules.specs.declared.refusals.Refusal.{Refusal}
use Rattle.rules.specs.declared.refusals.Refusal.TheVariants.{NoAccount}
use Rattle.rules.proofs.Numbered.{answered_err}
use Rattle.account.specs.State.{State, state_on, passes}
use Rattle.account.specs.declared.known.Known.{Known}
use Rattle.questions.specs.Questions.{asked_of, day_refusal_by, told_on}

module _ (m : List ℕ) {A : Type 0} (ask : State → A) where
  pub asked_is : (none : A) (k : Result Known Refusal) {r : A} {P : Known → Type 0}
      → MatchResult k (λ a. (a.words.now ≡ m) × (passes m ≡ true)) (λ e. (passes m ≡ false) × (e ≡ NoAccount))
      → MatchResult k P (λ _. r ≡ none)
      → ((a : Known) → P a → r ≡ ask (state_on a.words.now))
      → r ≡ asked_of m ask none
  unfolding asked_of
  asked_is none (Ok a) s e f = rw (s.1, f a e) (ap (λ w. ask (state_on w)) s.0)
  asked_is none (Err x) s e f = rw (s.0, e) refl

  -- for day t
  pub told_is : (t : ℕ) (k : Result Known Refusal) (r : Result A Refusal) {P : Known → A → Type 0}
      → MatchResult k (λ a. (a.words.now ≡ m) × (passes m ≡ true) × (day_refusal_by (state_on m) t ≡ 0)) (λ e. Err e ≡ told_on m t (λ s. s.last))
      → MatchResult k (λ a. IsOkAnd r (P a)) (λ e. r ≡ Err e)
      → ((a : Known) (x : A) → P a x → x ≡ ask (state_on a.words.now))
      → r ≡ told_on m t ask
  unfolding asked_of
  told_is t (Ok a) (Ok x) s e f =
      let told : x ≡ ask (state_on m) = f a x e ∙ ap (λ w. ask (state_on w)) s.0 in
      rw (s.1, s.2) (ap Ok told)
  told_is t (Ok a) (Err x) s e f = absurd e
  told_is t (Err x) r s e f =
      e
      ∙ on (passes m)
      (λ q. rw q (answered_err (day_refusal_by (state_on m) t) x _ (ask (state_on m)) (rw q at s)).1)
      (λ q. let none : Err x ≡ Err NoAccount = rw q at s in let same : x ≡ NoAccount = cc in rw (q, same) refl)
