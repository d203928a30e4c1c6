-- Events posted one after another in one memory, by a loop: the memory is always that of the events so far.
use Prim.Native.Nat.{ℕ, ◌+◌, ◌≤◌}
use mathlib.Core.Path.{◌≡◌, refl, sym, ap, ◌∙◌}
use mathlib.Core.Bool.{Bool, true, false, cond}
use mathlib.Core.List.{List, [], ◌∷◌, ◌++◌}
use native.Mathlib.Omega.{arith}
use lib.ListN.{length}
use Rattle.std.specs.Prelude.{None}
use Rattle.rules.specs.declared.Event.{Event}
use Rattle.rules.specs.Answer.{Answer}
use Rattle.account.specs.State.{fresh_words, passes, Fit}
use Rattle.account.specs.Post.{answer_to, words_after, Judges, Leaves}
use Rattle.account.proofs.Exits.{passed_fit, leaves_judged}
use Rattle.claim.specs.Run.{run, answers}
use Rattle.claim.specs.Claim.{accepts, refused_in, Ran}
use Rattle.claim.proofs.Demand.{demand_3}

-- ---- one more event at the end
pub run_more : (m : List ℕ) (xs : List Event) (e : Event) → run m (xs ++ (e ∷ [])) ≡ words_after (run m xs) e
run_more m [] e = refl
run_more m (x ∷ xs) e = run_more (words_after m x) xs e

refused_more : (m : List ℕ) (xs : List Event) (e : Event)
    → refused_in (answers m (xs ++ (e ∷ []))) ≡ refused_in (answers m xs) + cond (accepts (answer_to (run m xs) e)) 0 1
refused_more m [] e = omega arith
refused_more m (x ∷ xs) e = omega (arith, refused_more (words_after m x) xs e)

-- ---- the events `past` are posted: the memory, and how many were refused
pub record Walked (past : List Event) (m : List ℕ) (r : ℕ) : Type 0 where
  pub at : m ≡ run fresh_words past
  pub count : r ≡ refused_in (answers fresh_words past)

-- for the reader: a fresh account is where a walk begins
pub begin : (m : List ℕ) → m ≡ fresh_words → Walked [] m 0
begin m e = record { at = e; count = refl }

module _ (past : List Event) (m : List ℕ) (r : ℕ) (w : Walked past m r) where
  pub walked_passes : passes m ≡ true
  walked_passes = rw w.at (demand_3 None past tt).passing

  pub walked_fit : Fit m
  walked_fit = passed_fit m walked_passes

  -- no more are refused than were posted
  pub few : r ≤ length past
  few = omega (arith, w.count, (demand_3 None past tt).refused)

  pub ran : Ran m r past
  ran = record { words_are = w.at; refused_is = w.count; claim = rw w.at (demand_3 None past tt) }

  -- an event is posted as it would be in any memory
  pub walked_leaves : (e : Event) (a : Answer) (k : List ℕ) → length k ≡ length m → Judges m e a k → Leaves m e a k
  walked_leaves e a k l j = leaves_judged m e a k walked_passes l j

  pub one_more : (e : Event) (a : Answer) (k : List ℕ) (x : ℕ) → Leaves m e a k → x ≡ cond (accepts a) 0 1 → Walked (past ++ (e ∷ [])) k (r + x)
  one_more e a k x v z =
      let c : x ≡ cond (accepts (answer_to (run fresh_words past) e)) 0 1 = z
      ∙ ap {B = ℕ} (λ b. cond (accepts b) 0 1) (v.answer_is ∙ ap (λ n. answer_to n e) w.at) in
      record {
        at = v.words_are ∙ (ap (λ n. words_after n e) w.at ∙ sym (run_more fresh_words past e));
        count = omega (arith, w.count, c, refused_more fresh_words past e);
      }

pub one_at_most : (b : Bool) → cond b 0 1 ≤ 1
one_at_most true = omega arith
one_at_most false = omega arith
