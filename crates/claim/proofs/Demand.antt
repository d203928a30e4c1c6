-- Demand 3 holds of every list of events.
use Prim.Native.Nat.{ℕ, ◌+◌}
use mathlib.Core.Path.{◌≡◌, refl, ap, ◌∙◌}
use mathlib.Core.Bool.{Bool, true, false, cond, true≢false}
use mathlib.Core.List.{List, [], ◌∷◌, map}
use native.Mathlib.Omega.{arith}
use lib.Dec.{eqb}
use lib.ListN.{length}
use Rattle.std.proofs.lemmas.List.{map-id}
use Rattle.basics.proofs.Cases.{on}
use Rattle.std.specs.Prelude.{Option}
use Rattle.rules.specs.declared.Event.{Event}
use Rattle.rules.specs.declared.Calendar.{Calendar}
use Rattle.rules.specs.Workdays.{Taken}
use Rattle.std.proofs.Common.{Ok, Err}
use Rattle.rules.specs.declared.refusals.Refusal.{Refusal}
use Rattle.rules.specs.Answer.{Answer}
use Rattle.rules.specs.History.{History}
use Rattle.rules.specs.Accepted.{refusal, offered, accepted_after, accepted, Lawful, answers_after, cut_on}
use Rattle.rules.proofs.Lawful.{accepted_lawful, numbers_are, receipts_are, money}
use Rattle.rules.proofs.Cut.{cut_exact}
use Rattle.account.specs.State.{state_on, words_of, begun_words, account_of, passes}
use Rattle.account.specs.Post.{refusal_at, answer_at, state_after, answer_to, words_after, Leaves}
use Rattle.account.proofs.Words.{account_whole}
use Rattle.account.proofs.Exits.{passed_size}
use Rattle.questions.proofs.Laws.{laws}
use Rattle.questions.proofs.Told as told
use Rattle.claim.specs.Run.{run, answers, LeftBy}
use Rattle.claim.specs.Claim.{accepts, refused_in, ClaimOf, Claim, LeftClaim}
use Rattle.claim.proofs.Compose.{answer_found, run_same, answers_same, begun_is}

-- an answer accepts exactly where no number refuses
accepts_is : (b : Bool) (r : ℕ) (n : Refusal) → accepts (cond {A = Answer} b (Ok r) (Err n)) ≡ b
accepts_is true r n = refl
accepts_is false r n = refl

-- an event is refused, or is one more accepted
refused_count : (c : Option Calendar) (h : History) (es : List Event)
    → refused_in (answers_after c h es) + length (accepted_after c h es) ≡ length h + length es
refused_count c h [] = omega arith
refused_count c h (e ∷ es) =
    let ih = refused_count c (offered c h e) es in
    on (eqb (refusal c h e) 0)
    (λ q. rw q (omega (arith, rw q at ih)))
    (λ q. rw q (omega (arith, rw q at ih)))

-- of the account that lawful events make
claim_of : (c : Option Calendar) → Taken c → (es : List Event) (h : History) → Lawful c h
    → refused_in (answers_after c [] es) + length h ≡ length es
    → ClaimOf c (words_of (account_of c h)) (answers_after c [] es) es h
claim_of c t es h w n =
    let k = laws c t h w in
    record {
      answered = refl;
      numbered = numbers_are c [] es;
      receipted = receipts_are c [] es;
      refused = n;
      owing = told.owed_is c h k;
      holding = told.held_is c h k;
      requiring = told.required_is c h k;
      open_days = told.open_days c h k;
      open_parts = told.open_parts c h k;
      counting = told.count_is c h k;
      serving = told.service_is c h k;
      counted = told.counted_is c h k;
      dues = told.arrears_are c h k;
      arranged = told.in_force_is c h k;
      noticed = told.notice_is c h k;
      certificated = told.certified_is c h k;
      money = rw (told.owed_is c h k, told.held_is c h k) (money c h w);
      would = λ e. answer_found c t h e w;
      cuts = λ d p q. ap accepts (answer_found c t h (cut_on d) w) ∙ (accepts_is (eqb (refusal c h (cut_on d)) 0) _ _ ∙ cut_exact c h d p q);
      passing = k.passing;
      words = refl;
    }

-- DEMAND 3
pub demand_3 : (c : Option Calendar) (es : List Event) → Claim c es
demand_3 c es t =
    rw (begun_is c, run_same c t [] es tt, answers_same c t [] es tt)
    (claim_of c t es (accepted c es) (accepted_lawful c es) (refused_count c [] es ∙ omega arith))

-- ---- the same of memory that is lent for each posting
-- each posting is as a contract R says it, which tells the answer by a word: what is left and told is what the same list gives, run
module _ {S : Type 0} (word : Answer → S) (R : List ℕ → Event → S → List ℕ → Type 0)
    (parts : (m : List ℕ) (e : Event) (s : S) (k : List ℕ) → R m e s k → (s ≡ word (answer_to m e)) × (k ≡ words_after m e)) where
  pub as_run : (m : List ℕ) (es : List Event) (said : List S) (z : List ℕ) → LeftBy R m es said z → (z ≡ run m es) × (said ≡ map word (answers m es))
  as_run m [] [] z h = (h, refl)
  as_run m [] (s ∷ said) z h = absurd h
  as_run m (e ∷ es) [] z h = absurd h
  as_run m (e ∷ es) (s ∷ said) z h =
      let p = parts m e s h.0 h.1.0 in
      let t = as_run h.0 es said z h.1.1 in
      (t.0 ∙ ap (λ c. run c es) p.1, rw (p.0, t.1, p.1))

pub demand_3_left : (c : Option Calendar) (es : List Event) (said : List Answer) (z : List ℕ) → LeftClaim c es said z
demand_3_left c es said z t h =
    let r = as_run (λ a. a) Leaves (λ m e s k v. (v.answer_is, v.words_are)) (begun_words c) es said z h in
    rw (r.0, r.1, map-id (answers (begun_words c) es)) (demand_3 c es t)

-- every list can be posted so
pub any_list : (m : List ℕ) (es : List Event) → LeftBy Leaves m es (answers m es) (run m es)
any_list m [] = refl
any_list m (e ∷ es) = (words_after m e, (record { answer_is = refl; words_are = refl }, any_list (words_after m e) es))

-- ---- demand 1: a refused event leaves any memory as it was, also what is no account
refused_state : (m : List ℕ) (e : Event) → accepts (answer_at (state_on m) e) ≡ false → state_after (state_on m) e ≡ state_on m
unfolding answer_at state_after
refused_state m e h = on (eqb (refusal_at (state_on m) e) 0) (λ q. absurd (true≢false (rw q at h))) (λ q. rw q refl)

pub refused_leaves : (m : List ℕ) (e : Event) → accepts (answer_to m e) ≡ false → words_after m e ≡ m
unfolding answer_to words_after
refused_leaves m e h =
    on (passes m)
    (λ q. rw q (ap words_of (refused_state m e (rw q at h)) ∙ account_whole m (passed_size m q)))
    (λ q. rw q refl)
