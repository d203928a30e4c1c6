-- The account that a history makes answers as the history, and stays the account of the history when it steps.
use Prim.Native.Nat.{◌-◌, ◌≤◌}
use mathlib.Core.Path.{◌≡◌, refl, sym, ap, ◌∙◌}
use mathlib.Core.List.{List, [], ◌∷◌, ◌++◌, append-nil}
use lib.ListN.{take}
use native.Mathlib.Omega.{arith}
use lib.Dec.{eqb}
use borrow.Author.Tests.{eq-eqb, eqb-true}
use Rattle.basics.proofs.Cases.{on, on_lt}
use Rattle.std.specs.Prelude.{Option, Some, None}
use Rattle.rules.specs.declared.Event.{Event}
use Rattle.rules.specs.declared.Calendar.{Calendar}
use Rattle.rules.specs.Workdays.{in_calendar, Taken}
use Rattle.rules.specs.Kinds.{payment}
use Rattle.rules.specs.History.{History, is, last_posted}
use Rattle.rules.specs.Accepted.{view_of, refusal, offered, accepted_after, Lawful, receipt_after, answer, answers_after}
use Rattle.rules.proofs.Sums.{receipts}
use Rattle.rules.proofs.Passed.{passed}
use Rattle.rules.proofs.Lawful.{offered_lawful}
use Rattle.ledger.specs.Ledger.{ledger_of}
use Rattle.receipts.specs.Receipts.{receipts_of}
use Rattle.deposit.specs.Deposit.{deposit_of}
use Rattle.collection.specs.Collection.{in_days_by, collection_of}
use Rattle.medical.specs.Medical.{medical_of}
use Rattle.arrangement.specs.Arrangement.{arrangement_of}
use Rattle.workdays.specs.Kept.{workdays_size, workdays_words, workdays_of}
use Rattle.account.specs.State.{account_size, words_of, fresh_words, begun_words, view, applied, account_of}
use Rattle.account.specs.Post.{refusal_at, receipt_at, answer_at, state_after, answer_to, words_after}
use Rattle.claim.specs.Run.{run, answers}
use Rattle.questions.proofs.Laws.{Laws, laws}

-- ---- the account's View is the history's, on a day not before its last event
view_same : (c : Option Calendar) (h : History) (e : Event) → Laws c h → last_posted h ≤ e.day → view (account_of c h) e ≡ view_of c h e
unfolding view
view_same c h e k l = λ i. record {
  service = k.on_collection.service_is i;
  charged = k.on_ledger.charged_is i;
  credited = k.on_ledger.credited_is i;
  credits = k.on_ledger.credits_is i;
  payment = k.on_receipts.payment_is e.option e.amount i;
  held = k.on_deposit.held_is i;
  required = k.on_deposit.required_is i;
  earned = k.on_deposit.earned_is e.day l i;
  arrears = k.on_ledger.arrears_are e.day i;
  in_force = k.on_arrangement.in_force_is e.day i;
  notice_live = k.on_collection.live_is e.day l i;
  notice_in_days = (ap (λ d. in_days_by d (collection_of h).notice e.day) k.calendar_is ∙ k.on_collection.in_days_is e.day l) i;
  in_calendar = ap (λ d. in_calendar d e.day) k.calendar_is i;
  called = k.on_collection.called_is e.day l i;
  certified = k.on_medical.certified_is e.day l i;
  approved = k.on_medical.approved_is e.day l i;
  open_count = k.on_ledger.count_is i;
}

-- an event before the last day is refused without a look at the View
refusal_same : (c : Option Calendar) (h : History) (e : Event) → Laws c h → refusal_at (account_of c h) e ≡ refusal c h e
unfolding refusal_at
refusal_same c h e k =
    on_lt e.day (last_posted h)
    (λ q l. rw q)
    (λ q l. rw (view_same c h e k l))

-- ---- one event accepted: the parts step together as they step alone
step : (c : Option Calendar) (h : History) (e : Event) → Laws c (e ∷ h) → applied (account_of c h) e (view_of c h e) ≡ account_of c (e ∷ h)
unfolding applied ledger_of receipts_of deposit_of collection_of medical_of arrangement_of
step c h e k = rw (k.on_ledger.arrears_are e.day)

receipt_same : (c : Option Calendar) (h : History) (e : Event) → Laws c h → receipt_at (account_of c h) e ≡ receipt_after h e
receipt_same c h e k = on (is payment e) (λ q. rw (q, k.on_receipts.count_is e.option, eq-eqb e.option e.option refl) (omega (arith, receipts e.option h))) (λ q. rw q)

answer_same : (c : Option Calendar) (h : History) (e : Event) → Laws c h → answer_at (account_of c h) e ≡ answer c h e
unfolding answer_at
answer_same c h e k = rw (refusal_same c h e k, receipt_same c h e k)

state_same : (c : Option Calendar) → Taken c → (h : History) (e : Event) → Lawful c h → state_after (account_of c h) e ≡ account_of c (offered c h e)
unfolding state_after
state_same c t h e w =
    let k = laws c t h w in
    rw (refusal_same c h e k)
    (on (eqb (refusal c h e) 0)
    (λ q.
    let z : refusal c h e ≡ 0 = eqb-true (refusal c h e) 0 q in
    rw (q, view_same c h e k (passed h e z).in_order, step c h e (laws c t (e ∷ h) (z, w))))
    (λ q. rw q))

-- ---- one event posted in the memory of a history
module _ (c : Option Calendar) (t : Taken c) (h : History) (e : Event) (w : Lawful c h) where
  pub answer_found : answer_to (words_of (account_of c h)) e ≡ answer c h e
  unfolding answer_to
  answer_found = let k = laws c t h w in rw (k.passing, k.account_is) (answer_same c h e k)

  pub words_found : words_after (words_of (account_of c h)) e ≡ words_of (account_of c (offered c h e))
  unfolding words_after
  words_found = let k = laws c t h w in rw (k.passing, k.account_is) (ap words_of (state_same c t h e w))

-- ---- a list of events: the account is that of the accepted ones, and the answers are those of the events alone
pub run_same : (c : Option Calendar) → Taken c → (h : History) (es : List Event) → Lawful c h → run (words_of (account_of c h)) es ≡ words_of (account_of c (accepted_after c h es))
run_same c t h [] w = refl
run_same c t h (e ∷ es) w = rw (words_found c t h e w) (run_same c t (offered c h e) es (offered_lawful c h e w))

pub answers_same : (c : Option Calendar) → Taken c → (h : History) (es : List Event) → Lawful c h → answers (words_of (account_of c h)) es ≡ answers_after c h es
answers_same c t h [] w = refl
answers_same c t h (e ∷ es) w =
    ap (λ m. answer_to (words_of (account_of c h)) e ∷ answers m es) (words_found c t h e w)
    ∙ (ap (λ r. r ∷ answers (words_of (account_of c (offered c h e))) es) (answer_found c t h e w)
    ∙ ap (λ l. answer c h e ∷ l) (answers_same c t (offered c h e) es (offered_lawful c h e w)))

-- an account that is begun is that of no events
pub begun_is : (c : Option Calendar) → begun_words c ≡ words_of (account_of c [])
unfolding ledger_of receipts_of deposit_of collection_of medical_of arrangement_of
begun_is None = refl
begun_is (Some c) = ap (λ ws. take (account_size - workdays_size) fresh_words ++ ws) (sym (append-nil (workdays_words (workdays_of (Some c)))))
