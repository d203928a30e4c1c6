-- Demand 3 holds of every one of many accounts in one memory.
use Prim.Native.Nat.{ℕ, zero, suc, ◌+◌, ◌-◌, ◌*◌, ◌<◌}
use mathlib.Core.Path.{◌≡◌, refl, ap, ◌∙◌}
use mathlib.Core.List.{List, [], ◌∷◌, ◌++◌, map}
use native.Mathlib.Omega.{arith}
use lib.ListN.{length, get_or, take, drop, length-append}
use lib.Seq.{take_at, drop-append-add}
use Rattle.basics.proofs.Cases.{on_eq}
use Rattle.span.specs.Span.{joined}
use Rattle.std.specs.Prelude.{Option, Some, None}
use Rattle.std.specs.List.{All}
use Rattle.std.proofs.lemmas.List.Elements.{All-head, All-tail}
use Rattle.rules.specs.declared.Calendar.{Calendar}
use Rattle.rules.specs.Workdays.{Taken}
use Rattle.rules.specs.Answer.{Answer}
use Rattle.workdays.specs.Kept.{workdays_size, workdays_words, workdays_of}
use Rattle.workdays.proofs.Law.{workdays_length}
use Rattle.account.specs.State.{account_size, fresh_words, begun_words}
use Rattle.account.specs.Post.{answer_to, words_after}
use Rattle.account.specs.Many.{account_at}
use Rattle.account.proofs.Others.{stays_long, this_account, other_account}
use Rattle.claim.specs.Run.{run, answers}
use Rattle.claim.specs.Many.{Posting, events_for, answers_for, LeftAt, ManyClaim}
use Rattle.claim.proofs.Demand.{demand_3}

-- account i after a list of postings is what the events for it alone make of it
each : (n : ℕ) (all : List ℕ) (ps : List Posting) (said : List Answer) (z : List ℕ) (i : ℕ) → length all ≡ n * account_size → i < n → LeftAt all ps said z
    → (account_at i z ≡ run (account_at i all) (events_for i ps)) × (answers_for i ps said ≡ answers (account_at i all) (events_for i ps))
each n all [] [] z i l h t = (ap (account_at i) t, refl)
each n all [] (s ∷ said) z i l h t = absurd t
each n all (p ∷ ps) [] z i l h t = absurd t
each n all (p ∷ ps) (s ∷ said) z i l h t =
    let b = t.0 in
    let v = t.1.0 in
    let r = each n b ps said z i (stays_long p.index all p.event s b v ∙ l) h t.1.1 in
    on_eq p.index i
    (λ q e.
    let u = this_account p.index all p.event s b (omega arith) v in
    let w : account_at i b ≡ words_after (account_at i all) p.event = rw e at u.1 in
    let a : s ≡ answer_to (account_at i all) p.event = rw e at u.0 in
    rw q (r.0 ∙ ap (λ m. run m (events_for i ps)) w, rw (a, r.1, w)))
    (λ q e.
    let w = other_account p.index i all p.event s b e v in
    rw q (r.0 ∙ ap (λ m. run m (events_for i ps)) w, r.1 ∙ ap (λ m. answers m (events_for i ps)) w))

-- ---- fresh accounts, one after another
begun_size : (c : Option Calendar) → Taken c → length (begun_words c) ≡ account_size
begun_size None t = refl
begun_size (Some c) t =
    length-append (take (account_size - workdays_size) fresh_words) (workdays_words (workdays_of (Some c)))
    ∙ omega (arith, workdays_length (Some c) t)

all_size : (cs : List (Option Calendar)) → All Taken cs → length (joined (map begun_words cs)) ≡ length cs * account_size
all_size [] a = refl
all_size (c ∷ cs) a =
    length-append (begun_words c) (joined (map begun_words cs))
    ∙ omega (arith, begun_size c (All-head Taken c cs a), all_size cs (All-tail Taken c cs a))

begun_at : (cs : List (Option Calendar)) (i : ℕ) → All Taken cs → i < length cs → account_at i (joined (map begun_words cs)) ≡ begun_words (get_or cs i None)
begun_at [] i a h = absurd (omega arith)
begun_at (c ∷ cs) zero a h = take_at (begun_words c) (joined (map begun_words cs)) account_size (begun_size c (All-head Taken c cs a))
begun_at (c ∷ cs) (suc i) a h =
    let rest = joined (map begun_words cs) in
    let z : suc i * account_size ≡ length (begun_words c) + i * account_size = omega (arith, begun_size c (All-head Taken c cs a)) in
    let past = ap (λ k. drop k (begun_words c ++ rest)) z ∙ drop-append-add (begun_words c) rest (i * account_size) in
    ap (take account_size) past ∙ begun_at cs i (All-tail Taken c cs a) (omega arith)

taken_at : (cs : List (Option Calendar)) (i : ℕ) → All Taken cs → i < length cs → Taken (get_or cs i None)
taken_at [] i a h = absurd (omega arith)
taken_at (c ∷ cs) zero a h = All-head Taken c cs a
taken_at (c ∷ cs) (suc i) a h = taken_at cs i (All-tail Taken c cs a) (omega arith)

-- DEMAND 3
pub demand_3_many : (cs : List (Option Calendar)) (ps : List Posting) (said : List Answer) (z : List ℕ) → ManyClaim cs ps said z
demand_3_many cs ps said z a t i h =
    let r = each (length cs) (joined (map begun_words cs)) ps said z i (all_size cs a) h t in
    let f = begun_at cs i a h in
    rw (r.0, r.1, f) (demand_3 (get_or cs i None) (events_for i ps) (taken_at cs i a h))
