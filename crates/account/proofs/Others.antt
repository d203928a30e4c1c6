-- One account of many is posted to: how long its memory stays, what it becomes, and that the others are left.
use Prim.Native.Nat.{ℕ, ◌+◌, ◌*◌, ◌≤◌}
use mathlib.Core.Path.{◌≡◌, refl, sym, ap, ◌∙◌}
use mathlib.Core.List.{List}
use native.Mathlib.Omega.{arith}
use lib.Dec.{eqb}
use lib.ListN.{length, take, drop, length-set, length-take, length-drop}
use borrow.Author.Tests.{le-leb}
use Rattle.basics.proofs.Cases.{on, on_le, on_lt}
use Rattle.span.specs.Span.{put}
use Rattle.span.proofs.Law.{put_length, put_same, before, after}
use Rattle.rules.specs.declared.Event.{Event}
use Rattle.rules.specs.declared.View.{View}
use Rattle.rules.specs.Answer.{Answer}
use Rattle.rules.specs.Kinds.{payment, returned_payment}
use Rattle.rules.specs.History.{is}
use Rattle.rules.specs.Money.{charges}
use Rattle.ledger.specs.Ledger.{ledger_after}
use Rattle.account.specs.State.{State, account_size, state_on, passes, view, applied}
use Rattle.account.specs.Post.{refusal_at, state_after, answer_to, words_after}
use Rattle.account.specs.Many.{account_at, LeavesAt}
use Rattle.account.proofs.Words.{Ringed, ringed_on, words_length}
use Rattle.account.proofs.Exits.{passed_size}

-- ---- a posting keeps the length
ringed_applied : (s : State) (e : Event) (v : View) → Ringed s → Ringed (applied s e v)
unfolding applied ledger_after
ringed_applied s e v r =
    record {
      receipts_counts = on (is payment e) (λ q. rw (q, length-set) r.receipts_counts) (λ q. rw q r.receipts_counts);
      receipts_ring =
          on (is payment e) (λ q. rw (q, length-set) r.receipts_ring)
          (λ q. on (is returned_payment e) (λ p. rw (q, p, length-set) r.receipts_ring) (λ p. rw (q, p) r.receipts_ring));
      ledger_ring = on (charges e) (λ q. rw (q, length-set, length-set) r.ledger_ring) (λ q. rw q r.ledger_ring);
      workdays_bits = r.workdays_bits;
    }

ringed_after : (s : State) (e : Event) → Ringed s → Ringed (state_after s e)
unfolding state_after
ringed_after s e r = on (eqb (refusal_at s e) 0) (λ q. rw q (ringed_applied s e (view s e) r)) (λ q. rw q r)

pub after_length : (m : List ℕ) (e : Event) → length (words_after m e) ≡ length m
unfolding words_after
after_length m e =
    on (passes m)
    (λ q.
    let l = passed_size m q in
    rw q (words_length (state_after (state_on m) e) (ringed_after (state_on m) e (ringed_on m l)) ∙ sym l))
    (λ q. rw q refl)

-- ---- account i of many
module _ (i : ℕ) (all : List ℕ) (h : i * account_size + account_size ≤ length all) where
  at_length : length (account_at i all) ≡ account_size
  at_length = simp (length-take, length-drop) (omega arith)

  module _ (e : Event) where
    ys_length : length (words_after (account_at i all) e) ≡ account_size
    ys_length = after_length (account_at i all) e ∙ at_length

module _ (i : ℕ) (all : List ℕ) (e : Event) (r : Answer) (all2 : List ℕ) where
  pub stays_long : LeavesAt i all e r all2 → length all2 ≡ length all
  stays_long v =
      on_le (i * account_size + account_size) (length all)
      (λ q h. rw (v.words_are, q) (put_length (i * account_size) account_size (words_after (account_at i all) e) all (ys_length i all h e) h))
      (λ q h. rw (v.words_are, q))

  pub this_account : i * account_size + account_size ≤ length all → LeavesAt i all e r all2
      → (r ≡ answer_to (account_at i all) e) × (account_at i all2 ≡ words_after (account_at i all) e)
  this_account h v =
      let q = le-leb (i * account_size + account_size) (length all) h in
      (rw q at v.answer_is, rw (v.words_are, q) (put_same (i * account_size) account_size (words_after (account_at i all) e) all (ys_length i all h e) h))

pub other_account : (i j : ℕ) (all : List ℕ) (e : Event) (r : Answer) (all2 : List ℕ) → (i ≡ j → ⊥) → LeavesAt i all e r all2
    → account_at j all2 ≡ account_at j all
other_account i j all e r all2 n v =
    on_le (i * account_size + account_size) (length all)
    (λ q h.
    let ys = words_after (account_at i all) e in
    let l = ys_length i all h e in
    rw (v.words_are, q)
    (on_lt j i
    (λ _ b. before (i * account_size) account_size ys all l h (j * account_size) account_size (omega arith))
    (λ _ b. rw (after (i * account_size) account_size ys all l h (j * account_size) (omega (arith, n))))))
    (λ q h. rw (v.words_are, q))

-- ---- the exits
-- the width of a part that starts at a variable is known by an equation
pub leaves_at : (i w : ℕ) (all ys : List ℕ) (e : Event) (r : Answer) → w ≡ account_size → i * account_size + account_size ≤ length all
    → r ≡ answer_to (take w (drop (i * account_size) all)) e → ys ≡ words_after (take w (drop (i * account_size) all)) e
    → LeavesAt i all e r (put (i * account_size) w ys all)
leaves_at i w all ys e r z h a b =
    let q = le-leb (i * account_size + account_size) (length all) h in
    rw z (record { answer_is = rw q (rw z at a); words_are = rw q (ap (λ x. put (i * account_size) account_size x all) (rw z at b)) })
