-- An account and its words: each is all of the other.
use Prim.Native.Nat.{ℕ, ◌-◌, ◌*◌}
use mathlib.Core.Path.{◌≡◌, refl, sym, ap, ◌∙◌}
use mathlib.Core.List.{List, [], ◌∷◌, ◌++◌, append-nil}
use native.Mathlib.Omega.{arith}
use lib.ListN.{length, take, length-take, length-drop, length-append}
use Rattle.std.specs.Prelude.{Some}
use Rattle.span.specs.Span.{put, joined}
use Rattle.span.proofs.Law.{whole}
use Rattle.span.proofs.Parts.{part, part_length, joined_cut, joined_length, Sized, cut_joined}
use Rattle.rules.specs.declared.Calendar.{Calendar}
use Rattle.rules.specs.Limits.{calendar_words, known_receipts}
use Rattle.collection.specs.Collection.{collection_size}
use Rattle.deposit.specs.Deposit.{deposit_size}
use Rattle.medical.specs.Medical.{medical_size}
use Rattle.arrangement.specs.Arrangement.{arrangement_size}
use Rattle.receipts.specs.Receipts.{tills}
use Rattle.receipts.proofs.Words.{receipts_whole, receipts_back}
use Rattle.ledger.specs.Ring.{ring_size}
use Rattle.ledger.proofs.Words.{ledger_whole}
use Rattle.workdays.specs.Kept.{workdays_size, workdays_words, workdays_of}
use Rattle.workdays.proofs.Words.{workdays_whole}
use Rattle.account.specs.State.{State, sizes, account_size, fresh_words, begun_words, state_of, state_on, spans_of, words_of, with_money}

-- equal accounts are equal memory: the words of the account that memory is are the memory
pub account_whole : (m : List ℕ) → length m ≡ account_size → words_of (state_on m) ≡ m
account_whole m l =
    let z = sym (whole 1 (part sizes 0 m) (part_length sizes 0 m (omega arith) l)) in
    let a = sym (whole 1 (part sizes 1 m) (part_length sizes 1 m (omega arith) l)) in
    let b = sym (whole collection_size (part sizes 2 m) (part_length sizes 2 m (omega arith) l)) in
    let c = sym (whole deposit_size (part sizes 3 m) (part_length sizes 3 m (omega arith) l)) in
    let d = sym (whole medical_size (part sizes 4 m) (part_length sizes 4 m (omega arith) l)) in
    let e = sym (whole arrangement_size (part sizes 5 m) (part_length sizes 5 m (omega arith) l)) in
    let f = receipts_whole (part sizes 6 m) (part_length sizes 6 m (omega arith) l) in
    let g = ledger_whole (part sizes 7 m) (part_length sizes 7 m (omega arith) l) in
    let k = workdays_whole (part sizes 8 m) (part_length sizes 8 m (omega arith) l) in
    (λ i. joined (z i ∷ a i ∷ b i ∷ c i ∷ d i ∷ e i ∷ f i ∷ g i ∷ k i ∷ [])) ∙ joined_cut sizes 0 m (sym l)

-- the counts, the rings and the bits of an account have their places
pub record Ringed (s : State) : Type 0 where
  pub receipts_counts : length s.receipts.counts ≡ tills
  pub receipts_ring : length s.receipts.recent ≡ known_receipts * tills
  pub ledger_ring : length s.ledger.ring ≡ ring_size
  pub workdays_bits : length s.workdays.bits ≡ calendar_words

pub ringed_on : (m : List ℕ) → length m ≡ account_size → Ringed (state_on m)
ringed_on m l =
    record {
      receipts_counts = rw length-take (omega (arith, part_length sizes 6 m (omega arith) l));
      receipts_ring = rw length-drop (omega (arith, part_length sizes 6 m (omega arith) l));
      ledger_ring = rw length-drop (omega (arith, part_length sizes 7 m (omega arith) l));
      workdays_bits = rw length-drop (omega (arith, part_length sizes 8 m (omega arith) l));
    }

sized : (s : State) → Ringed s → Sized sizes (spans_of s)
sized s r = (refl, (refl, (refl, (refl, (refl, (refl, (rw length-append (omega (arith, r.receipts_counts, r.receipts_ring)), (omega (arith, r.ledger_ring), (omega (arith, r.workdays_bits), tt)))))))))

pub words_length : (s : State) → Ringed s → length (words_of s) ≡ account_size
words_length s r = omega (arith, joined_length sizes (spans_of s) 0 (sized s r))

pub account_back : (s : State) → Ringed s → state_on (words_of s) ≡ s
account_back s r = ap state_of (cut_joined sizes (spans_of s) (sized s r)) ∙ (λ i. with_money s s.arrangement (receipts_back s.receipts r.receipts_counts i) s.ledger)

-- a fresh account with a calendar put into its last words is begun with it
pub begun : (c : Calendar) (m w : List ℕ) → m ≡ fresh_words → w ≡ workdays_words (workdays_of (Some c))
    → put (account_size - workdays_size) workdays_size w m ≡ begun_words (Some c)
begun c m w p q = rw (p, q) (ap (λ ys. take (account_size - workdays_size) fresh_words ++ ys) (append-nil (workdays_words (workdays_of (Some c)))))
