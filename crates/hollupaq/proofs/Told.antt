-- What the library tells: the number that refuses, or a value.
use Prim.Native.Nat.{ℕ, zero, suc, ◌+◌, ◌≤◌}
use mathlib.Core.Path.{◌≡◌, refl, sym, ap, ◌∙◌}
use mathlib.Core.Bool.{Bool, true, false, cond, true≢false}
use mathlib.Core.List.{List}
use native.Mathlib.Omega.{arith}
use lib.Dec.{leb, eqb}
use lib.ListN.{length}
use borrow.Author.Tests.{eq-eqb}
use Rattle.basics.proofs.Cases.{on, on_eq}
use Rattle.rules.specs.declared.Calendar.{Calendar}
use Rattle.rules.specs.Limits.{calendar_words, limit, most_amount, most_usage}
use Rattle.rules.specs.Workdays.{working_days, counted_by}
use Rattle.rules.proofs.Workdays.{counted_few}
use Rattle.std.proofs.Common.{◌<◌, ◌&&◌, Option, Some, None, Result, Ok, Err}
use Rattle.rules.specs.declared.refusals.Refusal.{Refusal}
use Rattle.rules.specs.Refusals.{refusals}
use Rattle.rules.specs.Answer.{Answer, answered, receipt_of}
use Rattle.std.specs.Result.{MatchResult, IsOkAnd}
use Rattle.rules.proofs.Numbered.{number_kept, answered_err}
use Rattle.rules.specs.Tariff.{is_class, cents_of, bill_refusal, bill_of}
use Rattle.rules.specs.Budget.{Reading}
use Rattle.tariff.proofs.Law.{allowed, bill_in_range}
use Rattle.bookformat.specs.Book.{size, book_refusal}
use Rattle.bookformat.specs.Lent.{Columns, write_refusal, WroteBook}
use Rattle.book.specs.declared.Book.{Book}
use Rattle.bookformat.proofs.Told.{write_facts, book_in_table, write_in_table}
use Rattle.bookformat.proofs.Forth.{length_written}
use Rattle.workdays.specs.Kept.{calendar_by}
use Rattle.account.specs.State.{account_size, begun_words, state_on, passes}
use Rattle.questions.specs.Questions.{asked_of, working_days_in, Tells, Says}
use Rattle.hollupaq.specs.Library.{room_for, Begun, told, told_yes, answer_word, amount_word, truth_word, count_word, reading_word}
use Rattle.hollupaq.specs.Books.{Stored}

pub told_number : (n v : ℕ) → (n ≡ 0 → ⊥) → n ≡ told n v
told_number zero v h = absurd (h refl)
told_number (suc n) v h = refl

pub told_value : (n v w : ℕ) → n ≡ 0 → v ≡ w → 256 + v ≡ told n w
told_value n v w z e = rw (z, e)

pub not_told : (n v : ℕ) → false ≡ eqb n 0 → n ≡ told n v
not_told n v q = told_number n v (λ z. true≢false (sym (rw z at q)))

-- ---- for a day
pub told_word : (a : Result ℕ Refusal) (n c : ℕ) → c ≤ limit → Tells a n c → amount_word a ≡ told n c
told_word (Ok x) n c l t =
    let z : x ≡ c = t.value ∙ rw (sym t.told) in
    (omega arith) ∙ told_value n x c (sym t.number) z
told_word (Err r) n c l t = t.number ∙ not_told n c t.told

pub said_word : (x : Result Bool Refusal) (n : ℕ) (b : Bool) → Says x n b → truth_word x ≡ told_yes n b
said_word (Ok true) n b s = told_value n 1 (cond b 1 0) (sym s.number) (let z = rw (sym s.told) at s.value in rw (sym z))
said_word (Ok false) n b s = told_value n 0 (cond b 1 0) (sym s.number) (let z = rw (sym s.told) at s.value in rw (sym z))
said_word (Err r) n b s = s.number ∙ not_told n _ s.told

-- ---- an answer by a number of the table
told_answered : (n x : ℕ) → n < length refusals → (n ≡ 0 → x ≤ most_amount) → amount_word (answered n x) ≡ told n x
told_answered n x h small =
    on_eq n 0
    (λ q z. let s = small z in rw q (omega (arith, told_value n x x z refl)))
    (λ q z. rw q (number_kept n h ∙ told_number n x z))

-- a receipt is far from wrapping
word_small : (a : Answer) → receipt_of a ≤ limit + 1 → amount_word a ≡ answer_word a
word_small (Ok n) h = omega arith
word_small (Err r) h = refl

-- so an answer to an event is one word, by what the answer is
pub word_is : {w : ℕ} {r : Answer} (a : Answer) → w ≡ amount_word r → r ≡ a → receipt_of a ≤ limit + 1 → w ≡ answer_word a
word_is a p q s = p ∙ (ap amount_word q ∙ word_small a s)

-- ---- a bill
pub bill_word : (class usage : ℕ) → amount_word (bill_of class usage) ≡ told (bill_refusal class usage) (cents_of class usage)
bill_word class usage =
    told_answered (bill_refusal class usage) (cents_of class usage)
    (on (is_class class && leb usage most_usage) (λ q. rw q (omega arith)) (λ q. rw q (omega arith)))
    (λ z. (bill_in_range class usage (allowed class usage z)).1)

-- ---- a reading for a budget: its usage is far from wrapping
pub reading_told : (usage w : ℕ) (r : Reading) → usage ≤ most_usage → Ok (Some usage) ≡ r → w ≡ amount_word (Ok usage) → w ≡ reading_word r
reading_told usage w r m e a = rw (sym e) (omega (arith, a))

-- ---- an account begun with a calendar, and its working days, of which there are no more than days in a calendar
pub begun_told : (first : ℕ) (bits kept m k : List ℕ) → length m ≡ account_size → length bits ≡ calendar_words → kept ≡ bits
    → k ≡ begun_words (Some (record { first = first; bits = kept })) → Begun (Some (record { first = first; bits = bits })) m 1 k
begun_told first bits kept m k l n p q =
    let room : room_for (Some (record { first = first; bits = bits })) m ≡ true = rw (eq-eqb (length bits) calendar_words n, eq-eqb (length m) account_size l) in
    record { answer_is = rw room; words_are = rw room (q ∙ ap (λ b. begun_words (Some (record { first = first; bits = b }))) p) }

counted_told : (c : Option Calendar) (n t x w : ℕ) → Some x ≡ counted_by c n t → w ≡ amount_word (Ok x) → w ≡ 256 + x
counted_told None n t x w e a = absurd (cc)
counted_told (Some c) n t x w e a = let f : x ≡ working_days c n t = cc in omega (arith, a, f, counted_few c n t)

pub count_told : (m : List ℕ) (n t x w : ℕ) (r : Option ℕ) → r ≡ working_days_in m n t → r ≡ Some x → w ≡ amount_word (Ok x) → w ≡ count_word (working_days_in m n t)
unfolding asked_of
count_told m n t x w r p q a =
    let e : Some x ≡ working_days_in m n t = sym q ∙ p in
    let told : w ≡ 256 + x =
    on (passes m)
    (λ y. counted_told (calendar_by (state_on m).workdays) n t x w (rw y at e) a)
    (λ y. let f : Some x ≡ None = rw y at e in absurd (cc)) in
    told ∙ ap count_word e

-- ---- a book that passed, and what is told of it
small_word : (n x w : ℕ) (m : Result ℕ Refusal) → m ≡ answered n x → n < length refusals → (n ≡ 0 → x ≤ most_amount) → w ≡ amount_word m → w ≡ told n x
small_word n x w m e h small a = a ∙ ap amount_word e ∙ told_answered n x h small

-- what is asked of the book, by a closure that says L of it
mapped : (b : List ℕ) (v : ℕ) (L : Book → ℕ → Type 0) (r : Result Book Refusal) (m : Result ℕ Refusal)
    → MatchResult r (λ x. x.bytes.now ≡ b) (λ e. Err e ≡ answered (book_refusal b) (tt {0}))
    → MatchResult r (λ x. IsOkAnd m (L x)) (λ e. m ≡ Err e)
    → ((x : Book) (y : ℕ) → x.bytes.now ≡ b → L x y → y ≡ v) → m ≡ answered (book_refusal b) v
mapped b v L (Ok x) (Ok y) q k s = rw (rw q at x.sound) (ap Ok (s x y q k))
mapped b v L (Ok x) (Err e) q k s = absurd k
mapped b v L (Err e) m q k s = k ∙ (answered_err (book_refusal b) e (tt {0}) v q).1

pub header_word : (b : List ℕ) (v w : ℕ) (L : Book → ℕ → Type 0) (r : Result Book Refusal) (m : Result ℕ Refusal)
    → MatchResult r (λ x. x.bytes.now ≡ b) (λ e. Err e ≡ answered (book_refusal b) (tt {0}))
    → MatchResult r (λ x. IsOkAnd m (L x)) (λ e. m ≡ Err e)
    → ((x : Book) (y : ℕ) → x.bytes.now ≡ b → L x y → y ≡ v) → (book_refusal b ≡ 0 → v ≤ most_amount) → w ≡ amount_word m → w ≡ told (book_refusal b) v
header_word b v w L r m q k s h a = small_word _ v w m (mapped b v L r m q k s) (book_in_table b) h a

-- ---- a list that was written, or refused: what is answered and told of it
same_told : (n v w : ℕ) → (n ≡ 0 → v ≡ w) → told n v ≡ told n w
same_told zero v w h = ap (λ x. 256 + x) (h refl)
same_told (suc n) v w h = refl

pub mapped_size : (n v : ℕ) (L : ℕ → ℕ → Type 0) (r m : Result ℕ Refusal) → r ≡ answered n v → MatchResult r (λ x. IsOkAnd m (L x)) (λ e. m ≡ Err e)
    → ((x y : ℕ) → L x y → y ≡ x) → m ≡ answered n v
mapped_size n v L (Ok x) (Ok y) q k s = ap Ok (s x y k) ∙ q
mapped_size n v L (Ok x) (Err e) q k s = absurd k
mapped_size n v L (Err e) m q k s = k ∙ q

pub stored : (lists : Columns) (old new : List ℕ) (n w : ℕ) (m : Result ℕ Refusal) → WroteBook lists old new n
    → m ≡ answered (write_refusal lists (length old)) (size (length lists.counts) (length lists.kinds)) → w ≡ amount_word m → Stored lists old new w
stored lists old new n w m t e a =
    let r = write_refusal lists (length old) in
    record {
      answer = small_word r _ w m e (write_in_table lists (length old)) (λ z. omega (arith, (write_facts lists (length old) z).sizes)) a
          ∙ same_told r _ _ (λ z. sym (length_written lists (length old) z));
      bytes = t.bytes;
    }

-- ---- what the library stored was written, so that the round trips hold of it (`ListBack` in bookformat/specs/Trips.antt)

told_taken : (n v k : ℕ) → n < length refusals → 256 + k ≡ told n v → (n ≡ 0) × (k ≡ v)
told_taken zero v k h e = (refl, omega (arith, e))
told_taken (suc n) v k h e = absurd (omega (arith, e))

pub stored_wrote : (lists : Columns) (old new : List ℕ) (k : ℕ) → Stored lists old new (256 + k)
    → WroteBook lists old new 0 × (k ≡ size (length lists.counts) (length lists.kinds))
stored_wrote lists old new k s =
    let p = told_taken _ _ k (write_in_table lists (length old)) s.answer in
    (record { answer = sym p.0; bytes = s.bytes }, p.1 ∙ length_written lists (length old) p.0)
