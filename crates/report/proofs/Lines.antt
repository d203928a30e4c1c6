-- The line of an account is the one that its events give.
use Prim.Native.Nat.{ℕ, ◌+◌, ◌-◌, ◌^◌, ◌≤◌, ◌<◌}
use mathlib.Core.Path.{◌≡◌, ap, ◌∙◌}
use mathlib.Core.Bool.{true}
use mathlib.Core.List.{List, ◌++◌, append_assoc}
use native.Mathlib.Omega.{arith}
use lib.IntN.{ℤ, sub_ℕ}
use lib.ListN.{length, length-append}
use Rattle.std.specs.Prelude.{None}
use Rattle.std.specs.Fmt.{decimal, signed_decimal}
use Rattle.std.proofs.lemmas.List.{length_push}
use Rattle.rules.specs.declared.Event.{Event}
use Rattle.rules.specs.declared.Service.{Service}
use Rattle.rules.specs.declared.Service.TheVariants.{On, Off, Closed}
use Rattle.rules.specs.Deposit.{held}
use Rattle.rules.specs.Money.{charged, credits, owed, open_items}
use Rattle.rules.specs.Service.{service, word_of}
use Rattle.rules.specs.History.{History}
use Rattle.rules.specs.Accepted.{Lawful, accepted}
use Rattle.rules.proofs.Lawful.{accepted_lawful}
use Rattle.rules.proofs.Bounds.{charged_limit, credited_limit, held_in_lem}
use Rattle.ledger.specs.Ledger.{ledger_of}
use Rattle.ledger.proofs.Law.{ledger_law}
use Rattle.ledger.proofs.Test.{ledger_fit}
use Rattle.account.specs.State.{State, state_on, passes}
use Rattle.questions.specs.Questions.{asked_of}
use Rattle.claim.specs.Claim.{Ran}
use Rattle.text.proofs.Numerals.{decimal_short, difference_short}
use Rattle.report.specs.declared.Standing.{Standing}
use Rattle.report.specs.Standing.{Stands, standing_on, followed, state_part, standing_line}
use Rattle.report.specs.Report.{line, line_of}

word_short : (v : Service) → length (word_of v) ≤ 6
word_short On = omega arith
word_short Off = omega arith
word_short Closed = omega arith

-- where an account stands, by demand 3
asked_of_lem : {A : Type 0} (m : List ℕ) (ask : State → A) (none : A) → passes m ≡ true → ask (state_on m) ≡ asked_of m ask none
unfolding asked_of
asked_of_lem m ask none q = rw q

pub standing_is : (m : List ℕ) (r : ℕ) (es : List Event) → Ran m r es → Stands (standing_on m r) es (accepted None es)
standing_is m r es s =
    let k = s.claim in
    record {
      owing = asked_of_lem m _ _ k.passing ∙ k.owing;
      holding = asked_of_lem m _ _ k.passing ∙ k.holding;
      opens = asked_of_lem m _ _ k.passing ∙ k.counting;
      serving = asked_of_lem m _ _ k.passing ∙ k.serving;
      refusing = omega (arith, s.refused_is, k.refused);
    }

regroup : (x y z s : List ℕ) → (x ++ (y ++ z)) ++ s ≡ x ++ (y ++ (z ++ s))
regroup x y z s = append_assoc x (y ++ z) s ∙ ap (λ l. x ++ l) (append_assoc y z s)

standing_line_lem : (i : ℕ) (s : Standing) → standing_line i s ≡ line i (sub_ℕ s.charged s.credits) s.held s.open_count s.service s.refused
unfolding standing_line
standing_line_lem i s = regroup (followed (decimal i) 32) (followed (signed_decimal (sub_ℕ s.charged s.credits)) 32) (followed (decimal s.held) 32) (state_part s)

pub line_is : (i : ℕ) (s : Standing) (es : List Event) → Stands s es (accepted None es) → standing_line i s ≡ line_of i es
unfolding line_of
line_is i s es k = standing_line_lem i s ∙ rw (k.owing, k.holding, k.opens, k.serving, k.refusing)

-- ---- the lengths of its words, and what follows each
line_length : (i : ℕ) (m : ℤ) (h o : ℕ) (v : Service) (r : ℕ)
    → length (line i m h o v r)
    ≡ length (decimal i) + length (signed_decimal m) + length (decimal h) + (length (decimal o) + length (word_of v) + length (decimal r)) + 6
line_length i m h o v r =
    let last = followed (decimal r) 10 in
    let word = followed (word_of v) 32 in
    let opens = followed (decimal o) 32 in
    let holds = followed (decimal h) 32 in
    let owes = followed (signed_decimal m) 32 in
    omega (
      arith,
      length-append (followed (decimal i) 32) (owes ++ (holds ++ (opens ++ (word ++ last)))),
      length-append owes (holds ++ (opens ++ (word ++ last))),
      length-append holds (opens ++ (word ++ last)),
      length-append opens (word ++ last),
      length-append word last,
      length_push (decimal i) 32,
      length_push (signed_decimal m) 32,
      length_push (decimal h) 32,
      length_push (decimal o) 32,
      length_push (word_of v) 32,
      length_push (decimal r) 10,
    )

-- for the reader: how long the line of any Standing is
pub standing_length : (i : ℕ) (s : Standing) → length (standing_line i s)
    ≡ length (decimal i) + length (signed_decimal (sub_ℕ s.charged s.credits)) + length (decimal s.held) +
    (length (decimal s.open_count) + length (word_of s.service) + length (decimal s.refused)) + 6
standing_length i s = ap length (standing_line_lem i s) ∙ line_length i (sub_ℕ s.charged s.credits) s.held s.open_count s.service s.refused

-- for the reader: of numbers of 64 bits no line is longer than 113 bytes
pub standing_short : (i : ℕ) (s : Standing) → i < 2 ^ 64 → s.charged < 2 ^ 64 → s.credits < 2 ^ 64 → s.held < 2 ^ 64 → s.open_count < 2 ^ 64
    → s.refused < 2 ^ 64 → length (standing_line i s) ≤ 113
standing_short i s p q r t u v =
    omega (
      arith,
      standing_length i s,
      decimal_short i p,
      difference_short s.charged s.credits q r,
      decimal_short s.held t,
      decimal_short s.open_count u,
      word_short s.service,
      decimal_short s.refused v,
    )

-- every number of a lawful history fits 64 bits
module _ (h : History) (w : Lawful None h) where
  owed_short : length (signed_decimal (owed h)) ≤ 21
  owed_short = difference_short (charged h) (credits h) (omega (arith, charged_limit None h w)) (omega (arith, credited_limit None h w))

  held_small : held h < 2 ^ 64
  held_small = omega (arith, held_in_lem None h w)

  open_small : length (open_items h) < 2 ^ 64
  open_small =
      let k = ledger_law None h w in
      omega (arith, k.count_is, (ledger_fit (ledger_of h) k.passes).open_le)

-- no account's line is longer than 113 bytes
pub line_of_short : (i : ℕ) (es : List Event) → i < 2 ^ 64 → length es < 2 ^ 64 → length (line_of i es) ≤ 113
unfolding line_of
line_of_short i es p q =
    let h = accepted None es in
    let w = accepted_lawful None es in
    omega (
      arith,
      line_length i (owed h) (held h) (length (open_items h)) (service h) (length es - length h),
      decimal_short i p,
      owed_short h w,
      decimal_short (held h) (held_small h w),
      decimal_short (length (open_items h)) (open_small h w),
      word_short (service h),
      decimal_short (length es - length h) (omega arith),
    )
