-- The sizes that the table keeps: what holds of the numbers of every lawful history.
use Prim.Native.Nat.{ℕ, zero, suc, ◌+◌, ◌-◌, ◌≤◌, ◌<◌, zero-le}
use mathlib.Core.Path.{◌≡◌, refl, sym, ◌∙◌}
use mathlib.Core.Bool.{true, false, ◌&&◌, or-false, true≢false}
use mathlib.Core.List.{[], ◌∷◌}
use native.Mathlib.Omega.{arith}
use lib.Dec.{leb, ltb, eqb}
use lib.ListN.{length, get_or}
use borrow.Author.Tests.{lt-ltb, ltb-true, ltb-false, leb-false, eqb-true, eqb-false, ne_eqb}
use Rattle.std.proofs.lemmas.Bool.{and_parts}
use Rattle.basics.proofs.Cases.{on, on_eq, picked}
use Rattle.std.specs.Prelude.{Option}
use Rattle.std.specs.List.{list_all}
use Rattle.std.proofs.lemmas.List.Recursion.{and_at}
use Rattle.rules.specs.declared.Event.{Event}
use Rattle.rules.specs.declared.View.{View}
use Rattle.rules.specs.declared.Calendar.{Calendar}
use Rattle.rules.specs.Kinds.{bill, payment, returned_payment, fee, deposit_asked, deposit_paid, arrangement, final_notice, reconnection}
use Rattle.rules.specs.Limits.{final_day, most_deposit, limit, grace, known_receipts}
use Rattle.rules.specs.History.{History, is, within, last_posted, total}
use Rattle.rules.specs.Fees.{fees, fee_of}
use Rattle.rules.specs.Receipts.{is_at, payments, returned, known, returnable, named_payment}
use Rattle.rules.specs.Deposit.{moves, held, required}
use Rattle.rules.specs.Money.{credited, credits, charges, charge, charged, due, items, arrears}
use Rattle.rules.specs.Arrangement.{terms, paid_since, returned_since}
use Rattle.rules.specs.Range.{in_range}
use Rattle.rules.specs.Table.{row7}
use Rattle.rules.specs.Accepted.{view_of, Lawful}
use Rattle.rules.proofs.Days.{Sorted, within_true}
use Rattle.rules.proofs.Items.{sum_mono}
use Rattle.rules.proofs.Sums.{total_grows, total_since, newest_since, credited_step, charged_items}
use Rattle.rules.proofs.Ranged.{ranged}
use Rattle.rules.proofs.Passed.{Passed, passed}
use Rattle.rules.proofs.Room.{room}

-- ---- days
pub sorted : (c : Option Calendar) (h : History) → Lawful c h → Sorted h
sorted c [] w = tt
sorted c (e ∷ h) w = ((passed h e w.0).in_order, sorted c h w.1)

pub in_days : (c : Option Calendar) (h : History) → Lawful c h → last_posted h ≤ final_day
in_days c [] w = zero-le
in_days c (e ∷ h) w = (passed h e w.0).in_time

-- ---- C, and payments plus deposits moved, are at most the limit
record Limits (h : History) : Type 0 where
  charged_le : charged h ≤ limit
  credited_le : credited h ≤ limit

limits : (c : Option Calendar) (h : History) → Lawful c h → Limits h
limits c [] w = record { charged_le = zero-le; credited_le = omega (arith, total_grows payment []) }
limits c (e ∷ h) w =
    let k = limits c h w.1 in
    let r = room (view_of c h e) e (passed h e w.0).allowed k.charged_le k.credited_le in
    record { charged_le = r.charged_room; credited_le = rw credited_step r.credited_room }

pub charged_limit : (c : Option Calendar) (h : History) → Lawful c h → charged h ≤ limit
charged_limit c h w = (limits c h w).charged_le

pub credited_limit : (c : Option Calendar) (h : History) → Lawful c h → credited h ≤ limit
credited_limit c h w = (limits c h w).credited_le

-- arrears are at most C
pub arrears_charged : (h : History) (t : ℕ) → arrears h t ≤ charged h
arrears_charged h t =
    let m = sum_mono (due (credits h) t) (λ x. x.amount) (λ x. on (leb (x.day + grace) t) (λ q. rw q (omega arith)) (λ q. rw q zero-le)) (items h) in
    omega (arith, charged_items h)

-- ---- every charge is above 0
-- a fee, of each number from 1 to 7
fee_above : (n : ℕ) → 1 ≤ n → n ≤ 7 → 0 < fee_of n
fee_above zero p q = absurd (omega arith)
fee_above (suc n) p q = ltb-true 0 (get_or fees n 0) (and_at (list_all (ltb 0)) (ltb 0) refl (λ _ _. refl) fees n 0 (omega arith) refl)

pub charge_above : (h : History) (e : Event) → in_range e ≡ true → charges e ≡ true → 0 < charge h e
charge_above h e r c =
    on_eq e.kind bill (λ _ z. let a = (ranged bill e r z).amount_low in rw z (omega arith))
    (λ p _. on_eq e.kind returned_payment (λ _ z. rw z (omega arith))
    (λ q _. on_eq e.kind fee (λ _ z. let a = ranged fee e r z in rw z (omega (arith, fee_above e.option a.option_low (omega arith))))
    (λ s _. on_eq e.kind final_notice (λ _ z. rw z (omega arith))
    (λ u _. on_eq e.kind reconnection
    (λ _ z. let a = ranged reconnection e r z in rw z (omega (arith, fee_above (6 + e.option) (omega arith) (omega arith))))
    (λ v _. absurd (true≢false (sym c ∙ simp (p, q, s, u, v))))))))

-- ---- the deposit
pub asked_over : (v : View) (e : Event) → row7 v e ≡ false → e.kind ≡ deposit_asked → v.held < e.amount
asked_over v e r z = leb-false e.amount v.held (simp (z, or-false) at r)

pub paid_within : (v : View) (e : Event) → row7 v e ≡ false → e.kind ≡ deposit_paid → e.amount ≤ v.required - v.held
paid_within v e r z = ltb-false (v.required - v.held) e.amount (simp (z, or-false) at r)

pub record Held (h : History) : Type 0 where
  pub held_le : held h ≤ required h
  pub required_le : required h ≤ most_deposit

pub held_in_lem : (c : Option Calendar) (h : History) → Lawful c h → Held h
held_in_lem c [] w = record { held_le = omega (arith, total_grows deposit_paid []); required_le = zero-le }
held_in_lem c (e ∷ h) w =
    let k = held_in_lem c h w.1 in
    let p = passed h e w.0 in
    let paid = total_since deposit_paid moves e h in
    let asked = newest_since deposit_asked moves e h in
    on (moves e)
    (λ m. record { held_le = rw (paid, asked, m) zero-le; required_le = rw (asked, m) zero-le })
    (λ m. on_eq e.kind deposit_asked
    (λ q z.
    let a = asked_over (view_of c h e) e p.allowed.r7 z in
    let b = (ranged deposit_asked e p.fields_fit z).amount_high in
    record { held_le = rw (paid, asked, z) (omega arith); required_le = rw (asked, z) (omega arith) })
    (λ q z. on_eq e.kind deposit_paid
    (λ r y.
    let a = paid_within (view_of c h e) e p.allowed.r7 y in
    record { held_le = rw (paid, asked, y) (omega arith); required_le = rw (asked, y) (omega arith) })
    (λ r y. record { held_le = rw (paid, asked, m, q, r) (omega arith); required_le = rw (asked, m, q) k.required_le })))

-- ---- receipts, of any till
-- a payment at a till, or a returned one, is of its kind
of_till : (till k : ℕ) (e : Event) → is_at till k e ≡ true → e.kind ≡ k
of_till till k e q = eqb-true e.kind k (and_parts (is k e) (eqb e.option till) q).0

-- the receipt of an accepted return is among the newest 16 of its till
pub record Known (till : ℕ) (h : History) (r : ℕ) : Type 0 where
  pub low : 1 ≤ r
  pub high : r ≤ length (payments till h)
  pub near : length (payments till h) < r + known_receipts

pub return_known : {c : Option Calendar} (h : History) (e : Event) → Passed c h e → e.kind ≡ returned_payment → Known e.option h e.amount
return_known h e p z =
    let n = length (payments e.option h) in
    let r : eqb (named_payment h e) 0 ≡ false = rw z at p.allowed.r6 in
    let k = picked (known e.option h e.amount) _ (eqb-false (named_payment h e) 0 r) in
    let b = (and_parts (within 1 n e.amount && ltb (n - e.amount) known_receipts) _ k).0 in
    let w = within_true 1 n e.amount (and_parts (within 1 n e.amount) _ b).0 in
    record { low = w.0; high = w.1; near = omega (arith, ltb-true (n - e.amount) known_receipts (and_parts (within 1 n e.amount) _ b).1) }

-- no receipt past a till's count was returned
pub not_yet : (c : Option Calendar) (till : ℕ) (h : History) → Lawful c h → (r : ℕ) → length (payments till h) < r → returned till h r ≡ false
not_yet c till [] w r p = refl
not_yet c till (e ∷ h) w r p =
    let l : length (payments till h) < r = on (is_at till payment e) (λ t. let p' = (rw t at p) in omega arith) (λ t. rw t at p) in
    on (is_at till returned_payment e)
    (λ q.
    let s = eqb-true e.option till (and_parts (is returned_payment e) (eqb e.option till) q).1 in
    let k : Known till h e.amount = rw s at (return_known h e (passed h e w.0) (of_till till returned_payment e q)) in
    rw (q, ne_eqb e.amount r (omega (arith, k.high))) (not_yet c till h w.1 r l))
    (λ q. rw q (not_yet c till h w.1 r l))

-- each payment is 1 or more, so a till has no more payments than there are cents
payments_count : (c : Option Calendar) (till : ℕ) (h : History) → Lawful c h → length (payments till h) ≤ total payment h
payments_count c till [] w = zero-le
payments_count c till (e ∷ h) w =
    let ih = payments_count c till h w.1 in
    let more = total_grows payment (e ∷ h) in
    on (is_at till payment e)
    (λ q.
    let z = of_till till payment e q in
    let a = (ranged payment e (passed h e w.0).fields_fit z).amount_low in rw (more, q, z) (omega arith))
    (λ q. rw (more, q) (omega arith))

pub count_limit : (c : Option Calendar) (till : ℕ) (h : History) → Lawful c h → length (payments till h) ≤ limit
count_limit c till h w = omega (arith, payments_count c till h w, credited_limit c h w)

-- every payment is above 0
payments_above : (c : Option Calendar) (till : ℕ) (h : History) → Lawful c h → list_all (ltb 0) (payments till h) ≡ true
payments_above c till [] w = refl
payments_above c till (e ∷ h) w =
    let ih = payments_above c till h w.1 in
    on (is_at till payment e)
    (λ q. rw (q, lt-ltb 0 e.amount (ranged payment e (passed h e w.0).fields_fit (of_till till payment e q)).amount_low) ih)
    (λ q. rw q ih)

-- so the payment of a receipt is above 0 just where the receipt is known, and 0 can stand for none
pub known_is : (c : Option Calendar) (till : ℕ) (h : History) → Lawful c h → (r : ℕ) → known till h r ≡ ltb 0 (returnable till h r)
known_is c till h w r =
    let n = length (payments till h) in
    on (known till h r)
    (λ k.
    let b = (and_parts (within 1 n r && ltb (n - r) known_receipts) _ k).0 in
    let v = within_true 1 n r (and_parts (within 1 n r) _ b).0 in
    rw (k, and_at (list_all (ltb 0)) (ltb 0) refl (λ x xs. refl) (payments till h) (n - r) 0 (omega arith) (payments_above c till h w)))
    (λ k. rw k)

-- ---- the arrangement
pub debt_limit : (c : Option Calendar) (h : History) → Lawful c h → (terms h).debt ≤ limit
debt_limit c [] w = zero-le
debt_limit c (e ∷ h) w =
    on (is arrangement e)
    (λ q. rw q (omega (arith, arrears_charged h e.day, charged_limit c h w.1)))
    (λ q. rw q (debt_limit c h w.1))

paid_since_lem : (h : History) → paid_since h ≤ total payment h
paid_since_lem [] = omega arith
paid_since_lem (e ∷ h) =
    let ih = paid_since_lem h in
    rw (total_since payment (is arrangement) e h, total_grows payment (e ∷ h)) (on (is arrangement e) (λ q. rw q zero-le) (λ q. rw q (omega arith)))

pub paid_limit : (c : Option Calendar) (h : History) → Lawful c h → paid_since h ≤ limit
paid_limit c h w = omega (arith, paid_since_lem h, credited_limit c h w)

-- a returned payment is charged again
returned_since_lem : (h : History) → returned_since h ≤ charged h
returned_since_lem [] = zero-le
returned_since_lem (e ∷ h) = let ih = returned_since_lem h in on (is arrangement e) (λ q. rw q zero-le) (λ q. rw q (omega arith))

pub returned_limit : (c : Option Calendar) (h : History) → Lawful c h → returned_since h ≤ limit
returned_limit c h w = omega (arith, returned_since_lem h, charged_limit c h w)
