-- The law of the part: after a lawful history the ring holds the open items of the history, and all answers follow.
use Rattle.std.proofs.lemmas.Grind.{common_steps}
use Prim.Native.Nat.{ℕ, ◌+◌, ◌-◌, ◌≤◌, ◌<◌, zero-le, min}
use mathlib.Core.Path.{◌≡◌, refl, sym, ap, ◌∙◌}
use mathlib.Core.Bool.{true, false, cond}
use mathlib.Core.List.{List, [], ◌∷◌, ◌++◌, append-nil}
use native.Mathlib.Omega.{arith}
use lib.Dec.{leb, ltb}
use lib.IntN.{sub_ℕ}
use lib.ListN.{length, length-append}
use borrow.Author.Tests.{ltb-true, lt-ltb, leb-false, le-leb}
use Rattle.basics.specs.Machine.{largest}
use Rattle.basics.proofs.Cases.{on}
use Rattle.std.specs.List.{All, filter}
use Rattle.std.proofs.lemmas.List.Elements.{All-nil, All-cons, All-append, All-weaker, filter-append}
use Rattle.std.proofs.lemmas.List.Sums.{length-filter, count_by-le-length}
use Rattle.std.specs.Prelude.{Option}
use Rattle.rules.specs.declared.Calendar.{Calendar}
use Rattle.rules.specs.declared.Event.{Event}
use Rattle.rules.specs.Kinds.{payment, payout}
use Rattle.rules.specs.History.{History, amount_if, total}
use Rattle.rules.specs.Deposit.{held}
use Rattle.rules.specs.Money.{Item, credit_by, credited, credits, charges, charge, charged, owed, items, unpaid, sum_of, open_items, due, arrears}
use Rattle.rules.specs.Range.{in_range}
use Rattle.rules.specs.Limits.{limit, most_open, grace}
use Rattle.rules.specs.Receipts.{named_payment}
use Rattle.rules.specs.Accepted.{view_of, Lawful}
use Rattle.rules.proofs.Items.{keep_keep, keep_same, sum_keep, sum_mono}
use Rattle.rules.proofs.Sums.{total_grows, credited_step, no_charge}
use Rattle.rules.proofs.Passed.{passed}
use Rattle.rules.proofs.Room.{payout_in}
use Rattle.rules.proofs.Lawful.{payouts}
use Rattle.rules.proofs.Bounds.{charged_limit, credited_limit, charge_above}
use Rattle.ledger.specs.Ring.{ring_size, items_from}
use Rattle.ledger.specs.Ledger.{Ledger, credits_by, open_of, arrears_by, entered_in, credited_in, paid_from, settled, ledger_after, ledger_of, ledger_ok}
use Rattle.ledger.proofs.Ring.{is_open, Chained, chain_sum, closed_in}
use Rattle.ledger.proofs.Places.{Placed, none_placed, placed_more, one_ring}
use Rattle.ledger.proofs.Kept.{Formed, kept_count, enter_open, enter_formed, settle_open, settle_formed, settle_twice, settled_still}

-- ---- the items of a lawful history: above 0, and no further than C
abbrev Sound : ℕ → Item → Type 0
Sound c x = (x.upto ≤ c) × (0 < x.amount)

-- what e adds
abbrev new : History → Event → List Item
new h e = cond (charges e) (record { day = e.day; amount = charge h e; upto = charged h + charge h e } ∷ []) []

items_more : (h : History) (e : Event) → items (e ∷ h) ≡ items h ++ new h e
items_more h e = on (charges e) (λ q. rw q) (λ q. rw q (sym (append-nil (items h))))

new_sound : (h : History) (e : Event) → in_range e ≡ true → All (Sound (charged (e ∷ h))) (new h e)
new_sound h e r =
    let S = Sound (charged (e ∷ h)) in
    on (charges e) (λ q. rw q (All-cons S _ [] (omega arith, charge_above h e r q) (All-nil S))) (λ q. rw q (All-nil S))

sound : (c : Option Calendar) (h : History) → Lawful c h → All (Sound (charged h)) (items h)
sound c [] w = All-nil (Sound (charged []))
sound c (e ∷ h) w =
    rw (items_more h e)
    (All-append (Sound (charged (e ∷ h))) (items h) (new h e)
    (All-weaker (Sound (charged h)) (Sound (charged (e ∷ h))) (λ x p. (omega arith, p.1)) (items h) (sound c h w.1))
    (new_sound h e (passed h e w.0).fields_fit))

-- ---- an item that is closed never opens again: credits fall only by a payout, which leaves nothing open
still : (c : Option Calendar) (h : History) (e : Event) → Lawful c (e ∷ h) → (x : Item) → Sound (charged h) x → is_open (credits (e ∷ h)) x ≡ true → is_open (credits h) x ≡ true
still c h e w x p o =
    let b = ltb-true (credits (e ∷ h)) x.upto o in
    let n = payouts c h w.1 in
    let f = payout_in (view_of c h e) e (passed h e w.0).allowed.r7 in
    lt-ltb (credits h) x.upto (omega (arith, credited_step e h, total_grows payout (e ∷ h)))

-- ---- the stored c form is the declared one
abbrev kept : History → List Item
kept h = filter (is_open (credits h)) (items h)

open_unpaid : (p : ℕ) (x : Item) → 0 < x.amount → is_open p x ≡ ltb 0 (unpaid p x)
open_unpaid p x q = grind (arith, common_steps)

kept_open : (c : Option Calendar) (h : History) → Lawful c h → kept h ≡ open_items h
kept_open c h w = keep_same (Sound (charged h)) (is_open (credits h)) (λ x. ltb 0 (unpaid (credits h) x)) (λ x p. open_unpaid (credits h) x p.1)
    (items h) (sound c h w)

kept_more : (c : Option Calendar) (h : History) (e : Event) → Lawful c (e ∷ h) → filter (is_open (credits (e ∷ h))) (kept h ++ new h e) ≡ kept (e ∷ h)
kept_more c h e w =
    let g = is_open (credits (e ∷ h)) in
    filter-append g (kept h) (new h e)
    ∙ (ap (λ ys. ys ++ filter g (new h e)) (keep_keep (Sound (charged h)) (is_open (credits h)) g (still c h e w) (items h) (sound c h w.1))
    ∙ (sym (filter-append g (items h) (new h e))
    ∙ ap (filter g) (sym (items_more h e))))

-- 64 places are enough: row 18
room_more : (c : Option Calendar) (h : History) (e : Event) → Lawful c (e ∷ h) → length (kept h) ≤ most_open → length (kept (e ∷ h)) ≤ most_open
room_more c h e w r =
    let m = ap length (kept_more c h e w) in
    let k = length-filter (is_open (credits (e ∷ h))) (kept h ++ new h e) in
    let s = count_by-le-length (is_open (credits (e ∷ h))) (kept h ++ new h e) in
    let a = length-append (kept h) (new h e) in
    let n : length (kept h) ≡ length (open_items h) = ap length (kept_open c h w.1) in
    on (charges e)
    (λ q.
    let u = leb-false most_open (length (open_items h)) (rw q at (passed h e w.0).allowed.r18) in
    let v : length (new h e) ≡ 1 = rw q in
    omega arith)
    (λ q. let v : length (new h e) ≡ 0 = rw q in omega arith)

-- ---- the ledger after a history
record Stored (h : History) (l : Ledger) : Type 0 where
  formed : Formed l
  charged_is : l.charged ≡ charged h
  credited_is : l.credited ≡ credited h
  paid_is : l.paid_out ≡ total payout h
  made_is : l.made ≡ length (items h)
  placed : Placed (items h) l.ring
  open_are : open_of l ≡ kept h

-- e's item joins, where it makes one
record Joined (h : History) (e : Event) (l : Ledger) : Type 0 where
  formed : Formed l
  charged_is : l.charged ≡ charged (e ∷ h)
  credited_is : l.credited ≡ credited h
  paid_is : l.paid_out ≡ total payout h
  made_is : l.made ≡ length (items (e ∷ h))
  placed : Placed (items (e ∷ h)) l.ring
  open_are : open_of l ≡ kept h ++ new h e

joins : (c : Option Calendar) (h : History) (e : Event) (l : Ledger) → Lawful c (e ∷ h) → Stored h l → Joined h e (cond (charges e) (entered_in l e.day (charge h e)) l)
joins c h e l w s =
    let p = passed h e w.0 in
    on (charges e)
    (λ q.
    let u = leb-false most_open (length (open_items h)) (rw q at p.allowed.r18) in
    let n : l.made - l.closed < most_open = omega (arith, kept_count l, ap length s.open_are, ap length (kept_open c h w.1)) in
    let z = s.charged_is in
    rw q
    (record {
      formed = enter_formed l s.formed e.day (charge h e) n (charge_above h e p.fields_fit q);
      charged_is = ap (λ n. n + charge h e) z;
      credited_is = s.credited_is;
      paid_is = s.paid_is;
      made_is = rw (q, length-append) (omega (arith, s.made_is));
      placed = rw (q, s.made_is, z)
          (placed_more (items h) l.ring s.placed (record { day = e.day; amount = charge h e; upto = charged h + charge h e }));
      open_are = enter_open l s.formed e.day (charge h e) n ∙ rw (q, s.open_are, z);
    }))
    (λ q.
    let z : charge h e ≡ 0 = no_charge (charged h) (credits h) (named_payment h e) e q in
    rw q
    (record {
      formed = s.formed;
      charged_is = omega (arith, s.charged_is);
      credited_is = s.credited_is;
      paid_is = s.paid_is;
      made_is = rw q s.made_is;
      placed = rw q s.placed;
      open_are = rw (q, append-nil) s.open_are;
    }))

-- then it is settled
settles : (c : Option Calendar) (h : History) (e : Event) (l : Ledger) → Lawful c (e ∷ h) → Joined h e l
    → Stored (e ∷ h) (settled (paid_from (credited_in l (credit_by (held h) e)) (amount_if payout e)))
settles c h e l w s =
    let m = paid_from (credited_in l (credit_by (held h) e)) (amount_if payout e) in
    let f : Formed m = record { size = s.formed.size; closed_le = s.formed.closed_le; chain = s.formed.chain } in
    let d : m.credited ≡ credited (e ∷ h) = omega (arith, s.credited_is, credited_step e h) in
    let o : m.paid_out ≡ total payout (e ∷ h) = omega (arith, s.paid_is, total_grows payout (e ∷ h)) in
    let p : credits_by m ≡ credits (e ∷ h) = omega arith in
    record {
      formed = settle_formed m f;
      charged_is = s.charged_is;
      credited_is = d;
      paid_is = o;
      made_is = s.made_is;
      placed = s.placed;
      open_are = settle_open m f.closed_le f.chain ∙ rw (p, s.open_are) (kept_more c h e w);
    }

stored : (c : Option Calendar) (h : History) → Lawful c h → Stored h (ledger_of h)
unfolding ledger_of ledger_after
stored c [] w =
    record {
      formed = record { size = refl; closed_le = zero-le; chain = refl };
      charged_is = refl;
      credited_is = rw (total_grows payment []);
      paid_is = rw (total_grows payout []);
      made_is = refl;
      placed = none_placed;
      open_are = refl;
    }
stored c (e ∷ h) w = settles c h e _ w (joins c h e (ledger_of h) w (stored c h w.1))

-- and it is settled
pub is_settled_lem : (c : Option Calendar) (h : History) → Lawful c h → settled (ledger_of h) ≡ ledger_of h
unfolding ledger_of ledger_after
is_settled_lem c [] w = refl
is_settled_lem c (e ∷ h) w = settle_twice _ (joins c h e (ledger_of h) w (stored c h w.1)).formed.closed_le

-- every charge is 1 or more, so there are no more items than cents
items_count : (c : Option Calendar) (h : History) → Lawful c h → length (items h) ≤ charged h
items_count c [] w = zero-le
items_count c (e ∷ h) w =
    let ih = items_count c h w.1 in
    on (charges e)
    (λ q. rw (q, length-append) (omega (arith, charge_above h e (passed h e w.0).fields_fit q)))
    (λ q. rw q (omega arith))

room_kept : (c : Option Calendar) (h : History) → Lawful c h → length (kept h) ≤ most_open
room_kept c [] w = zero-le
room_kept c (e ∷ h) w = room_more c h e w (room_kept c h w.1)

-- ---- the law
closed_due : (p t : ℕ) (x : Item) → is_open p x ≡ false → due p t x ≡ 0
closed_due p t x q = grind (arith, common_steps)

-- no more is due than was charged
due_le : (p t n k b c : ℕ) (s : List ℕ) → Chained b c (items_from n k b s) → sum_of (due p t) (items_from n k b s) ≤ c
due_le p t n k b c s e =
    let m = sum_mono (due p t) (λ x. x.amount) (λ x. on (leb (x.day + grace) t) (λ q. rw q (omega arith)) (λ q. rw q zero-le)) (items_from n k b s) in
    omega (arith, chain_sum n k b c s e)

-- l keeps h: what it answers, and every word of it
pub record KeepsLedger (h : History) (l : Ledger) : Type 0 where
  pub charged_is : l.charged ≡ charged h
  pub credited_is : l.credited ≡ credited h
  pub paid_is : l.paid_out ≡ total payout h
  pub credits_is : credits_by l ≡ credits h
  pub owed_is : sub_ℕ l.charged (credits_by l) ≡ owed h
  -- the open places hold the open items, in the order posted, with day, amount and C_k: none is lost, none comes back
  pub open_are : open_of l ≡ open_items h
  pub count_is : l.made - l.closed ≡ length (open_items h)
  pub arrears_are : (t : ℕ) → arrears_by l t ≡ arrears h t
  -- the other words: how many items were made and are paid, what these come to, and every place of the ring
  pub made_is : l.made ≡ length (items h)
  pub closed_is : l.closed + length (open_items h) ≡ length (items h)
  pub below_is : l.below + sum_of (λ x. x.amount) (open_items h) ≡ charged h
  pub size : length l.ring ≡ ring_size
  pub placed : Placed (items h) l.ring
  pub passes : ledger_ok l ≡ true

abbrev pub LedgerLaw : History → Type 0
LedgerLaw h = KeepsLedger h (ledger_of h)

-- the arrears never come near the largest number
arrears_law : (c : Option Calendar) (h : History) → Lawful c h → Stored h (ledger_of h) → credits_by (ledger_of h) ≡ credits h → (t : ℕ) → arrears_by (ledger_of h) t ≡ arrears h t
arrears_law c h w s p t =
    let l = ledger_of h in
    let n = sum_of (due (credits_by l) t) (open_of l) in
    let z : n ≡ arrears h t = rw (p, s.open_are) (sum_keep (due (credits h) t) (is_open (credits h)) (closed_due (credits h) t) (items h)) in
    let m = due_le (credits_by l) t (l.made - l.closed) l.closed l.below l.charged l.ring s.formed.chain in
    let y : min n largest ≡ n = omega (arith, m, s.charged_is, charged_limit c h w) in
    y ∙ z

ledger_ok_lem : (c : Option Calendar) (h : History) → Lawful c h → Stored h (ledger_of h) → (ledger_of h).made - (ledger_of h).closed ≤ most_open → ledger_ok (ledger_of h) ≡ true
ledger_ok_lem c h w s n =
    let l = ledger_of h in
    rw (
      le-leb l.charged limit (omega (arith, s.charged_is, charged_limit c h w)),
      le-leb l.credited limit (omega (arith, s.credited_is, credited_limit c h w)),
      le-leb l.paid_out l.credited (omega (arith, s.credited_is, s.paid_is, payouts c h w)),
      le-leb l.made l.charged (omega (arith, s.charged_is, s.made_is, items_count c h w)),
      le-leb l.closed l.made s.formed.closed_le,
      le-leb (l.made - l.closed) most_open n,
    )
    (settled_still l (is_settled_lem c h w))

pub ledger_law : (c : Option Calendar) (h : History) → Lawful c h → LedgerLaw h
ledger_law c h w =
    let l = ledger_of h in
    let s = stored c h w in
    let p : credits_by l ≡ credits h = omega (arith, s.credited_is, s.paid_is) in
    let o = s.open_are ∙ kept_open c h w in
    let n : l.made - l.closed ≡ length (open_items h) = sym (kept_count l) ∙ ap length o in
    let r : length (open_items h) ≤ most_open = rw (sym (kept_open c h w)) (room_kept c h w) in
    let b = chain_sum (l.made - l.closed) l.closed l.below l.charged l.ring s.formed.chain in
    record {
      charged_is = s.charged_is;
      credited_is = s.credited_is;
      paid_is = s.paid_is;
      credits_is = p;
      owed_is = rw (s.charged_is, p);
      open_are = o;
      count_is = n;
      arrears_are = arrears_law c h w s p;
      made_is = s.made_is;
      closed_is = omega (arith, n, s.made_is, s.formed.closed_le);
      below_is = rw (sym o) (b ∙ s.charged_is);
      size = s.formed.size;
      placed = s.placed;
      passes = ledger_ok_lem c h w s (omega (arith, n, r));
    }

-- ---- what is closed stays so
pub never_back : (h : History) (e : Event) → (ledger_of h).closed ≤ (ledger_of (e ∷ h)).closed
unfolding ledger_of ledger_after
never_back h e =
    let l = ledger_of h in
    let m = paid_from (credited_in (cond (charges e) (entered_in l e.day (charge h e)) l) (credit_by (held h) e)) (amount_if payout e) in
    let i = closed_in (m.made - m.closed) m.closed (credits_by m) m.ring in
    let z : m.closed ≡ l.closed = on (charges e) (λ q. rw q) (λ q. rw q) in
    omega (arith, i.0, z)

-- ---- every word is said: a ledger that keeps h is the one of h
pub one_ledger : (h : History) (l m : Ledger) → KeepsLedger h l → KeepsLedger h m → l ≡ m
one_ledger h l m p q =
    let c = p.charged_is ∙ sym q.charged_is in
    let d = p.credited_is ∙ sym q.credited_is in
    let o = p.paid_is ∙ sym q.paid_is in
    let n = p.made_is ∙ sym q.made_is in
    let k : l.closed ≡ m.closed = omega (arith, p.closed_is, q.closed_is) in
    let b : l.below ≡ m.below = omega (arith, p.below_is, q.below_is) in
    let s = one_ring (items h) l.ring m.ring p.placed q.placed in
    λ i. record { charged = c i; credited = d i; paid_out = o i; made = n i; closed = k i; below = b i; ring = s i }
