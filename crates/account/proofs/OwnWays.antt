-- What the proofs of the ways of payments, bills and fees cite: their rows, and the account after their parts' spans came back.
use Prim.Native.Nat.{ℕ, ◌+◌, ◌-◌, ◌≤◌, ◌<◌, min}
use mathlib.Core.Path.{◌≡◌, refl, sym, ap, subst, ◌∙◌}
use mathlib.Core.Bool.{true, false, cond, ◌||◌, and-true, and-false}
use mathlib.Core.List.{List, [], ◌∷◌}
use mathlib.Core.Logic.{◌⊎◌, inl, inr}
use native.Mathlib.Omega.{arith}
use native.Mathlib.Nat.{add-zero}
use lib.Dec.{eqb, leb, ltb}
use lib.ListN.{length, get_or}
use borrow.Author.Tests.{eqb-true, ne_eqb, lt-leb}
use Rattle.basics.specs.Machine.{largest}
use Rattle.basics.proofs.Cases.{on_eq}
use Rattle.span.proofs.Parts.{part, back, here, then}
use Rattle.rules.specs.declared.Event.{Event}
use Rattle.rules.specs.declared.View.{View}
use Rattle.rules.specs.Limits.{limit, most_open}
use Rattle.rules.specs.Kinds.{bill, payment, returned_payment, fee, deposit_asked, certificate, approval, arrangement, final_notice, disconnection, closing}
use Rattle.rules.specs.History.{is}
use Rattle.rules.specs.Service.{is_closed}
use Rattle.rules.specs.Range.{WellFormed}
use Rattle.rules.specs.Money.{charges, late_charge}
use Rattle.rules.specs.Table.{charge_of, credit_of, refusal_by}
use Rattle.rules.proofs.Passed.{allowed}
use Rattle.rules.proofs.Room.{Room, room}
use Rattle.table.specs.ByKind.{from_row5, item_rows, credit_rows}
use Rattle.table.proofs.ByKind.{of_item}
use Rattle.collection.specs.declared.Collection.{Collection}
use Rattle.collection.specs.Collection.{collection_on, service_by, collection_after}
use Rattle.collection.proofs.Others.{collection_other}
use Rattle.deposit.specs.Deposit.{concerns}
use Rattle.deposit.proofs.Others.{deposit_other}
use Rattle.medical.proofs.Others.{untouched}
use Rattle.arrangement.specs.declared.Arrangement.{Arrangement}
use Rattle.arrangement.specs.Arrangement.{arrangement_size, arrangement_on, arrangement_after}
use Rattle.receipts.specs.Receipts.{Receipts, receipts_size, receipts_on, count_by, receipts_after}
use Rattle.ledger.specs.Ledger.{ledger_size, ledger_on, credits_by, arrears_by, ledger_after, LedgerRoom}
use Rattle.ledger.proofs.Test.{ledger_room}
use Rattle.account.specs.State.{State, sizes, account_size, state_of, state_on, view, with_money, with_file, with_service, money_after, file_after, service_after, applied}
use Rattle.account.specs.Post.{receipt_at}
use Rattle.account.specs.Looks.{Became, Applied, Free, only_item}
use Rattle.account.proofs.Steps.{money_by, steps_are, receipt_by}

-- ---- what an event that passes has room for
module _ (m : List ℕ) (e : Event) (f : Free m e) where
  abbrev seen : View
  seen = view (state_on m) e

  free_room : Room seen e
  unfolding view
  free_room = room seen e (allowed seen e f.free) f.fit.fit.ledger_fit.charged_le f.fit.fit.ledger_fit.credited_le

  free_ledger : LedgerRoom (state_on m).ledger e (charges e) (charge_of seen e) (credit_of seen e)
  unfolding view
  free_ledger = ledger_room (state_on m).ledger seen e f.fit.fit.ledger_fit free_room refl refl refl

  charge_fits : (n : ℕ) → n ≡ min (charge_of seen e) largest → n ≡ charge_of seen e
  charge_fits n q = omega (arith, q, free_room.charged_room)

-- a bill or a fee, one or the other
either : (e : Event) → only_item e ≡ true → (e.kind ≡ bill) ⊎ (e.kind ≡ fee)
either e o = on_eq e.kind bill (λ q z. inl z) (λ q z. inr (eqb-true e.kind fee (rw q at o)))

-- ---- their rows
pub payment_row : (s : State) (e : Event) → e.kind ≡ payment → credit_rows s.ledger.credited e.amount ≡ refusal_by (view s e) e
unfolding refusal_by view
payment_row s e z = simp (z, add-zero, and-false)

-- row 4 asks them whether the service is closed
after_row4 : (v : View) (e : Event) → (e.kind ≡ bill) ⊎ (e.kind ≡ fee) → cond (is_closed v.service) 4 (from_row5 v e) ≡ refusal_by v e
unfolding refusal_by from_row5
after_row4 v e (inl z) = simp (z, and-true)
after_row4 v e (inr z) = simp (z, and-true)

closed_word : (n : ℕ) → leb 2 n ≡ is_closed (service_by n)
closed_word n = grind arith

within_largest : (a b : ℕ) → ltb limit (min (a + b) largest) ≡ ltb limit (a + b)
within_largest a b = grind arith

pub item_row : (s : State) (e : Event) (n : ℕ) → only_item e ≡ true → n ≡ min (charge_of (view s e) e) largest
    → cond (is_closed (service_by s.collection.service)) 4 (item_rows (s.ledger.made - s.ledger.closed) s.ledger.charged n) ≡ refusal_by (view s e) e
unfolding view
item_row s e n o w =
    ap (λ r. cond (is_closed (service_by s.collection.service)) 4 r) (of_item (view s e) e n w (either e o))
    ∙ after_row4 (view s e) e (either e o)

-- the same in numbers alone, for the reader
pub item_rows_lem : (s : State) (e : Event) (n : ℕ) → only_item e ≡ true → n ≡ min (charge_of (view s e) e) largest
    → cond (leb 2 s.collection.service) 4
    (cond (leb most_open (s.ledger.made - s.ledger.closed)) 18 (cond (ltb limit (min (s.ledger.charged + n) largest)) 19 0)) ≡ refusal_by (view s e) e
item_rows_lem s e n o w =
    rw (closed_word s.collection.service, within_largest s.ledger.charged n) (item_row s e n o w)

-- ---- the amount of the item
pub bill_amount : (s : State) (e : Event) → e.kind ≡ bill → min (e.amount + late_charge (s.ledger.charged - credits_by s.ledger)) largest
    ≡ min (charge_of (view s e) e) largest
unfolding view
bill_amount s e z = simp z (omega arith)

-- ---- kinds below 5 concern neither the deposit nor a certificate
low : (e : Event) (k : ℕ) → e.kind < deposit_asked → deposit_asked ≤ k → eqb e.kind k ≡ false
low e k l h = ne_eqb e.kind k (λ z. absurd (omega (arith, z)))

below_five : (e : Event) → (e.kind ≡ bill) ⊎ (e.kind ≡ fee) → e.kind < deposit_asked
below_five e (inl z) = omega (arith, z)
below_five e (inr z) = omega (arith, z)

pub item_low : (e : Event) → only_item e ≡ true → e.kind < deposit_asked
item_low e o = below_five e (either e o)

file_other : (s : State) (e : Event) → concerns e ≡ false → (is certificate e || is approval e) ≡ false → file_after s e ≡ s
file_other s e d m = λ i. with_file s (deposit_other s.deposit e d i) (sym (untouched s.medical e m) i)

file_still : (s : State) (e : Event) → e.kind < deposit_asked → file_after s e ≡ s
file_still s e l =
    file_other s e
    (rw (lt-leb deposit_asked e.kind l, low e final_notice l (omega arith), low e disconnection l (omega arith), low e closing l (omega arith)))
    (rw (low e certificate l (omega arith), low e approval l (omega arith)))

-- the money, then the day
pub way_is : (m a c : List ℕ) (e : Event) (v : View) → e.kind < deposit_asked → Became a (money_after (state_on m) e v) → Became c (service_after (state_on a) e)
    → Became c (applied (state_on m) e v)
way_is m a c e v l p q = steps_are m a a c e v p (record { words_are = p.words_are; state_is = sym (file_still (state_on a) e l) }) q

-- ---- the day and the notice
quiet_same : (c : Collection) (e : Event) (owing : ℕ) → e.kind < deposit_asked → c.notice.live ≡ 0 → c ≡ collection_after c e owing
quiet_same c e owing k n = grind (arith, collection_other c e owing (omega arith))

-- where no notice lives the day is all that changes; for the reader
pub quiet_by_lem : (m : List ℕ) → length m ≡ account_size → (e : Event) → e.kind < deposit_asked → (ys : List ℕ) → ys ≡ e.day ∷ []
    → eqb (collection_on (part sizes 2 (back sizes 1 ys m))).notice.live 0 ≡ true → Became (back sizes 1 ys m) (service_after (state_on m) e)
quiet_by_lem m l e k ys q n =
    let t = then sizes 1 ys (omega arith) (ap length q) (here sizes m l) in
    let none : (state_on m).collection.notice.live ≡ 0 = eqb-true _ 0 (sym (ap (λ cs. eqb (collection_on (get_or cs 2 [])).notice.live 0) t.cuts) ∙ n) in
    let same = quiet_same (state_on m).collection e (arrears_by (state_on m).ledger e.day) k none in
    record { words_are = t.words_are; state_is = ap state_of t.cuts ∙ (λ i. with_service (state_on m) (get_or (q i) 0 0) (same i)) }

-- ---- the money
-- of a payment
payment_arranged : (a : Arrangement) (e : Event) (owing back : ℕ) → e.kind ≡ payment → arrangement_after a e 0 0 ≡ arrangement_after a e owing back
payment_arranged a e owing back z = rw z refl

pub payment_by_lem : (m : List ℕ) (l : length m ≡ account_size) (e : Event) → e.kind ≡ payment
    → (ws : List ℕ) (a : length ws ≡ ledger_size) (ys : List ℕ) (b : length ys ≡ receipts_size) (zs : List ℕ) → length zs ≡ arrangement_size
    → ledger_on ws ≡ ledger_after (state_on m).ledger e false 0 e.amount
    → receipts_on ys ≡ receipts_after (receipts_on (part sizes 6 (back sizes 7 ws m))) e
    → arrangement_on zs ≡ arrangement_after (arrangement_on (part sizes 5 (back sizes 6 ys (back sizes 7 ws m)))) e 0 0
    → Became (back sizes 5 zs (back sizes 6 ys (back sizes 7 ws m))) (money_after (state_on m) e (view (state_on m) e))
payment_by_lem m l e z ws a ys b zs c p q r =
    let v = view (state_on m) e in
    money_by m l e ws a ys b zs v c (p ∙ simp (z, add-zero)) q
    (r ∙ payment_arranged (arrangement_on (part sizes 5 (back sizes 6 ys (back sizes 7 ws m)))) e v.arrears v.payment z)

-- what a payment asks of the ledger
pub payment_ledger : (m : List ℕ) (e : Event) → Free m e → e.kind ≡ payment → LedgerRoom (state_on m).ledger e false 0 e.amount
payment_ledger m e f z =
    let l = (state_on m).ledger in
    let v = view (state_on m) e in
    let adds : charges e ≡ false = rw z in
    let none : charge_of v e ≡ 0 = rw z in
    let paid : credit_of v e ≡ e.amount = simp (z, add-zero) in
    subst (λ b. LedgerRoom l e b 0 e.amount) adds
    (subst (λ n. LedgerRoom l e (charges e) n e.amount) none
    (subst (λ n. LedgerRoom l e (charges e) (charge_of v e) n) paid (free_ledger m e f)))

pub payment_receipt : (m c : List ℕ) (e : Event) (v : View) (n : ℕ) → length m ≡ account_size → WellFormed e → e.kind ≡ payment
    → Became c (applied (state_on m) e v)
    → n ≡ count_by (state_on c).receipts e.option
    → n ≡ receipt_at (state_on m) e
payment_receipt m c e v n l w z b q = let y : cond (is payment e) n 0 ≡ n = rw z in sym y ∙ receipt_by m c e v n l w b q

-- of a bill or a fee
more_by_none : (n : ℕ) → n ≡ n + 0
more_by_none n = omega arith

item_adds : (e : Event) → (e.kind ≡ bill) ⊎ (e.kind ≡ fee) → charges e ≡ true
item_adds e (inl z) = rw z
item_adds e (inr z) = rw z

item_credits : (v : View) (e : Event) → (e.kind ≡ bill) ⊎ (e.kind ≡ fee) → credit_of v e ≡ 0
item_credits v e (inl z) = rw z
item_credits v e (inr z) = rw z

arranged_other : (a : Arrangement) (e : Event) (owing back : ℕ) → is arrangement e ≡ false → is payment e ≡ false → is returned_payment e ≡ false
    → a ≡ arrangement_after a e owing back
arranged_other a e owing back p q r =
    rw (p, q, r) (λ i. record { day = a.day; parts = a.parts; debt = a.debt; paid = more_by_none a.paid i; returned = more_by_none a.returned i })

item_arranged : (a : Arrangement) (e : Event) (owing back : ℕ) → (e.kind ≡ bill) ⊎ (e.kind ≡ fee) → a ≡ arrangement_after a e owing back
item_arranged a e owing back (inl z) = arranged_other a e owing back (rw z) (rw z) (rw z)
item_arranged a e owing back (inr z) = arranged_other a e owing back (rw z) (rw z) (rw z)

item_receipted : (r : Receipts) (e : Event) → (e.kind ≡ bill) ⊎ (e.kind ≡ fee) → r ≡ receipts_after r e
item_receipted r e (inl z) = rw z refl
item_receipted r e (inr z) = rw z refl

no_receipt : (s : State) (e : Event) → (e.kind ≡ bill) ⊎ (e.kind ≡ fee) → 0 ≡ receipt_at s e
no_receipt s e (inl z) = rw z
no_receipt s e (inr z) = rw z

module _ (m : List ℕ) (e : Event) (f : Free m e) (o : only_item e ≡ true) (n : ℕ) (w : n ≡ min (charge_of (view (state_on m) e) e) largest) where
  abbrev looked : View
  looked = view (state_on m) e

  pub item_ledger : LedgerRoom (state_on m).ledger e true n 0
  item_ledger =
      let l = (state_on m).ledger in
      subst (λ b. LedgerRoom l e b n 0) (item_adds e (either e o))
      (subst (λ x. LedgerRoom l e (charges e) x 0) (sym (charge_fits m e f n w))
      (subst (λ x. LedgerRoom l e (charges e) (charge_of looked e) x) (item_credits looked e (either e o)) (free_ledger m e f)))

  item_same : ledger_after (state_on m).ledger e true n 0 ≡ ledger_after (state_on m).ledger e (charges e) (charge_of looked e) (credit_of looked e)
  item_same = λ i. ledger_after (state_on m).ledger e (sym (item_adds e (either e o)) i) (charge_fits m e f n w i) (sym (item_credits looked e (either e o)) i)

  item_by : (ws : List ℕ) → length ws ≡ ledger_size → ledger_on ws ≡ ledger_after (state_on m).ledger e true n 0
      → Became (back sizes 7 ws m) (money_after (state_on m) e looked)
  item_by ws a p =
      let t = then sizes 7 ws (omega arith) a (here sizes m f.fit.words_are) in
      let arranged = item_arranged (state_on m).arrangement e looked.arrears looked.payment (either e o) in
      let receipted = item_receipted (state_on m).receipts e (either e o) in
      record { words_are = t.words_are; state_is = ap state_of t.cuts ∙ (λ i. with_money (state_on m) (arranged i) (receipted i) ((p ∙ item_same) i)) }

  pub item_applied : (ws c : List ℕ) → length ws ≡ ledger_size → ledger_on ws ≡ ledger_after (state_on m).ledger e true n 0
      → Became c (service_after (state_on (back sizes 7 ws m)) e)
      → Applied m e looked c 0
  item_applied ws c a p d =
      record {
        became = way_is m (back sizes 7 ws m) c e looked (item_low e o) (item_by ws a p) d;
        receipt_is = no_receipt (state_on m) e (either e o);
      }
