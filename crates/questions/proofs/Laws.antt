-- The laws of the parts, together.
use mathlib.Core.Path.{◌≡◌, sym, ap, ◌∙◌}
use mathlib.Core.Bool.{true}
use borrow.Author.Tests.{le-leb}
use Rattle.std.specs.Prelude.{Option}
use Rattle.rules.specs.declared.Calendar.{Calendar}
use Rattle.rules.specs.History.{History}
use Rattle.rules.specs.Workdays.{Taken}
use Rattle.rules.specs.Accepted.{Lawful}
use Rattle.rules.proofs.Bounds.{in_days}
use Rattle.ledger.proofs.Law.{LedgerLaw, ledger_law}
use Rattle.receipts.proofs.Law.{ReceiptsLaw, receipts_law}
use Rattle.deposit.proofs.Law.{DepositLaw, deposit_law}
use Rattle.workdays.specs.Kept.{workdays_of, calendar_by}
use Rattle.workdays.proofs.Law.{calendar_back, workdays_pass, bits_length}
use Rattle.collection.proofs.Law.{CollectionLaw, collection_law}
use Rattle.medical.proofs.Law.{MedicalLaw, medical_law}
use Rattle.arrangement.proofs.Law.{ArrangementLaw, arrangement_law}
use Rattle.account.specs.State.{state_on, words_of, state_ok, account_of, passes}
use Rattle.account.proofs.Words.{Ringed, account_back, words_length}
use Rattle.account.proofs.Exits.{passes_yes}

pub record Laws (c : Option Calendar) (h : History) : Type 0 where
  pub on_ledger : LedgerLaw h
  pub on_receipts : ReceiptsLaw h
  pub on_deposit : DepositLaw h
  pub on_collection : CollectionLaw c h
  pub on_medical : MedicalLaw h
  pub on_arrangement : ArrangementLaw h
  pub calendar_is : calendar_by (workdays_of c) ≡ c
  -- the words of the account are that account, and pass the test
  pub account_is : state_on (words_of (account_of c h)) ≡ account_of c h
  pub passing : passes (words_of (account_of c h)) ≡ true

pub laws : (c : Option Calendar) → Taken c → (h : History) → Lawful c h → Laws c h
unfolding state_ok
laws c k h w =
    let l = ledger_law c h w in
    let r = receipts_law c h w in
    let d = deposit_law c h w in
    let n = collection_law c h w in
    let m = medical_law c h w in
    let a = arrangement_law c h w in
    let g : Ringed (account_of c h) =
    record { receipts_counts = r.counts_size; receipts_ring = r.size; ledger_ring = l.size; workdays_bits = bits_length c k } in
    let b = account_back (account_of c h) g in
    let p : state_ok (account_of c h) ≡ true =
    rw (le-leb _ _ (in_days c h w), n.passes, workdays_pass c k, d.passes, m.passes, a.passes, r.passes, l.passes) in
    record {
      on_ledger = l;
      on_receipts = r;
      on_deposit = d;
      on_collection = n;
      on_medical = m;
      on_arrangement = a;
      calendar_is = calendar_back c;
      account_is = b;
      passing = sym (passes_yes (words_of (account_of c h)) (words_length (account_of c h) g)) ∙ (ap state_ok b ∙ p);
    }
