-- What is printed of one account.
use Rattle.std.specs.Prelude.{ℕ, ◌-◌, ◌≡◌, List, [], ◌∷◌, ◌++◌, length}
use Rattle.std.specs.Fmt.{decimal, signed_decimal}
use Rattle.std.proofs.Math.IntN.{sub_ℕ}
use Rattle.rules.specs.declared.Event.{Event}
use Rattle.rules.specs.History.{History}
use Rattle.rules.specs.Deposit.{held}
use Rattle.rules.specs.Money.{owed, open_items}
use Rattle.rules.specs.Service.{service, word_of}
use Rattle.collection.specs.Collection.{service_by}
use Rattle.ledger.specs.Ledger.{credits_by}
use Rattle.account.specs.State.{state_on}
use Rattle.report.specs.declared.Standing.{Standing}

-- s is where an account stands after the events es, of which h are accepted
pub record Stands (s : Standing) (es : List Event) (h : History) : Type 0 where
  pub owing : sub_ℕ s.charged s.credits ≡ owed h
  pub holding : s.held ≡ held h
  pub opens : s.open_count ≡ length (open_items h)
  pub serving : s.service ≡ service h
  pub refusing : s.refused ≡ length es - length h

-- where the account in memory m stands, of whose events so many were refused
abbrev pub standing_on : List ℕ → ℕ → Standing
standing_on m refused =
    record {
      charged = (state_on m).ledger.charged;
      credits = credits_by (state_on m).ledger;
      held = (state_on m).deposit.held;
      open_count = (state_on m).ledger.made - (state_on m).ledger.closed;
      service = service_by (state_on m).collection.service;
      refused = refused;
    }

-- a word and the byte after it
abbrev pub followed : List ℕ → ℕ → List ℕ
followed w m = w ++ (m ∷ [])

-- index, owed and held; open items, service and refused count
abbrev pub money_part : ℕ → Standing → List ℕ
money_part i s = followed (decimal i) 32 ++ (followed (signed_decimal (sub_ℕ s.charged s.credits)) 32 ++ followed (decimal s.held) 32)

abbrev pub state_part : Standing → List ℕ
state_part s = followed (decimal s.open_count) 32 ++ (followed (word_of s.service) 32 ++ followed (decimal s.refused) 10)

unfoldable pub standing_line : ℕ → Standing → List ℕ
standing_line i s = money_part i s ++ state_part s
