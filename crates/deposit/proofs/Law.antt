-- The law of the part: after a lawful history it answers what the rules say.
use Prim.Native.Nat.{ℕ, ◌+◌, ◌≤◌}
use mathlib.Core.Path.{◌≡◌, sym, ap, ◌∙◌}
use mathlib.Core.Bool.{true, ◌&&◌, and_assoc}
use mathlib.Core.List.{[], ◌∷◌}
use native.Mathlib.Omega.{arith}
use borrow.Author.Tests.{le-leb}
use Rattle.basics.proofs.Cases.{on}
use Rattle.std.specs.Prelude.{Option}
use Rattle.rules.specs.declared.Calendar.{Calendar}
use Rattle.rules.specs.Kinds.{deposit_asked, deposit_paid}
use Rattle.rules.specs.Limits.{final_day}
use Rattle.rules.specs.Dates.{year_later, has_come}
use Rattle.rules.specs.History.{History, last_posted}
use Rattle.rules.specs.Deposit.{moves, held, required, full, full_on, earned}
use Rattle.rules.specs.Accepted.{Lawful}
use Rattle.rules.proofs.Sums.{total_grows, total_since, newest_since}
use Rattle.rules.proofs.Bounds.{sorted, in_days, held_in_lem}
use Rattle.deposit.specs.declared.Deposit.{Deposit}
use Rattle.deposit.specs.Conduct.{conduct_of, conduct_ok}
use Rattle.deposit.specs.Deposit.{deposit_after, deposit_of, earned_by, deposit_ok, DepositFit}
use Rattle.deposit.proofs.Windows.{conduct_kept, quiet_is}
use Rattle.deposit.proofs.Full.{paid_on, paid_in, full_is}

-- whatever the history, the part holds the rules' values, and the day of the newest deposit paid
pub deposit_is : (h : History) → deposit_of h ≡ record { held = held h; required = required h; full_on = paid_on h; conduct = conduct_of h }
unfolding deposit_of conduct_of
deposit_is [] = rw (total_grows deposit_paid [])
deposit_is (e ∷ h) =
    ap (λ d. deposit_after d e) (deposit_is h)
    ∙ rw (total_since deposit_paid moves e h, newest_since deposit_asked moves e h)

conduct_ok_lem : (c : Option Calendar) (h : History) → Lawful c h → conduct_ok (conduct_of h) ≡ true
conduct_ok_lem c h w =
    let k = conduct_kept h (sorted c h w) in
    let d = in_days c h w in
    simp (
      le-leb (conduct_of h).first (final_day + 1) (omega arith),
      le-leb _ _ k.two,
      le-leb _ _ k.three,
      le-leb (conduct_of h).cut (final_day + 1) (omega arith),
    )

-- the same date one year after the newest deposit paid, of a full deposit
long_is : (c : Option Calendar) (h : History) → Lawful c h → (t : ℕ) → (full h && has_come (year_later (paid_on h)) t) ≡ (full h && has_come (year_later (full_on h)) t)
long_is c h w t = on (full h) (λ f. rw (full_is c h w f)) (λ f. rw f)

pub record DepositLaw (h : History) : Type 0 where
  pub held_is : (deposit_of h).held ≡ held h
  pub required_is : (deposit_of h).required ≡ required h
  pub full_is : full h ≡ true → (deposit_of h).full_on ≡ full_on h
  pub earned_is : (t : ℕ) → last_posted h ≤ t → earned_by (deposit_of h) t ≡ earned h t
  pub passes : deposit_ok (deposit_of h) ≡ true

pub deposit_law : (c : Option Calendar) (h : History) → Lawful c h → DepositLaw h
deposit_law c h w =
    let k = held_in_lem c h w in
    record {
      held_is = rw (deposit_is h);
      required_is = rw (deposit_is h);
      full_is = λ f. rw (deposit_is h) (full_is c h w f);
      earned_is = λ t l. rw (deposit_is h, quiet_is h t (sorted c h w) l, long_is c h w t) (sym (and_assoc (full h && has_come (year_later (full_on h)) t) _ _));
      passes = rw (deposit_is h) (simp (le-leb _ _ k.held_le, le-leb _ _ k.required_le, le-leb _ _ (paid_in c h w), conduct_ok_lem c h w));
    }

-- what the test tells
pub deposit_fit : (d : Deposit) → deposit_ok d ≡ true → DepositFit d
deposit_fit d e = grind arith
