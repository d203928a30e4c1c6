-- The law of the part: after a lawful history it answers what the rules say.
use Prim.Native.Nat.{ℕ, ◌*◌, ◌≤◌}
use mathlib.Core.Path.{◌≡◌, ap, ◌∙◌}
use mathlib.Core.Bool.{true}
use mathlib.Core.List.{[], ◌∷◌}
use native.Mathlib.Omega.{arith}
use borrow.Author.Tests.{le-leb}
use Rattle.basics.proofs.Cases.{on, on_eq}
use Rattle.std.specs.Prelude.{Option}
use Rattle.rules.specs.declared.Calendar.{Calendar}
use Rattle.rules.specs.Kinds.{payment, arrangement}
use Rattle.rules.specs.Limits.{final_day}
use Rattle.rules.specs.History.{History, is}
use Rattle.rules.specs.Receipts.{named_payment}
use Rattle.rules.specs.Money.{arrears}
use Rattle.rules.specs.Arrangement.{Terms, terms, paid_since, returned_since, in_force}
use Rattle.rules.specs.Accepted.{Lawful}
use Rattle.rules.proofs.Sums.{total_grows, total_since}
use Rattle.rules.proofs.Ranged.{ranged}
use Rattle.rules.proofs.Passed.{passed}
use Rattle.rules.proofs.Bounds.{debt_limit, paid_limit, returned_limit}
use Rattle.arrangement.specs.declared.Arrangement.{Arrangement}
use Rattle.arrangement.specs.Arrangement.{arrangement_after, arrangement_of, in_force_by, arrangement_ok, ArrangementFit}

-- whatever the history, the part holds the rules' values
abbrev said : History → Arrangement
said h = record { day = (terms h).day; parts = (terms h).parts; debt = (terms h).debt; paid = paid_since h; returned = returned_since h }

arrangement_is : (h : History) → arrangement_of h ≡ said h
unfolding arrangement_of
arrangement_is [] = rw (total_grows payment [])
arrangement_is (e ∷ h) =
    ap (λ a. arrangement_after a e (arrears h e.day) (named_payment h e)) (arrangement_is h)
    ∙ rw (total_since payment (is arrangement) e h) (on (is arrangement e) (λ q. rw q) (λ q. rw q))

-- ---- the test
record Agreed (a : Terms) : Type 0 where
  parts_le : a.parts ≤ 6
  day_le : a.day ≤ final_day * a.parts

agreed : (c : Option Calendar) (h : History) → Lawful c h → Agreed (terms h)
agreed c [] w = grind arith
agreed c (e ∷ h) w =
    let p = passed h e w.0 in
    on_eq e.kind arrangement
    (λ q z. let o = ranged arrangement e p.fields_fit z in
    rw q (record { parts_le = o.option_high; day_le = omega (arith, p.in_time, o.option_low) }))
    (λ q z. rw q (agreed c h w.1))

-- ---- the law
pub record ArrangementLaw (h : History) : Type 0 where
  pub in_force_is : (t : ℕ) → in_force_by (arrangement_of h) t ≡ in_force h t
  pub passes : arrangement_ok (arrangement_of h) ≡ true

pub arrangement_law : (c : Option Calendar) (h : History) → Lawful c h → ArrangementLaw h
arrangement_law c h w =
    let a = agreed c h w in
    record {
      in_force_is = λ t. rw (arrangement_is h);
      passes = rw (arrangement_is h)
          (simp (le-leb _ _ a.parts_le, le-leb _ _ a.day_le, le-leb _ _ (debt_limit c h w), le-leb _ _ (paid_limit c h w), le-leb _ _ (returned_limit c h w)));
    }

-- what the test tells
pub arrangement_fit : (a : Arrangement) → arrangement_ok a ≡ true → ArrangementFit a
arrangement_fit a e = grind arith
