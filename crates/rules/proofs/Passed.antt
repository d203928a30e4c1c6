-- What it tells that no number refuses an event: one fact for each row.
use Prim.Native.Nat.{ℕ, ◌≤◌}
use mathlib.Core.Path.{◌≡◌, refl}
use mathlib.Core.Bool.{Bool, true, false, cond, not, ◌&&◌}
use mathlib.Core.List.{List, [], ◌∷◌}
use lib.Dec.{ltb, eqb}
use borrow.Author.Tests.{ltb-false, eqb-false, not-true, not-false}
use Rattle.std.specs.Prelude.{Option}
use Rattle.std.proofs.lemmas.Bool.{and_parts}
use Rattle.rules.specs.declared.Event.{Event}
use Rattle.rules.specs.declared.View.{View}
use Rattle.rules.specs.declared.Calendar.{Calendar}
use Rattle.rules.specs.Limits.{final_day}
use Rattle.rules.specs.History.{History, last_posted}
use Rattle.rules.specs.Range.{in_range}
use Rattle.rules.specs.Table.{
  Row,
  row4,
  row5,
  row6,
  row7,
  row8,
  row9,
  row10,
  row11,
  row12,
  row13,
  row14,
  row15,
  row16,
  row17,
  row18,
  row19,
  row24,
  table,
  first_of,
  refusal_by,
}
use Rattle.rules.specs.Accepted.{view_of, refusal}

-- an event that the table lets pass
pub record Allowed (v : View) (e : Event) : Type 0 where
  pub r4 : row4 v e ≡ false
  pub r5 : row5 v e ≡ false
  pub r24 : row24 v e ≡ false
  pub r6 : row6 v e ≡ false
  pub r7 : row7 v e ≡ false
  pub r8 : row8 v e ≡ false
  pub r9 : row9 v e ≡ false
  pub r10 : row10 v e ≡ false
  pub r11 : row11 v e ≡ false
  pub r12 : row12 v e ≡ false
  pub r13 : row13 v e ≡ false
  pub r14 : row14 v e ≡ false
  pub r15 : row15 v e ≡ false
  pub r16 : row16 v e ≡ false
  pub r17 : row17 v e ≡ false
  pub r18 : row18 v e ≡ false
  pub r19 : row19 v e ≡ false

-- an event that no number refuses after h
pub record Passed (c : Option Calendar) (h : History) (e : Event) : Type 0 where
  pub in_time : e.day ≤ final_day
  pub in_order : last_posted h ≤ e.day
  pub fields_fit : in_range e ≡ true
  pub allowed : Allowed (view_of c h e) e

-- of a choice that gives 0, where the first part is no 0: it was not taken, and the other is 0
pub skipped : (b : Bool) (n rest : ℕ) → (n ≡ 0 → ⊥) → cond b n rest ≡ 0 → (b ≡ false) × (rest ≡ 0)
skipped true n rest z e = absurd (z e)
skipped false n rest z e = (refl, e)

-- no row of a list refuses
abbrev Free : List Row → View → Event → Type 0
Free [] v e = Unit {0}
Free (r ∷ rs) v e = (r.refuses v e ≡ false) × Free rs v e

-- no row has the number 0
abbrev numbered : List Row → Bool
numbered [] = true
numbered (r ∷ rs) = not (eqb r.number 0) && numbered rs

free : (rs : List Row) (v : View) (e : Event) → numbered rs ≡ true → first_of rs v e 0 ≡ 0 → Free rs v e
free [] v e n p = tt
free (r ∷ rs) v e n p =
    let z = not-true (eqb r.number 0) (and_parts (not (eqb r.number 0)) (numbered rs) n).0 in
    let s = skipped (r.refuses v e) r.number (first_of rs v e 0) (eqb-false r.number 0 z) p in
    (s.0, free rs v e (and_parts (not (eqb r.number 0)) (numbered rs) n).1 s.1)

pub allowed : (v : View) (e : Event) → refusal_by v e ≡ 0 → Allowed v e
unfolding refusal_by
allowed v e p =
    let f = free table v e refl p in
    record {
      r4 = f.0;
      r5 = f.1.0;
      r24 = f.1.1.0;
      r6 = f.1.1.1.0;
      r7 = f.1.1.1.1.0;
      r8 = f.1.1.1.1.1.0;
      r9 = f.1.1.1.1.1.1.0;
      r10 = f.1.1.1.1.1.1.1.0;
      r11 = f.1.1.1.1.1.1.1.1.0;
      r12 = f.1.1.1.1.1.1.1.1.1.0;
      r13 = f.1.1.1.1.1.1.1.1.1.1.0;
      r14 = f.1.1.1.1.1.1.1.1.1.1.1.0;
      r15 = f.1.1.1.1.1.1.1.1.1.1.1.1.0;
      r16 = f.1.1.1.1.1.1.1.1.1.1.1.1.1.0;
      r17 = f.1.1.1.1.1.1.1.1.1.1.1.1.1.1.0;
      r18 = f.1.1.1.1.1.1.1.1.1.1.1.1.1.1.1.0;
      r19 = f.1.1.1.1.1.1.1.1.1.1.1.1.1.1.1.1.0;
    }

pub passed : {c : Option Calendar} (h : History) (e : Event) → refusal c h e ≡ 0 → Passed c h e
passed {c} h e p =
    let one = skipped (ltb final_day e.day) 1 _ (eqb-false 1 0 refl) p in
    let two = skipped (ltb e.day (last_posted h)) 2 _ (eqb-false 2 0 refl) one.1 in
    let three = skipped (not (in_range e)) 3 (refusal_by (view_of c h e) e) (eqb-false 3 0 refl) two.1 in
    record {
      in_time = ltb-false final_day e.day one.0;
      in_order = ltb-false e.day (last_posted h) two.0;
      fields_fit = not-false (in_range e) three.0;
      allowed = allowed (view_of c h e) e three.1;
    }
