use Prim.Native.Nat.{suc, ◌+◌, ◌-◌}
use mathlib.Core.Path.{◌≡◌, sym, ◌∙◌}
use mathlib.Core.List.{append_assoc, append-nil}
use native.Mathlib.Omega.{arith}
use lib.ListN.{length, take}
use lib.Seq.{sets-eq, drop-drop}
use Rattle.std.proofs.lemmas.List.{take_more_set, take_all}
use Rattle.little.specs.Little.{le}
use Rattle.little.proofs.Numbers.{length_le, length_part}
use Rattle.little.proofs.put.Goals as goal

pub loop-byte-preserved : goal.loop-byte-preserved
unfolding le
loop-byte-preserved c =
    let l = c.loop-byte in
    let q : c.args.p + c.args.w - c.args.p ≡ c.args.w = omega arith in
    let n : length l.byte-items ≡ c.args.w = l.auto.byte-items ∙ rw q (length_part c.args.w c.args.p c.args.out.now c.requires) in
    let w : c.args.w - l.byte-index ≡ suc (c.args.w - (l.byte-index + 1)) = omega (arith, n, l.auto.byte-items) in
    rw (take_more_set l.byte-items l.byte-index _ (omega (arith, n, l.auto.byte-items)), append_assoc) (rw w at l.invariant)

pub returns : goal.returns
unfolding le
returns c =
    let l = c.loop-byte in
    let q : c.args.p + c.args.w - c.args.p ≡ c.args.w = omega arith in
    let n : length l.byte-items ≡ c.args.w = l.auto.byte-items ∙ rw q (length_part c.args.w c.args.p c.args.out.now c.requires) in
    let w : c.args.w - l.byte-index ≡ 0 = omega (arith, n, l.auto.byte-items) in
    let taken : take l.byte-index l.byte-items ≡ le c.args.w c.args.v = rw (w, append-nil) at l.invariant in
    let all : l.byte-items ≡ le c.args.w c.args.v = sym (take_all l.byte-index l.byte-items (omega (arith, n, l.auto.byte-items))) ∙ taken in
    rw (all, q, drop-drop c.args.w c.args.p c.args.out.now)
    (sym (rw (length_le c.args.w c.args.v, append_assoc) at (sets-eq (le c.args.w c.args.v) c.args.out.now c.args.p (omega (arith, length_le c.args.w c.args.v)))))
