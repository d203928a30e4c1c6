use Prim.Native.Nat.{◌<◌}
use mathlib.Core.Path.{◌≡◌, refl, ap, ◌∙◌}
use native.Mathlib.Omega.{arith}
use borrow.Author.Rules.{rules}
use lib.ListN.{length}
use Rattle.little.specs.Little.{num, un}
use Rattle.little.proofs.Numbers.{read_more, read_fits, read_all, length_part, part_is}
use Rattle.little.proofs.get.Goals as goal

pub loop-byte-init : goal.loop-byte-init
unfolding un
loop-byte-init c = record { value = refl; small = omega arith }

pub overflow_mul-number : goal.overflow_mul-number
overflow_mul-number c =
    let l = c.loop-byte in
    let rest = c.iter.ensures.rest ∙ part_is c.args.w c.args.p c.args.b.now (omega arith) in
    let long : length c.iter.result.rest.now ≡ c.args.w = rw rest (length_part c.args.w c.args.p c.args.b.now c.requires.within) in
    omega (
      arith,
      read_fits _ c.iter.result.rest.now (cc) l.yielded l.byte-iterator l.yielded_by c.next.result c.next.new.self c.next.ensures.steps
          l.number c.args.w c.in-Some.byte c.in-Some.is l.invariant long c.requires.narrow,
    )

pub overflow_add-number : goal.overflow_add-number
overflow_add-number c =
    let l = c.loop-byte in
    let rest = c.iter.ensures.rest ∙ part_is c.args.w c.args.p c.args.b.now (omega arith) in
    let long : length c.iter.result.rest.now ≡ c.args.w = rw rest (length_part c.args.w c.args.p c.args.b.now c.requires.within) in
    let byte : c.from.result < 256 = search rules in
    omega (
      arith,
      byte,
      read_fits _ c.iter.result.rest.now (cc) l.yielded l.byte-iterator l.yielded_by c.next.result c.next.new.self c.next.ensures.steps
          l.number c.args.w c.in-Some.byte c.in-Some.is l.invariant long c.requires.narrow,
    )

pub loop-byte-preserved : goal.loop-byte-preserved
loop-byte-preserved c = read_more c.loop-byte.yielded c.loop-byte.number c.in-Some.byte c.from.result c.loop-byte.invariant c.from.ensures (search rules)

pub returns : goal.returns
unfolding num
returns c =
    let l = c.loop-byte in
    let rest = c.iter.ensures.rest ∙ part_is c.args.w c.args.p c.args.b.now (omega arith) in
    let long : length c.iter.result.rest.now ≡ c.args.w = rw rest (length_part c.args.w c.args.p c.args.b.now c.requires.within) in
    let all = read_all _ c.iter.result.rest.now (cc) l.yielded l.byte-iterator l.yielded_by c.next.result c.next.new.self c.next.ensures.steps
    l.number c.args.w c.in-None.is l.invariant long in
    record { value = all.0 ∙ ap un rest; small = all.1 }
