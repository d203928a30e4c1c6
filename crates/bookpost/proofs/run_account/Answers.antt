use Rattle.std.proofs.Common.{List, sym, subst, ◌∙◌, map-id, arith}
use Rattle.std.proofs.lemmas.Iterator.Consumers.{YieldsList-from_first, YieldsList-turn, YieldsList-end}
use Rattle.rules.specs.declared.Event.{Event}
use Rattle.bookformat.specs.Finding.{book_account}
use Rattle.bookformat.proofs.Found.{account_small}
use Rattle.claim.specs.Claim.{Ran}
use Rattle.claim.proofs.Walk.{walked_fit, walked_leaves, few, one_more, one_at_most, ran}
use Rattle.bookpost.proofs.run_account.Goals as goal

pub judge-answer-requires : goal.judge-answer-requires
judge-answer-requires c = let l = c.loop-e in walked_fit l.yielded l.m l.refused l.invariant

pub overflow_add-refused : goal.overflow_add-refused
overflow_add-refused c =
    let l = c.loop-e in
    let b = c.args.book in
    let road = YieldsList-from_first (λ (x : Event). x) (λ (rest : List Event). rest) {s = c.into_iter-e-iterator.result} (book_account b.bytes.now c.args.i) (cc) in
    let turn = YieldsList-turn road l.yielded l.e-iterator l.yielded_by c.next.result c.next.new.self c.in-Some.e c.in-Some.is c.next.ensures.steps in
    omega (arith, turn.0, few l.yielded l.m l.refused l.invariant, account_small b.bytes.now c.args.i b.sound, c.refusals-refused.ensures, one_at_most)

pub loop-e-preserved : goal.loop-e-preserved
loop-e-preserved c =
    let l = c.loop-e in
    let j = c.judge-answer in
    let leaves = walked_leaves l.yielded l.m l.refused l.invariant c.in-Some.e j.result j.new.m (j.array_long ∙ sym (walked_fit l.yielded l.m l.refused l.invariant).words_are) j.ensures in
    one_more l.yielded l.m l.refused l.invariant c.in-Some.e j.result j.new.m c.refusals-refused.result leaves c.refusals-refused.ensures

pub returns : goal.returns
returns c =
    let l = c.loop-e in
    let road = YieldsList-from_first (λ (x : Event). x) (λ (rest : List Event). rest) {s = c.into_iter-e-iterator.result} (book_account c.args.book.bytes.now c.args.i) (cc) in
    let all = YieldsList-end road l.yielded l.e-iterator l.yielded_by c.next.result c.next.new.self c.in-None.is c.next.ensures.steps in
    subst (Ran l.m l.refused) (sym (map-id l.yielded) ∙ all.0) (ran l.yielded l.m l.refused l.invariant)
