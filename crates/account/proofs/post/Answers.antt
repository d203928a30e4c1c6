use Rattle.std.proofs.Common.{◌≡◌, rules, arith, sym, subst, ◌∙◌}
use Rattle.account.specs.State.{Fit}
use Rattle.account.specs.Post.{Judges}
use Rattle.account.proofs.Exits.{passed_size, passed_fit, leaves_judged, leaves_failed}
use Rattle.account.proofs.post.Goals as goal

pub judge-requires : goal.judge-requires
judge-requires c =
    let same : c.unwrap.result.now ≡ c.args.m.now = grind arith in
    subst Fit (sym same) (passed_fit c.args.m.now (sym c.passes.ensures ∙ c.if-passes.true))

pub returns-then-passes : goal.returns-then-passes
returns-then-passes c =
    leaves_judged c.args.m.now c.args.e c.judge.result c.judge.new.m (sym c.passes.ensures ∙ c.if-passes.true)
    (search rules) (subst (λ n. Judges n c.args.e c.judge.result c.judge.new.m) (grind arith) c.judge.ensures)

pub returns-else-passes : goal.returns-else-passes
returns-else-passes c = leaves_failed c.args.m.now c.args.e (sym c.passes.ensures ∙ c.if-passes.false)

pub unwrap-requires : goal.unwrap-requires
unwrap-requires c = let l = passed_size c.args.m.now (sym c.passes.ensures ∙ c.if-passes.true) in grind arith
