use Rattle.std.proofs.Common.{◌+◌, ◌*◌, arith}
use borrow.Author.Tests.{lt-ltb}
use Rattle.arrangement.proofs.Instalment.{instalment_is}
use Rattle.arrangement.proofs.Arrangement.in_force.Goals as goal

pub returns : goal.returns
returns c =
    let a = c.args.self in
    let q = instalment_is a.debt a.parts c.div_ceil-instalment.ensures (omega arith) (omega (arith, c.requires.day_le, c.if-self-t.false)) in
    rw (lt-ltb c.args.t (a.day + 30 * a.parts) c.if-self-t.false, c.min.ensures, q, c.saturating_sub-fallen_due.ensures)
