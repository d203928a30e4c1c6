use Prim.Native.Nat.{◌+◌, ◌*◌, ◌-◌}
use mathlib.Core.Path.{◌≡◌}
use native.Mathlib.Omega.{arith}
use Rattle.account.specs.State.{account_size}
use Rattle.account.proofs.Others.{leaves_at}
use Rattle.account.proofs.many.post_at.Goals as goal

pub returns-then-i-n : goal.returns-then-i-n
returns-then-i-n c =
    let a = c.args in
    let z : a.i * account_size + account_size - a.i * account_size ≡ account_size = omega arith in
    leaves_at a.i (a.i * account_size + account_size - a.i * account_size) a.all.now c.post.new.m a.e c.post.result z (omega
    (arith, c.if-i-n.true)) c.post.ensures.answer_is c.post.ensures.words_are
