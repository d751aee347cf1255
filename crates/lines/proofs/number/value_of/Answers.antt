use Rattle.std.proofs.Common.{arith}
use Rattle.lines.proofs.Digits.{grows_at}
use Rattle.lines.proofs.number.value_of.Goals as goal

pub returns-in_default : goal.returns-in_default
returns-in_default c = omega (arith, c.loop-b.invariant, c.in_default.ensures, grows_at c.args.digits.now c.loop-b.b-index c.loop-b.n c.loop-b-test.true)

pub returns-in_default-checked_add : goal.returns-in_default-checked_add
returns-in_default-checked_add c =
    omega (arith, c.loop-b.invariant, c.in-Some.ensures, c.from.ensures, c.saturating_sub.ensures, c.in_default-checked_add.ensures, grows_at c.args.digits.now c.loop-b.b-index c.loop-b.n c.loop-b-test.true)
