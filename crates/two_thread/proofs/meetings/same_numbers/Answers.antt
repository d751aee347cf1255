use Rattle.std.proofs.Common.{sym}
use Rattle.two_thread.proofs.Turns.{unequal_lengths}
use Rattle.two_thread.proofs.meetings.same_numbers.Goals as goal

pub returns-then-left-right : goal.returns-then-left-right
returns-then-left-right c = sym (unequal_lengths c.args.left.now c.args.right.now c.if-left-right.true)
