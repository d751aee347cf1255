use Rattle.std.proofs.Common.{arith}
use Rattle.board.proofs.Passes.{counted_more, counted_below}
use Rattle.houdini.proofs.worker.work.Goals as goal

pub loop-greatest-smaller : goal.loop-greatest-smaller
loop-greatest-smaller g c =
    let board = c.args.board.now in
    let read = counted_more board c.loop-greatest.seat c.alive-set.new.seat c.loop-greatest.invariant c.alive-set.ensures.seat c.alive-set.ensures.more in
    let examined = counted_more board c.alive-set.new.seat c.examine_all.new.seat c.alive-set.ensures.seat c.examine_all.ensures.seat c.examine_all.ensures.more in
    let passed = c.in-Refuted.ensures.pass in
    let below = counted_below board c.pass.new.seat c.pass.ensures.seat in
    omega (arith, read, examined, passed.0, passed.1, below)
