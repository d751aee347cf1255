use Rattle.std.proofs.Common.{subst, arith}
use Rattle.supports.specs.Sets.{members, HoldsGreatest}
use Rattle.board.proofs.Readings.{closed}
use Rattle.board.proofs.board.Board.close.Goals as goal

pub returns-clause-greatest : goal.returns-clause-greatest
returns-clause-greatest c =
    let over = c.loop-i-test.false in
    subst (λ t. HoldsGreatest t (members c.loop-i.words)) c.args.self.same
    (closed c.args.self.table.shared.key c.args.seat.id c.args.seat.me.0 _ _ c.loop-i.words c.close_with-closed.ensures.values.2 c.loop-i.invariant.eight (λ k lt. c.loop-i.invariant.found k (omega arith))).0

pub returns-clause-lacks : goal.returns-clause-lacks
returns-clause-lacks c =
    let over = c.loop-i-test.false in
    (closed c.args.self.table.shared.key c.args.seat.id c.args.seat.me.0 _ _ c.loop-i.words c.close_with-closed.ensures.values.2 c.loop-i.invariant.eight (λ k lt. c.loop-i.invariant.found k (omega arith))).1
