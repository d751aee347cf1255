use Rattle.std.proofs.Common.{◌<◌, length, arith}
use Rattle.supports.specs.Sets.{members}
use Rattle.supports.proofs.Greatest.{refutes, settled}
use Rattle.board.proofs.Passes.{left, refuted_one, supported_more}
use Rattle.board.proofs.board.Board.pass.Goals as goal

pub loop-candidate-preserved-then-not-is_out : goal.loop-candidate-preserved-then-not-is_out
loop-candidate-preserved-then-not-is_out c =
    let board = c.args.self.now in
    let kept = c.loop-candidate.invariant in
    let words = c.alive-set.result.words in
    let lt : c.loop-candidate.candidate < length board.supports = omega (arith, c.count-candidate-end.ensures.0, c.loop-candidate-test.true) in
    record {
      seat = kept.seat;
      more = kept.more;
      few = omega (arith, kept.few);
      counted = left board c.args.seat.now c.loop-candidate.seat words c.loop-candidate.candidate c.loop-candidate.refuted lt c.requires kept.seat kept.counted kept.more;
      supported = λ none. supported_more board.supports words c.loop-candidate.candidate (kept.supported none) (c.is_out.ensures.not_out c.if-not-is_out.true);
    }

pub refute-requires-clause-candidate : goal.refute-requires-clause-candidate
refute-requires-clause-candidate c =
    let lt : c.loop-candidate.candidate < length c.args.self.now.supports = omega (arith, c.count-candidate-end.ensures.0, c.loop-candidate-test.true) in
    (lt, refutes c.args.self.now.supports (members c.alive-set.result.words) c.loop-candidate.candidate c.alive-set.ensures.read.greatest (c.is_out.ensures.out c.if-not-is_out.false).1)

pub loop-candidate-preserved : goal.loop-candidate-preserved
loop-candidate-preserved c =
    let board = c.args.self.now in
    let kept = c.loop-candidate.invariant in
    let words = c.alive-set.result.words in
    let lt : c.loop-candidate.candidate < length board.supports = omega (arith, c.count-candidate-end.ensures.0, c.loop-candidate-test.true) in
    record {
      seat = c.refute.ensures.seat;
      more = λ k s. c.refute.ensures.more k (kept.more k s);
      few = omega (arith, kept.few);
      counted = refuted_one board c.args.seat.now c.loop-candidate.seat words c.loop-candidate.candidate c.loop-candidate.refuted lt c.requires kept.seat kept.counted c.alive-set.new.seat c.refute.new.seat c.alive-set.ensures.read c.refute.ensures.seat c.refute.ensures.more (c.is_out.ensures.out c.if-not-is_out.false).0 c.refute.ensures.seen;
      supported = λ none. absurd (omega (arith, none));
    }

pub returns-then-refuted-eq0-clause-pass : goal.returns-then-refuted-eq0-clause-pass
returns-then-refuted-eq0-clause-pass c =
    let kept = c.loop-candidate.invariant in
    let n = c.count-candidate-end.ensures.0 in
    let read = c.alive-set.ensures.read in
    record {
      each = settled c.args.self.now.supports (members c.alive-set.result.words) read.greatest read.within
          (λ k e. kept.supported c.if-refuted-eq0.true k (let lt = read.within k e in let over = c.loop-candidate-test.false in omega (arith, n, lt, over)) e);
    }
