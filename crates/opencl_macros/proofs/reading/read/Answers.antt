use Rattle.std.proofs.Common.{◌≡◌, ◌∙◌, sym, ap, drop, arith}
use Rattle.std.proofs.lemmas.List.{take_rest}
use Rattle.opencl_macros.specs.Reading.{read}
use Rattle.opencl_macros.specs.Seen.{tokens_seen}
use Rattle.opencl_macros.specs.SeenReading.{state}
use Rattle.opencl_macros.proofs.Pieces.{goes, skips}
use Rattle.opencl_macros.proofs.reading.read.Goals as goal

pub loop-at-preserved-then-skip-gt0 : goal.loop-at-preserved-then-skip-gt0
loop-at-preserved-then-skip-gt0 c =
    sym (skips c.args.tokens.now c.loop-at.at c.loop-at.skip (state c.loop-at.s) c.if-skip-gt0.true c.loop-at-test.true)
    ∙ c.loop-at.invariant

pub loop-at-preserved : goal.loop-at-preserved
loop-at-preserved c =
    let ts = c.args.tokens.now in
    let zero_skip : c.loop-at.skip ≡ 0 = omega (arith, c.if-skip-gt0.false) in
    sym (ap (λ k. read k (state c.loop-at.s) (tokens_seen (drop c.loop-at.at ts))) zero_skip
    ∙ goes ts c.loop-at.at (state c.loop-at.s) _ c.loop-at-test.true (rw take_rest at c.in_ok-count.ensures))
    ∙ c.loop-at.invariant
