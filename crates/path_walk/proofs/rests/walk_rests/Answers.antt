use Rattle.std.proofs.Common.{◌≡◌, ◌+◌, ◌-◌, ◌<◌, length, arith}
use Rattle.path_steps.specs.View.{followed, turns}
use Rattle.arrival_claims.specs.View.{placed}
use Rattle.path_walk.proofs.Leaving.{innermost, passes_more, passes_no_more}
use Rattle.path_walk.proofs.rests.walk_rests.Goals as goal

pub returns-in_err-here : goal.returns-in_err-here
returns-in_err-here g c =
    let k = c.loop-at.at - 1 in
    let q = c.index-rests-at.result in
    let e : c.loop-at.at ≡ k + 1 = omega (arith, c.loop-at-test.true) in
    let h : k < length c.args.rests.now = omega (arith, c.loop-at-test.true, c.loop-at.invariant.within) in
    let d = innermost c.args.rests.now c.loop-at.at k q e h c.index-rests-at.is in
    passes_no_more (placed g.D.Domain c.args.placing.now) c.args.rests.now c.args.flow (followed c.args.path.now) (followed c.loop-at.path) (followed c.walk_rest.new.path) (turns c.args.turns.now) (turns c.loop-at.turns) (turns c.walk_rest.new.turns) c.loop-at.here c.loop-at.at k c.loop-at.invariant.same q d c.from_residual.result c.in_err-here.field-0.0 c.from_residual.ensures c.in_err-here.ensures

pub loop-at-preserved : goal.loop-at-preserved
loop-at-preserved g c =
    let k = c.loop-at.at - 1 in
    let q = c.index-rests-at.result in
    let e : c.loop-at.at ≡ k + 1 = omega (arith, c.loop-at-test.true) in
    let h : k < length c.args.rests.now = omega (arith, c.loop-at-test.true, c.loop-at.invariant.within) in
    let d = innermost c.args.rests.now c.loop-at.at k q e h c.index-rests-at.is in
    record {
      within = omega (arith, c.loop-at.invariant.within);
      same = passes_more (placed g.D.Domain c.args.placing.now) c.args.rests.now c.args.flow (followed c.args.path.now) (followed c.loop-at.path) (followed c.walk_rest.new.path) (turns c.args.turns.now) (turns c.loop-at.turns) (turns c.walk_rest.new.turns) c.loop-at.here c.loop-at.at k c.loop-at.invariant.same q d c.in_ok-here.here c.in_ok-here.ensures;
    }
