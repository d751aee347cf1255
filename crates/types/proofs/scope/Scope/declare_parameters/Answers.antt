use Rattle.std.proofs.Common.{arith, ◌∙◌}
use Rattle.syntax.specs.View.{parameter as parameter_of}
use Rattle.types.specs.Names.{scope_seen}
use Rattle.types.proofs.Rooms.{parameter-grown, next-parameters, fewer-parameters}
use Rattle.types.proofs.scope.Scope.declare_parameters.Goals as goal

pub loop-parameter-preserved : goal.loop-parameter-preserved
loop-parameter-preserved c =
    let ps = c.args.parameters.now in
    let i = c.loop-parameter.parameter-index in
    let p = c.parameter-item.result in
    let sc = scope_seen c.loop-parameter.self in
    let after = scope_seen c.declare_parameter.new.self in
    let done = c.in_ok-declare_parameter.ensures in
    record {
      room = omega (arith, c.loop-parameter.invariant.room, parameter-grown sc (parameter_of p) after done, fewer-parameters ps i p c.loop-parameter-test.true);
      same = next-parameters ps i p sc after c.loop-parameter-test.true c.parameter-item.is done ∙ c.loop-parameter.invariant.same;
    }
