use Rattle.std.proofs.Common.{rules}
use Rattle.std.specs.String.{string_bytes}
use Rattle.printer.proofs.Texts.{one_parameter}
use Rattle.printer.proofs.kernel.push_parameters.Goals as goal

pub loop-parameter-preserved : goal.loop-parameter-preserved
loop-parameter-preserved c =
    (search rules, one_parameter _ c.args.parameters.now c.loop-parameter.parameter-index c.parameter-item.result (string_bytes c.loop-parameter.out) (string_bytes c.push_str.new.self) (string_bytes c.push_parameter.new.out) _ c.loop-parameter-test.true c.parameter-item.is c.in_ok-push_str.ensures.bytes c.in_ok-push_parameter.ensures c.loop-parameter.invariant.1)
