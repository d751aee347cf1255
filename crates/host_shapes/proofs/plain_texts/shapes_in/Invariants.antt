use Rattle.std.proofs.Common.{◌≡◌, [], drop, map}
use Rattle.syntax.specs.View.{parameter}
use Rattle.host_shapes.specs.Meant.{meant}
use Rattle.host_shapes.specs.Types.{with_plain}
use Rattle.host_shapes.proofs.plain_texts.shapes_in.Given as goal

abbrev pub invariant-loop-parameter : goal.invariant-loop-parameter
invariant-loop-parameter l =
    with_plain (map meant l.found.items) (map parameter (drop l.parameter-index l.parameters)) ≡ with_plain [] (map parameter l.parameters)
