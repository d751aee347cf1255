use Rattle.std.proofs.Common.{◌≡◌, map, drop, length}
use Rattle.types.specs.Elaboration.{declare_parameters}
use Rattle.syntax.specs.View.{parameter as parameter_of}
use Rattle.types.specs.Names.{scope_seen}
use Rattle.types.specs.Rooms.{HasRoom}
use Rattle.types.proofs.scope.Scope.declare_parameters.Given as goal

abbrev pub invariant-loop-parameter : goal.invariant-loop-parameter
invariant-loop-parameter l = record {
  room : HasRoom (scope_seen l.self) (length (drop l.parameter-index l.parameters));
  same : declare_parameters (scope_seen l.self) (map parameter_of (drop l.parameter-index l.parameters)) ≡ declare_parameters (scope_seen l.initial.self) (map parameter_of l.parameters);
}
