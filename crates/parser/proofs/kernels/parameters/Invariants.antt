use Rattle.std.proofs.Common.{◌≡◌, ◌-◌}
use Rattle.std.specs.Prelude.{map}
use Rattle.syntax.specs.View.{parameter}
use Rattle.parser.specs.Reader.{run}
use Rattle.parser.specs.View.{lexemes}
use Rattle.parser.specs.Kernels.{parameters_reader, more_parameters}
use Rattle.parser.proofs.ParameterLists.{in_list}
use Rattle.parser.proofs.kernels.parameters.Given as goal

abbrev pub invariant-loop-count : goal.invariant-loop-count
invariant-loop-count l = run parameters_reader (lexemes l.fn.tokens) ≡ in_list (map parameter l.list.items) (run (more_parameters (80 - l._count)) (lexemes l.rest))
