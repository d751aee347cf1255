use Rattle.syntax.specs.View.{kernel}
use Rattle.core_code.specs.View.{kernel as core}
use Rattle.kernel_names.specs.View.{names_seen}
use Rattle.types.specs.Names.{devices}
use Rattle.types.proofs.Parameters.{few_parameters, tells_parameters}
use Rattle.types.proofs.check.check_types.Goals as goal

pub new-requires-clause-few : goal.new-requires-clause-few
new-requires-clause-few c = few_parameters (kernel c.args.tree) c.in_ok-names.names c.in_ok-names.ensures c.requires

pub new-requires-clause-parameters : goal.new-requires-clause-parameters
new-requires-clause-parameters c =
    tells_parameters (devices c.args.devices) (kernel c.args.tree) (core c.in_ok-core.core) (names_seen c.in_ok-names.names) c.in_ok-names.ensures c.in_ok-core.ensures
