use Rattle.std.proofs.Common.{sym, ◌∙◌}
use Rattle.core_code.specs.View.{kernel as core_seen}
use Rattle.kernel_names.specs.View.{names_seen}
use Rattle.opencl_reading.proofs.Sound.{told-kinds}
use Rattle.opencl_reading.proofs.tested.Goals as goal

pub new-requires-clause-parameters : goal.new-requires-clause-parameters
new-requires-clause-parameters c =
    told-kinds (core_seen c.args.of.core) (names_seen c.args.of.names) (sym c.in_ok-tells_parameters.ensures ∙ c.if-branch.true)
