use Rattle.types.proofs.KernelNames.{not-called}
use Rattle.types.proofs.naming.well_typed_kernels_are_not_called.Goals as goal

pub returns : goal.returns
returns c = not-called
