use Rattle.core_code.specs.View.{kernel}
use Rattle.kernel_reading.specs.Answers.{kernel_seen}
use Rattle.kernel_reading.specs.Sources.{source}
use Rattle.cert_check.proofs.Sizes.{sizes_fit}
use Rattle.proof_search.proofs.leaving.left_by.Goals as goal

pub left_under-requires-clause-sizes : goal.left_under-requires-clause-sizes
left_under-requires-clause-sizes g c κs within = sizes_fit (kernel c.in-Ok.typed.1) (c.local_sizes_are_within_limits.ensures (source c.args.kernel) (kernel_seen c.in-Ok.typed) c.in-Ok.ensures)
