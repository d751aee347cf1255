use Rattle.kernel_reading.specs.Sources.{source}
use Rattle.core_code.specs.View.{kernel}
use Rattle.kernel_reading.specs.Answers.{kernel_seen}
use Rattle.cert_check.proofs.Sizes.{sizes_fit}
use Rattle.case_parts.proofs.least.push_guesses.Goals as goal

pub table-requires-clause-sizes : goal.table-requires-clause-sizes
table-requires-clause-sizes g c κs within =
    let has_sizes = c.local_sizes_are_within_limits.ensures (source c.narrow.result) (kernel_seen c.in-Ok.typed) c.in-Ok.ensures in
    sizes_fit (kernel c.in-Ok.typed.1) has_sizes

pub guess-requires : goal.guess-requires
guess-requires g c =
    let has_sizes = c.local_sizes_are_within_limits.ensures (source c.narrow.result) (kernel_seen c.in-Ok.typed) c.in-Ok.ensures in
    record { sizes = sizes_fit (kernel c.in-Ok.typed.1) has_sizes }
