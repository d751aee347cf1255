-- What an accepted kernel keeps.
use Rattle.typed_kernels.specs.TypedKernel.{TypedKernel}
use Rattle.launch.specs.declared.conditions.Conditions.{Conditions}
use Rattle.cert_check.specs.declared.accepted.Accepted.{Accepted}

abbrev pub typed_of : Accepted → TypedKernel
typed_of a = a.typed

abbrev pub kept : Accepted → Conditions
kept a = a.conditions
