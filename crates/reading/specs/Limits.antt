-- The limits of local sizes (ours).
use Rattle.semantics.specs.Launch.{Kernel}
use Rattle.texts.specs.KernelLimits.{IsLocalSize}

-- each dimension of a work-group has 1 to 1,024 items
abbrev pub HasLocalSizes : Kernel → Type 0
HasLocalSizes k = IsLocalSize k.sizes.x × IsLocalSize k.sizes.y × IsLocalSize k.sizes.z
