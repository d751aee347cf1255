-- Where a statement stands, as the definitions have it.
use Rattle.types.specs.Elaboration as elaboration
use Rattle.types.specs.declared.jumps.Around.{Around}
use Rattle.types.specs.declared.jumps.Around.TheVariants as arounds

abbrev pub around : Around → elaboration.Around
around arounds.InKernel = elaboration.InKernel
around arounds.InBlock = elaboration.InBlock
around (arounds.InLoop n) = elaboration.InLoop n
