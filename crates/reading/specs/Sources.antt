-- A kernel's text in the code, as the definition has it.
use Rattle.types.specs.Names.{devices}
use Rattle.reading.specs.Kernels as kernels
use Rattle.reading.specs.declared.Source.{Source}

abbrev pub source : Source → kernels.Source
source s = record { devices = devices s.devices; bytes = s.bytes.now }
