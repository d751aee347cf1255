-- A kernel's text in the code, as the definition has it.
use Rattle.types.specs.Names.{devices}
use Rattle.kernel_reading.specs.Kernels as kernels
use Rattle.kernel_reading.specs.declared.Language.{Language}
use Rattle.kernel_reading.specs.declared.Language.TheVariants as languages
use Rattle.kernel_reading.specs.declared.Reading.{Reading}
use Rattle.kernel_reading.specs.declared.Source.{Source}

abbrev pub language : Language → kernels.Language
language languages.Plain = kernels.Plain
language languages.OpenCl = kernels.OpenCl

abbrev pub reading : Reading → kernels.Reading
reading r = record { language = language r.language; devices = devices r.devices }

abbrev pub source : Source → kernels.Source
source s = record { reading = reading s.reading; conditions = s.conditions.now; bytes = s.bytes.now }
