-- What the code's numbers of declarations, and its ways, stand for.
use Rattle.sound_cores.specs.Declarations as definitions
use Rattle.sound_cores.specs.Unset as unset
use Rattle.sound_cores.specs.declared.declaring.Declared.{Declared}
use Rattle.sound_cores.specs.declared.unset.Ways.{Ways}

abbrev pub declared : Declared → definitions.Declared
declared d = record { slots = d.slots; buffers = d.buffers; arrays = d.arrays }

abbrev pub ways : Ways → unset.Ways
ways w = record { unset = w.unset; after = w.after; broken = w.broken; continued = w.continued }
