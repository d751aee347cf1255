-- Kernels at launches and work-items, positions aside.
use Rattle.std.specs.Prelude.{map}
use Rattle.semantics.specs.Setup.{Setup}
use Rattle.semantics.specs.Item.{Entry, Status, Running, Waiting, Ended, Stopped, Item}
use Rattle.texts.specs.Bare.{nowhere}
use Rattle.printer.specs.BareCore.{bare_step, bare_core}

abbrev pub bare_setup : Setup → Setup
bare_setup s = record { kernel = bare_core s.kernel; launch = s.launch; width = s.width }

abbrev pub bare_entry : Entry → Entry
bare_entry e = record { statement = bare_step e.statement; turns = e.turns }

abbrev pub bare_status : Status → Status
bare_status Running = Running
bare_status Waiting = Waiting
bare_status Ended = Ended
bare_status (Stopped fault site) = Stopped fault nowhere

abbrev pub bare_item : Item → Item
bare_item it = record it { left = map bare_entry it.left; status = bare_status it.status }
