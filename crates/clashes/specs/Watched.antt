-- A history of the code as that of the definitions, and what is kept of it.
use Rattle.std.specs.Prelude.{◌<◌, List, map, Option, Some, None, vec_len, vec_capacity}
use Rattle.semantics.specs.Setup.{Setup}
use Rattle.semantics.specs.Solo as solo
use Rattle.work_item.specs.Asks.{cell}
use Rattle.clashes.specs.View.{access}
use Rattle.clashes.specs.Elements.{HasRoom}
use Rattle.clashes.specs.Histories.{IsNext, Watches}
use Rattle.clashes.specs.declared.access.Access.{Access}
use Rattle.clashes.specs.declared.history.History.{History}

abbrev pub accesses : History → List solo.Access
accesses h = map access h.accesses.items

-- the watch tells of these accesses
abbrev pub IsWatched : Setup → History → Type 0
IsWatched s h = Watches s (accesses h) h.watch

abbrev pub HasRoomFor : History → Option Access → Type 0
HasRoomFor h None = Unit {0}
HasRoomFor h (Some a) = HasRoom h.watch (cell a.at) × (vec_len h.accesses < vec_capacity h.accesses)

-- an access, if there is one, comes after those so far
abbrev pub AreNext : Setup → List solo.Access → Option Access → Type 0
AreNext s history None = Unit {0}
AreNext s history (Some a) = IsNext s history (access a)
