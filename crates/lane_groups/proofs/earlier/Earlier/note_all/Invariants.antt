use Rattle.std.proofs.Common.{◌≡◌, map, drop}
use Rattle.semantics.specs.Memory.{Cell}
use Rattle.semantics.specs.Rounds.{log_of}
use Rattle.lane_groups.specs.Stores.{store}
use Rattle.lane_groups.specs.Earlier.{kept}
use Rattle.lane_groups.proofs.earlier.Earlier.note_all.Given as goal

abbrev pub invariant-loop-store : goal.invariant-loop-store
invariant-loop-store l = (c : Cell) → log_of (map store (drop l.store-index l.stores)) c (kept l.self c) ≡ log_of (map store l.stores) c (kept l.fn.self c)
