-- What is left of a work-item, gone over entry by entry.
use Rattle.std.specs.Prelude.{List, Bool, ◌&&◌, nat_eq}
use Rattle.semantics.specs.Core.{number}
use Rattle.semantics.specs.Item.{Entry, local_flag, global_flag}
use Rattle.core_code.specs.View.{statement}
use Rattle.work_item.specs.Left.{fronted}
use Rattle.work_item.specs.declared.left.Frame.{Frame}
use Rattle.work_item.specs.declared.trail.Rest.{Rest}

abbrev pub entry : Frame → Entry
entry f = record { statement = statement f.statement.now; turns = f.turns }

abbrev pub rest : Rest → List Entry
rest r = fronted r.front r.around.now

-- what tells two entries apart
abbrev pub is_same_entry : Entry → Entry → Bool
is_same_entry e f =
    nat_eq (number e.statement) (number f.statement) && (nat_eq e.turns f.turns && (nat_eq (local_flag e.statement) (local_flag f.statement) && nat_eq (global_flag e.statement) (global_flag f.statement)))
