-- Work-items of the code as those of the definitions.
use Rattle.std.specs.Prelude.{◌+◌, ◌<◌, ◌^◌, map}
use Rattle.semantics.specs.Item as meaning
use Rattle.words.specs.View.{word, fault}
use Rattle.core_code.specs.View.{site}
use Rattle.work_item.specs.Left.{left}
use Rattle.work_item.specs.declared.item.Status.{Status}
use Rattle.work_item.specs.declared.item.Status.TheVariants as statuses
use Rattle.work_item.specs.declared.item.Item.{Item}

abbrev pub status : Status → meaning.Status
status statuses.Running = meaning.Running
status statuses.Waiting = meaning.Waiting
status statuses.Ended = meaning.Ended
status (statuses.Stopped f s) = meaning.Stopped (fault f) (site s)

abbrev pub item : Item → meaning.Item
item it = record {
  left = left it.left;
  variables = map word it.variables.items;
  answers = map word it.answers.items;
  local_epoch = it.local_epoch;
  global_epoch = it.global_epoch;
  steps = it.steps;
  status = status it.status;
}

-- epochs of 64 bits have room for one more
abbrev pub HasEpochs : meaning.Item → Type 0
HasEpochs it = (it.local_epoch + 1 < 2 ^ 64) × (it.global_epoch + 1 < 2 ^ 64)
