-- Whether an event was possible, by what it answered.
use Rattle.std.specs.Prelude.{Bool, true, false}
use Rattle.machine.specs.declared.world.Applied.{Applied}
use Rattle.machine.specs.declared.world.Applied.TheVariants as answers

abbrev pub was_possible : Applied → Bool
was_possible answers.Done = true
was_possible answers.NotPossible = false
was_possible (answers.Faulted f at) = true
