use Rattle.std.proofs.Common.{◌≡◌, ◌≤◌, map, drop, length}
use Rattle.std.specs.Prelude.{None}
use Rattle.path_steps.specs.Turns.{next_choices}
use Rattle.path_steps.specs.View.{choice}
use Rattle.walk.proofs.choices.next_choices.Given as goal

abbrev pub invariant-loop-at : goal.invariant-loop-at
invariant-loop-at l = record {
  within : l.at ≤ length l.taken;
  others : next_choices (map choice (drop l.at l.taken)) l.count ≡ None;
}

abbrev pub decreases-loop-at : goal.decreases-loop-at
decreases-loop-at l = l.at
