use Rattle.std.proofs.Common.{◌≡◌, ◌≤◌, drop, map}
use Rattle.launch_text.specs.LaunchSums.{value_number}
use Rattle.syntax.specs.View.{parameter}
use Rattle.launch_text.proofs.sum.value_number.Given as goal

abbrev pub invariant-loop-parameter : goal.invariant-loop-parameter
invariant-loop-parameter l = record {
  few : l.before ≤ l.parameter-index;
  same : value_number 0 (map parameter l.parameters) l.word ≡ value_number l.before (map parameter (drop l.parameter-index l.parameters)) l.word;
}
