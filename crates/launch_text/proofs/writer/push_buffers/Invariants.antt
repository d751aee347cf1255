use Rattle.std.proofs.Common.{◌≡◌, ◌≤◌, ◌++◌, drop, map}
use Rattle.std.specs.String.{string_bytes}
use Rattle.launch_text.specs.LaunchText as text
use Rattle.syntax.specs.View.{parameter}
use Rattle.launch_text.specs.View as view
use Rattle.launch_text.proofs.writer.push_buffers.Given as goal

abbrev pub invariant-loop-parameter : goal.invariant-loop-parameter
invariant-loop-parameter l = record {
  few : l.at ≤ l.parameter-index;
  same :
      string_bytes l.out ++ text.buffers_text (map parameter (drop l.parameter-index l.parameters)) (map view.words (drop l.at l.buffers))
      ≡ string_bytes l.initial.out ++ text.buffers_text (map parameter l.parameters) (map view.words l.buffers);
}
