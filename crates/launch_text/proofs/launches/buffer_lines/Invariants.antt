use Rattle.std.proofs.Common.{◌≡◌, ◌-◌, drop, map}
use Rattle.launch_text.specs.LaunchWords.{each}
use Rattle.launch_text.specs.LaunchReading.{most_words, words_of, buffer_due, buffer_lines}
use Rattle.syntax.specs.View.{parameter}
use Rattle.launch_text.specs.Answers.{cursor}
use Rattle.launch_text.specs.View.{buffers}
use Rattle.launch_text.proofs.launches.buffer_lines.Given as goal

abbrev pub invariant-loop-parameter : goal.invariant-loop-parameter
invariant-loop-parameter l = record {
  left : l.room ≡ most_words - words_of (buffers l.buffers);
  same :
      buffer_lines (map parameter l.parameters) (cursor l.at)
      ≡ each (buffer_due (map parameter l.parameters)) (buffers l.buffers) (map parameter (drop l.parameter-index l.parameters)) (cursor l.rest);
}
