use Rattle.std.proofs.Common.{◌≡◌, [], drop, map}
use Rattle.launch_text.specs.Answers.{bytes}
use Rattle.opencl_tokens.specs.Seen.{joined}
use Rattle.opencl_reading.specs.Defines.{joined_behind}
use Rattle.opencl_reading.proofs.defines.joined_lines.Given as goal

abbrev pub invariant-loop-line : goal.invariant-loop-line
invariant-loop-line l = joined_behind (map joined l.found.items) (map bytes (drop l.line-index l.lines)) ≡ joined_behind [] (map bytes l.lines)
