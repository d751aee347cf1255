use Rattle.std.proofs.Common.{◌≡◌, [], drop, map}
use Rattle.launch_text.specs.Answers.{bytes}
use Rattle.host_answers.specs.Building.{words_behind}
use Rattle.host_answers.proofs.building.words_of.Given as goal

abbrev pub invariant-loop-line : goal.invariant-loop-line
invariant-loop-line l = words_behind l.found.items (map bytes (drop l.line-index l.lines)) ≡ words_behind [] (map bytes l.lines)
