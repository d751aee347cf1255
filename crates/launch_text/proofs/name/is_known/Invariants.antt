use Rattle.std.proofs.Common.{◌≡◌, drop, map}
use Rattle.launch_text.specs.LaunchWords.{is_known}
use Rattle.syntax.specs.View.{parameter}
use Rattle.launch_text.proofs.name.is_known.Given as goal

abbrev pub invariant-loop-parameter : goal.invariant-loop-parameter
invariant-loop-parameter l = is_known (map parameter l.parameters) l.word ≡ is_known (map parameter (drop l.parameter-index l.parameters)) l.word
