use Rattle.std.proofs.Common.{◌≡◌, ◌++◌, drop, map}
use Rattle.linear.specs.Forms.{forms}
use Rattle.launch.specs.View.{requirement}
use Rattle.facts.specs.Launching as launching
use Rattle.facts.proofs.launching.requirement_facts.Given as goal

abbrev pub invariant-loop-requirement : goal.invariant-loop-requirement
invariant-loop-requirement l = forms l.facts.items ++ map launching.required (map requirement (drop l.requirement-index l.requirements)) ≡ forms l.fn.facts.items ++ map launching.required (map requirement l.requirements)
