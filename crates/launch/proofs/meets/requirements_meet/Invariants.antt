use Rattle.std.proofs.Common.{◌≡◌, drop}
use Rattle.launch.specs.View.{launch}
use Rattle.launch.specs.Unmet.{unmet_requirements}
use Rattle.launch.proofs.meets.requirements_meet.Given as goal

abbrev pub invariant-loop-requirement : goal.invariant-loop-requirement
invariant-loop-requirement l = unmet_requirements (launch l.launch) (drop l.requirement-index l.requirements) ≡ unmet_requirements (launch l.launch) l.requirements
