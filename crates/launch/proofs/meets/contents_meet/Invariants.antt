use Rattle.std.proofs.Common.{◌≡◌, drop}
use Rattle.launch.specs.View.{launch}
use Rattle.launch.specs.Unmet.{unmet_contents}
use Rattle.launch.proofs.meets.contents_meet.Given as goal

abbrev pub invariant-loop-content : goal.invariant-loop-content
invariant-loop-content l = unmet_contents (launch l.launch) (drop l.content-index l.contents) ≡ unmet_contents (launch l.launch) l.contents
