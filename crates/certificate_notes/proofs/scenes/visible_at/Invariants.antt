use Rattle.std.proofs.Common.{◌≡◌, drop, map}
use Rattle.kernel_names.specs.View.{variable}
use Rattle.certificate_notes.specs.Scenes.{all_visible}
use Rattle.certificate_notes.specs.View.{named}
use Rattle.certificate_notes.proofs.scenes.visible_at.Given as goal

abbrev pub invariant-loop-variable : goal.invariant-loop-variable
invariant-loop-variable l = all_visible l.number l.slot (map variable (drop l.variable-index l.variables)) (map named l.here.items) ≡ all_visible l.number l.fn.first (map variable l.variables) (map named l.entry)
