use Rattle.std.proofs.Common.{◌≡◌, drop, map, []}
use Rattle.syntax.specs.View.{parameter}
use Rattle.certificate_notes.specs.Sights as sights
use Rattle.certificate_notes.specs.View.{named}
use Rattle.certificate_notes.proofs.chart.buffers_of.Given as goal

abbrev pub invariant-loop-parameter : goal.invariant-loop-parameter
invariant-loop-parameter l = sights.take_buffers (map parameter (drop l.parameter-index l.parameters)) (map named l.buffers.items) ≡ sights.take_buffers (map parameter l.parameters) []
