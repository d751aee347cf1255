use Rattle.std.proofs.Common.{◌≡◌, drop, map}
use Rattle.certificate.specs.View as view
use Rattle.certificate_notes.specs.Noted as noted
use Rattle.certificate_notes.proofs.ranking_lines.is_bounded.Given as goal

abbrev pub invariant-loop-bound : goal.invariant-loop-bound
invariant-loop-bound l = noted.is_bounded (map view.bound (drop l.bound-index l.bounds)) l.number ≡ noted.is_bounded (map view.bound l.bounds) l.number
