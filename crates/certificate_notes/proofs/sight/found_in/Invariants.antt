use Rattle.std.proofs.Common.{◌≡◌, drop}
use Rattle.certificate_notes.specs.Sights as sights
use Rattle.certificate_notes.proofs.sight.found_in.Given as goal

abbrev pub invariant-loop-found : goal.invariant-loop-found
invariant-loop-found l = sights.found_in (drop l.found-index l.numbers) l.number ≡ sights.found_in l.numbers l.number
