use Rattle.std.proofs.Common.{◌≡◌, ◌++◌, drop, map}
use Rattle.certificate.specs.View.{step as step_seen}
use Rattle.cut_proof.specs.View.{line}
use Rattle.entry_check.specs.Entries.{line_of}
use Rattle.entry_check.proofs.derivations.lines_of.Given as goal

abbrev pub invariant-loop-step : goal.invariant-loop-step
invariant-loop-step l = map line l.lines.items ++ map line_of (map step_seen (drop l.step-index l.steps)) ≡ map line_of (map step_seen l.steps)
