use Rattle.std.proofs.Common.{◌≡◌, drop, map}
use Rattle.certificate_text.specs.Rules as rules
use Rattle.certificate.specs.View as view
use Rattle.certificate.proofs.narrow.are_narrow_entries.Given as goal

abbrev pub invariant-loop-entry : goal.invariant-loop-entry
invariant-loop-entry l = rules.all rules.is_narrow_entry (map view.entry (drop l.entry-index l.entries)) ≡ rules.all rules.is_narrow_entry (map view.entry l.entries)
