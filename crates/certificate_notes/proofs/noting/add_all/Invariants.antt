use Rattle.std.proofs.Common.{◌≡◌, List, [], take, map}
use Rattle.arrivals.specs.Places.{Place}
use Rattle.certificate_text.specs.Certificate.{Certificate}
use Rattle.certificate.specs.EntriesLeft.{with_entries}
use Rattle.certificate.specs.View as view
use Rattle.certificate_notes.specs.Gathered.{gathered}
use Rattle.certificate_notes.specs.NamesView.{names}
use Rattle.certificate_notes.specs.Noted.{noted_by}
use Rattle.certificate_notes.proofs.noting.add_all.Given as goal

abbrev pub invariant-loop-entry : goal.invariant-loop-entry
invariant-loop-entry l = (ps : List Place) (cert : Certificate) → gathered l.initial.gathering ≡ noted_by (names l.names) ps (with_entries [] cert) → gathered l.gathering ≡ noted_by (names l.names) ps (with_entries (map view.entry (take l.entry-index l.entries)) cert)
