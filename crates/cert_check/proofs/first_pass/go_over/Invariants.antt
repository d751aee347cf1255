use Rattle.std.proofs.Common.{◌≡◌, List, None, length}
use Rattle.certificate_text.specs.Certificate.{Entry}
use Rattle.certificate.specs.EntriesLeft.{with_first}
use Rattle.certificate.specs.EntryCursors.{left, stopped}
use Rattle.certificate_notes.specs.NamesView.{names}
use Rattle.cert_check.proofs.Going.{Gathers, Flags}
use Rattle.cert_check.proofs.first_pass.go_over.Given as goal

abbrev pub invariant-loop-entry : goal.invariant-loop-entry
invariant-loop-entry l =
    (so : List Entry) × (stopped l.entries ≡ None) × (left l.initial.entries ≡ with_first so (left l.entries)) × Gathers (names l.names) l.initial.gathering l.gathering so × Flags l.initial.flags.items l.flags.items so

abbrev pub decreases-loop-entry : goal.decreases-loop-entry
decreases-loop-entry l = length (left l.entries).entries
