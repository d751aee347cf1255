use Rattle.std.proofs.Common.{◌≡◌, None, length, map}
use Rattle.certificate.specs.EntryCursors.{front, left, stopped}
use Rattle.certificate.specs.EntriesLeft.{with_first}
use Rattle.certificate.specs.View.{entry}
use Rattle.certificate.proofs.entry_reader.Entries.rest.Given as goal

abbrev pub invariant-loop-entries : goal.invariant-loop-entries
invariant-loop-entries l = record {
  starts : stopped l.self ≡ None;
  front : front l.self ≡ front l.fn.self;
  left : left l.fn.self ≡ with_first (map entry l.entries.items) (left l.self);
}

abbrev pub decreases-loop-entries : goal.decreases-loop-entries
decreases-loop-entries l = length (left l.self).entries
