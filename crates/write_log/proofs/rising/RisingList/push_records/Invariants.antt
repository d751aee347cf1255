use Rattle.std.proofs.Common.{◌≡◌}
use Rattle.write_log.specs.Elements.{first_entries}
use Rattle.write_log.proofs.rising.RisingList.push_records.Given as goal

abbrev pub invariant-loop-place : goal.invariant-loop-place
invariant-loop-place l = l.records.items ≡ first_entries l.self.stretches.items l.self.bits.items l.place
