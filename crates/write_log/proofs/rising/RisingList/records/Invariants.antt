use Rattle.std.proofs.Common.{◌≡◌, length}
use Rattle.write_log.specs.Elements.{border, first_entries}
use Rattle.write_log.proofs.rising.RisingList.records.Given as goal

abbrev pub invariant-loop-number : goal.invariant-loop-number
invariant-loop-number l = l.records.items ≡ first_entries l.self.stretches.items l.self.bits.items (border l.self.stretches.items (length l.self.bits.items) l.number)
