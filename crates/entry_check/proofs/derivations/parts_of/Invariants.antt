use Rattle.std.proofs.Common.{◌≡◌, ◌++◌, drop, map}
use Rattle.certificate.specs.View.{scaled}
use Rattle.entry_check.specs.Entries.{part_of}
use Rattle.entry_check.proofs.derivations.parts_of.Given as goal

abbrev pub invariant-loop-part : goal.invariant-loop-part
invariant-loop-part l = l.weighted.items ++ map part_of (map scaled (drop l.part-index l.parts)) ≡ map part_of (map scaled l.parts)
