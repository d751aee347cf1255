use Rattle.std.proofs.Common.{◌≡◌, drop}
use Rattle.core_code.specs.View.{statements}
use Rattle.sound_cores.specs.Sound.{all_numbered}
use Rattle.sound_cores.proofs.numbering.+numbered.Given as goal

abbrev pub invariant-all_numbered-loop-statement : goal.invariant-all_numbered-loop-statement
invariant-all_numbered-loop-statement l = all_numbered l.free (statements (drop l.statement-index l.statements)) ≡ all_numbered l.next (statements l.statements)
