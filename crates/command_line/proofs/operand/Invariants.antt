use Rattle.std.proofs.Common.{◌≡◌, false, drop}
use Rattle.std.specs.Prelude.{slice_get}
use Rattle.command_line.specs.Words.{texts, operands}
use Rattle.command_line.proofs.operand.Given as goal

abbrev pub invariant-loop-word : goal.invariant-loop-word
invariant-loop-word l = slice_get (operands l.is_value (texts (drop l.word-index l.words))) l.left ≡ slice_get (operands false (texts l.words)) l.n
