use Rattle.std.proofs.Common.{◌≡◌, drop}
use Rattle.command_line.specs.Words.{texts, has_wide}
use Rattle.command_line.proofs.is_wide.Given as goal

abbrev pub invariant-loop-word : goal.invariant-loop-word
invariant-loop-word l = has_wide (texts (drop l.word-index l.words)) ≡ has_wide (texts l.words)
