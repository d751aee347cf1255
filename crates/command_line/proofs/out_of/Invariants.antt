use Rattle.std.proofs.Common.{◌≡◌, false, drop}
use Rattle.command_line.specs.Words.{texts, saved_as}
use Rattle.command_line.proofs.out_of.Given as goal

abbrev pub invariant-loop-word : goal.invariant-loop-word
invariant-loop-word l = saved_as l.is_name (texts (drop l.word-index l.words)) ≡ saved_as false (texts l.words)
