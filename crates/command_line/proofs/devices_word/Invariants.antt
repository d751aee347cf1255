use Rattle.std.proofs.Common.{◌≡◌, false, drop}
use Rattle.command_line.specs.Words.{texts, devices_as}
use Rattle.command_line.proofs.devices_word.Given as goal

abbrev pub invariant-loop-word : goal.invariant-loop-word
invariant-loop-word l = devices_as l.is_name (texts (drop l.word-index l.words)) ≡ devices_as false (texts l.words)
