use Rattle.std.proofs.Common.{◌≡◌, false, drop}
use Rattle.command_line.specs.Words.{texts, workers_as}
use Rattle.command_line.proofs.workers_word.Given as goal

abbrev pub invariant-loop-word : goal.invariant-loop-word
invariant-loop-word l = workers_as l.is_number (texts (drop l.word-index l.words)) ≡ workers_as false (texts l.words)
