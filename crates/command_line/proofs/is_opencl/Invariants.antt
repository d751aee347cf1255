use Rattle.std.proofs.Common.{◌≡◌, drop}
use Rattle.command_line.specs.Words.{texts, has_opencl}
use Rattle.command_line.proofs.is_opencl.Given as goal

abbrev pub invariant-loop-word : goal.invariant-loop-word
invariant-loop-word l = has_opencl (texts (drop l.word-index l.words)) ≡ has_opencl (texts l.words)
