use Rattle.std.proofs.Common.{◌≡◌, drop}
use Rattle.opencl_parser.specs.View.{lexemes}
use Rattle.opencl_files.specs.FileConstants.{are_apart}
use Rattle.opencl_files.proofs.constants.are_apart.Given as goal

abbrev pub invariant-loop-token : goal.invariant-loop-token
invariant-loop-token l = are_apart (lexemes l.head) (lexemes (drop l.token-index l.tokens)) ≡ are_apart (lexemes l.head) (lexemes l.tokens)
