use Rattle.std.proofs.Common.{◌≡◌, drop}
use Rattle.opencl_parser.specs.View.{lexemes}
use Rattle.opencl_files.specs.FileConstants.{names}
use Rattle.opencl_files.proofs.constants.names.Given as goal

abbrev pub invariant-loop-token : goal.invariant-loop-token
invariant-loop-token l = names l.name (lexemes (drop l.token-index l.tokens)) ≡ names l.name (lexemes l.tokens)
