use Rattle.std.proofs.Common.{◌≡◌, drop}
use Rattle.opencl_parser.specs.View.{lexemes}
use Rattle.opencl_reading.specs.Overloads.{first_overloading}
use Rattle.opencl_reading.proofs.overloads.first_overloading.Given as goal

abbrev pub invariant-loop-token : goal.invariant-loop-token
invariant-loop-token l = first_overloading (lexemes (drop l.token-index l.tokens)) ≡ first_overloading (lexemes l.tokens)
