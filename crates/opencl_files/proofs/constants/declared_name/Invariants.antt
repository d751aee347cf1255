use Rattle.std.proofs.Common.{◌≡◌, None, drop}
use Rattle.std.specs.Option.{option_map}
use Rattle.opencl_parser.specs.View.{lexemes, text_seen}
use Rattle.opencl_files.specs.FileConstants.{declared_name}
use Rattle.opencl_files.proofs.constants.declared_name.Given as goal

abbrev pub invariant-loop-token : goal.invariant-loop-token
invariant-loop-token l =
    declared_name (option_map text_seen l.so) (lexemes (drop l.token-index l.tokens)) ≡ declared_name None (lexemes l.tokens)
