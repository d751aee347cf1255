use Rattle.std.proofs.Common.{◌≡◌, ◌+◌, drop}
use Rattle.opencl_parser.specs.View.{lexemes}
use Rattle.opencl_files.specs.FileConstants.{body_at}
use Rattle.opencl_files.proofs.constants.body_at.Given as goal

abbrev pub invariant-loop-token : goal.invariant-loop-token
invariant-loop-token l = record {
  same : body_at (lexemes (drop l.token-index l.tokens)) + l.token-index ≡ body_at (lexemes l.tokens);
  counted : l.at ≡ l.token-index;
}
