use Rattle.std.proofs.Common.{◌≡◌, ◌≤◌, [], drop, map}
use Rattle.std.specs.Prelude.{string_bytes}
use Rattle.opencl_parser.specs.View.{lexemes}
use Rattle.opencl_reading.specs.Answers.{looking}
use Rattle.opencl_reading.specs.FileNames.{at_first, with_names}
use Rattle.opencl_reading.proofs.names.names_in.Given as goal

abbrev pub invariant-loop-token : goal.invariant-loop-token
invariant-loop-token l = record {
  same : with_names (looking l.now) (map string_bytes l.found.items) (lexemes (drop l.token-index l.tokens)) ≡ with_names at_first [] (lexemes l.tokens);
  few : l.now.depth ≤ l.token-index;
  few_within : l.now.within ≤ l.token-index;
}
