use Rattle.std.proofs.Common.{◌≡◌, ◌≤◌, drop}
use Rattle.opencl_parser.specs.View.{lexemes}
use Rattle.opencl_files.specs.Functions as functions
use Rattle.opencl_files.specs.View.{looking}
use Rattle.opencl_files.proofs.functions.function_in.Given as goal

abbrev pub invariant-loop-lexeme : goal.invariant-loop-lexeme
invariant-loop-lexeme l = record {
  same : functions.function_in functions.at_first (lexemes l.tokens) ≡ functions.function_in (looking l.looking) (lexemes (drop l.lexeme-index l.tokens));
  few : l.looking.depth ≤ l.lexeme-index;
}
