-- What it is for bytes to be the text of a kernel, in the grammar's own words, where it is read for some devices.
use Rattle.std.specs.Prelude.{◌≡◌, ℕ, List, Ok}
use Rattle.texts.specs.Tokens.{Token, tokens_of}
use Rattle.texts.specs.Lexemes.{lexemes}
use Rattle.texts.specs.KernelGrammar.{IsKernel}
use Rattle.texts.specs.KernelLimits.{IsWithinLimits}
use Rattle.types.specs.Elaboration.{elaborate}
use Rattle.kernel_names.specs.NameMap.{names_of}
use Rattle.reading.specs.Kernels.{Kernel, Source}

-- the tokens of the bytes are those of the tree, with at most 64 brackets open at once; the tree is within the limits,
-- and has the core and the names
pub record IsTextOf (s : Source) (k : Kernel) : Type 0 where
  pub tokens : List Token
  pub are_tokens : tokens_of s.bytes ≡ Ok tokens
  pub in_grammar : IsKernel 64 (lexemes tokens) k.tree
  pub within_limits : IsWithinLimits k.tree
  pub is_typed : elaborate s.devices k.tree ≡ Ok k.core
  pub is_named : k.names ≡ names_of k.tree
