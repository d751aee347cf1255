-- Kernels that are the same but for positions.
use Rattle.std.specs.Prelude.{◌≡◌, List, Ok}
use Rattle.texts.specs.Tokens.{Token}
use Rattle.texts.specs.Lexemes.{lexemes}
use Rattle.texts.specs.Reading.{Reads}
use Rattle.texts.specs.KernelGrammar.{IsKernel}
use Rattle.texts.specs.KernelLimits.{IsWithinLimits}
use Rattle.types.specs.Elaboration.{elaborate}
use Rattle.texts.specs.Bare.{bare_kernel}
use Rattle.kernel_names.specs.NameMap.{names_of}
use Rattle.reading.specs.Kernels.{Kernel, Source}
use Rattle.printer.specs.BareCore.{bare_core}

pub record AreAlike (k l : Kernel) : Type 0 where
  pub tree : bare_kernel k.tree ≡ bare_kernel l.tree
  pub core : bare_core k.core ≡ bare_core l.core

-- the bytes are the text of the kernel for these devices, but for the limit of bytes
pub record IsTextAtAnyLength (s : Source) (k : Kernel) : Type 0 where
  pub tokens : List Token
  pub are_tokens : Reads s.bytes 0 s.bytes tokens
  pub in_grammar : IsKernel 64 (lexemes tokens) k.tree
  pub within_limits : IsWithinLimits k.tree
  pub is_typed : elaborate s.devices k.tree ≡ Ok k.core
  pub is_named : k.names ≡ names_of k.tree
