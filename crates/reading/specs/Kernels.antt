-- What the bytes of a kernel's text say where it is read for some devices: its tree, its core and its map of names, or the first
-- fault with its place: of the text, else of the tree, else of its types.
use Rattle.std.specs.Prelude.{ℕ, List, Result, Ok, Err}
use Rattle.semantics.specs.Launch as launch
use Rattle.semantics.specs.Core.{Site}
use Rattle.texts.specs.Faults.{TextFault}
use Rattle.texts.specs.ParseFaults.{ParseFault}
use Rattle.types.specs.TypeFaults.{TypeFault, Checked}
use Rattle.texts.specs.Tokens.{Lexed, tokens_of}
use Rattle.texts.specs.Lexemes.{lexemes}
use Rattle.texts.specs.Surface as surface
use Rattle.types.specs.Scope.{Devices}
use Rattle.types.specs.Elaboration.{elaborate}
use Rattle.kernel_names.specs.NameMap.{NameMap, names_of}
use Rattle.parser.specs.Parsed.{Parsed, parsed}

-- a kernel's text, and the devices that it is read for
pub record Source : Type 0 where
  pub devices : Devices
  pub bytes : List ℕ

abbrev pub text_for : Devices → List ℕ → Source
text_for d bytes = record { devices = d; bytes = bytes }

pub data Fault : Type 0 where
  OfText : (fault : TextFault) → Fault
  OfTree : (fault : ParseFault) → Fault
  OfTypes : (fault : TypeFault) → Fault

pub record Kernel : Type 0 where
  pub tree : surface.Kernel
  pub core : launch.Kernel
  pub names : NameMap

abbrev pub Read : Type 0
Read = Result Kernel (Fault × Site)

abbrev pub of_types : surface.Kernel → Checked launch.Kernel → Read
of_types tree (Ok core) = Ok (record { tree = tree; core = core; names = names_of tree })
of_types tree (Err (fault, site)) = Err (OfTypes fault, site)

abbrev pub of_tree : Devices → Parsed → Read
of_tree d (Ok tree) = of_types tree (elaborate d tree)
of_tree d (Err (fault, site)) = Err (OfTree fault, site)

abbrev pub of_tokens : Devices → Lexed → Read
of_tokens d (Ok tokens) = of_tree d (parsed (lexemes tokens))
of_tokens d (Err (fault, site)) = Err (OfText fault, site)

unfoldable pub read : Source → Read
read s = of_tokens s.devices (tokens_of s.bytes)
