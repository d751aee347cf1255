-- What tokens are read as: the one kernel within the limits, or a fault and its place.
use Rattle.std.specs.Prelude.{◌≡◌, ℕ, List, Option, None, Some, Result, Ok, Err}
use Rattle.semantics.specs.Core as core
use Rattle.texts.specs.Lexemes.{Lexeme}
use Rattle.texts.specs.ParseFaults as rules
use Rattle.texts.specs.ParseFaults.{parse_fault_number}
use Rattle.texts.specs.Limits as limits
use Rattle.texts.specs.Limits.{within_limits}
use Rattle.texts.specs.Ended.{EndsOnce}
use Rattle.texts.specs.KernelGrammar.{IsKernel}
use Rattle.texts.specs.KernelLimits.{IsKept, IsWithinLimits}
use Rattle.texts.specs.Surface as surface
use Rattle.syntax.specs.View.{kernel}
use Rattle.core_code.specs.View.{site}
use Rattle.core_code.specs.declared.tree.Site.{Site}
use Rattle.syntax.specs.declared.tree.Kernel.{Kernel}
use Rattle.parser.specs.Reader.{Attempt, Took, Refused, front, run}
use Rattle.parser.specs.Kernels.{kernel_reader}
use Rattle.parser.specs.View.{fault}
use Rattle.parser.specs.Counted.{counts}
use Rattle.parser.specs.declared.counts.Counts as code
use Rattle.parser.specs.declared.stops.ParseFault.{ParseFault}
use Rattle.parser.specs.declared.error.ParseError.{ParseError}
use Rattle.parser.specs.declared.error.ParseError.TheVariants as errors

abbrev pub Parsed : Type 0
Parsed = Result surface.Kernel (rules.ParseFault × core.Site)

abbrev pub judged : surface.Kernel → Result limits.Counts (rules.ParseFault × core.Site) → Parsed
judged k (Ok c) = Ok k
judged k (Err e) = Err e

abbrev pub finished : Attempt surface.Kernel → Parsed
finished (Took k rest) = judged k (within_limits k)
finished (Refused f rest) = Err (f, (front rest).site)

unfoldable pub parsed : List Lexeme → Parsed
parsed ts = finished (run kernel_reader ts)

-- an error is the definition's, unless memory was refused
abbrev pub Fails : ParseError → Parsed → Type 0
Fails (errors.At f s) answer = answer ≡ Err (fault f, site s)
Fails errors.Memory answer = Unit {0}

abbrev pub Gives : Result Kernel ParseError → Parsed → Type 0
Gives (Ok k) answer = answer ≡ Ok (kernel k)
Gives (Err e) answer = Fails e answer

-- what an answer says of the grammar: the kernel is one of these lexemes, within the limits; or these lexemes have no kernel that keeps the
-- limit of which the fault speaks
abbrev pub Says : Result Kernel ParseError → List Lexeme → Type 0
Says (Ok k) ts = EndsOnce ts → IsKernel 64 ts (kernel k) × IsWithinLimits (kernel k)
Says (Err (errors.At f s)) ts = (room : ℕ) (k : surface.Kernel) → IsKernel room ts k → IsKept (fault f) room ts k → ⊥
Says (Err errors.Memory) ts = Unit {0}

abbrev pub Measures : Result code.Counts (ParseFault × Site) → Result limits.Counts (rules.ParseFault × core.Site) → Type 0
Measures (Ok c) answer = answer ≡ Ok (counts c)
Measures (Err e) answer = answer ≡ Err (fault e.0, site e.1)

abbrev pub error_number : ParseError → ℕ
error_number (errors.At f s) = parse_fault_number (fault f)
error_number errors.Memory = 90

abbrev pub error_place : ParseError → Option (ℕ × ℕ)
error_place (errors.At f s) = Some (s.line, s.column)
error_place errors.Memory = None
