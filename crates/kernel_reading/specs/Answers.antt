-- What the code answers, as the definition has it.
use Rattle.std.specs.Prelude.{ℕ, ◌≡◌, Bool, true, false, nat_eq, Option, Some, None, Result, Ok, Err}
use Rattle.core_code.specs.View as core
use Rattle.kernel_names.specs.View.{names_seen}
use Rattle.typed_kernels.specs.TypedKernel.{TypedKernel}
use Rattle.lexer.specs.Seen as lexer
use Rattle.lexer.specs.declared.TextError.TheVariants as texts
use Rattle.parser.specs.View as parser
use Rattle.parser.specs.declared.error.ParseError.TheVariants as trees
use Rattle.types.specs.Answers as types
use Rattle.types.specs.declared.error.TypeError.TheVariants as typing
use Rattle.reading.specs.Kernels.{OfText, OfTree, OfTypes}
use Rattle.reading.specs.Answers as plain
use Rattle.reading.specs.declared.KernelError as plain_code
use Rattle.reading.specs.declared.KernelError.TheVariants as plain_errors
use Rattle.opencl_reading.specs.Answers as opencl
use Rattle.launch_text.specs.Answers as conditions
use Rattle.launch_text.specs.declared.error.LaunchTextError.TheVariants as launch_errors
use Rattle.kernel_reading.specs.Kernels.{Kernel, Read, OfHead, OfPlain, OfOpenCl, Headed, at_first}
use Rattle.kernel_reading.specs.declared.KernelError.{KernelError}
use Rattle.kernel_reading.specs.declared.KernelError.TheVariants as errors

abbrev pub kernel_seen : TypedKernel → Kernel
kernel_seen (names, found) = record { core = core.kernel found; names = names_seen names }

-- an error is the definition's, unless memory was refused
abbrev pub Refuses : KernelError → Read → Type 0
Refuses (errors.Plain (plain_errors.Text (texts.At f line column))) answer = answer ≡ Err (OfPlain (OfText (lexer.fault f)), record { line = line; column = column })
Refuses (errors.Plain (plain_errors.Tree (trees.At f s))) answer = answer ≡ Err (OfPlain (OfTree (parser.fault f)), core.site s)
Refuses (errors.Plain (plain_errors.Types (typing.At f s))) answer = answer ≡ Err (OfPlain (OfTypes (types.fault f)), core.site s)
Refuses (errors.Plain e) answer = Unit {0}
Refuses (errors.OpenCl e) answer = opencl.Tells (λ fault. OfOpenCl fault) e answer
Refuses (errors.Head (launch_errors.Refused f line)) answer = answer ≡ Err (OfHead (conditions.fault f), record { line = line; column = 1 })
Refuses (errors.Head launch_errors.Memory) answer = Unit {0}
Refuses errors.Headed answer = answer ≡ Err (Headed, at_first)

abbrev pub Gives : Result TypedKernel KernelError → Read → Type 0
Gives (Ok typed) answer = answer ≡ Ok (kernel_seen typed)
Gives (Err error) answer = Refuses error answer

-- whether it is a fault of the plain language, and not want of memory
abbrev pub is_fault : plain_code.KernelError → Bool
is_fault (plain_errors.Text texts.Memory) = false
is_fault (plain_errors.Tree trees.Memory) = false
is_fault (plain_errors.Types typing.Memory) = false
is_fault e = true

-- the number that an error is printed under, and its place, where it has one
abbrev pub error_number : KernelError → ℕ
error_number (errors.Plain e) = plain.error_number e
error_number (errors.OpenCl e) = opencl.error_number e
error_number (errors.Head e) = conditions.error_number e
error_number errors.Headed = 35

-- whether something of OpenCL C is left out at its place
abbrev pub is_left_out : KernelError → Bool
is_left_out (errors.OpenCl e) = nat_eq (opencl.error_number e) 15
is_left_out e = false

abbrev pub error_place : KernelError → Option (ℕ × ℕ)
error_place (errors.Plain e) = plain.error_place e
error_place (errors.OpenCl e) = opencl.error_place e
error_place (errors.Head (launch_errors.Refused f line)) = Some (line, 1)
error_place (errors.Head launch_errors.Memory) = None
error_place errors.Headed = Some (1, 1)
