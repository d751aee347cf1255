-- What the code answers, as the definition has it.
use Rattle.std.specs.Prelude.{ℕ, ◌≡◌, Option, Result, Ok, Err}
use Rattle.lexer.specs.Seen as lexer
use Rattle.lexer.specs.declared.TextError.TheVariants as texts
use Rattle.parser.specs.View as parser
use Rattle.parser.specs.Parsed as parsed
use Rattle.parser.specs.declared.error.ParseError.TheVariants as trees
use Rattle.syntax.specs.View.{kernel}
use Rattle.core_code.specs.View.{site}
use Rattle.types.specs.declared.typed.TypedTree.{TypedTree}
use Rattle.kernel_names.specs.View.{names_seen}
use Rattle.types.specs.Answers as types
use Rattle.core_code.specs.View as core
use Rattle.types.specs.declared.error.TypeError.TheVariants as typing
use Rattle.reading.specs.Kernels.{Kernel, Read, OfText, OfTree, OfTypes}
use Rattle.reading.specs.declared.KernelError.{KernelError}
use Rattle.reading.specs.declared.KernelError.TheVariants as errors

abbrev pub kernel_seen : TypedTree → Kernel
kernel_seen t = record { tree = kernel t.tree; core = core.kernel t.typed.1; names = names_seen t.typed.0 }

-- an error is the definition's, unless memory was refused
abbrev pub Refuses : KernelError → Read → Type 0
Refuses (errors.Text (texts.At f line column)) answer = answer ≡ Err (OfText (lexer.fault f), record { line = line; column = column })
Refuses (errors.Tree (trees.At f s)) answer = answer ≡ Err (OfTree (parser.fault f), site s)
Refuses (errors.Types (typing.At f s)) answer = answer ≡ Err (OfTypes (types.fault f), site s)
Refuses error answer = Unit {0}

abbrev pub Gives : Result TypedTree KernelError → Read → Type 0
Gives (Ok typed) answer = answer ≡ Ok (kernel_seen typed)
Gives (Err error) answer = Refuses error answer

-- the number that an error is printed under, and its place, where it has one
abbrev pub error_number : KernelError → ℕ
error_number (errors.Text error) = lexer.error_number error
error_number (errors.Tree error) = parsed.error_number error
error_number (errors.Types error) = types.error_number error

abbrev pub error_place : KernelError → Option (ℕ × ℕ)
error_place (errors.Text error) = lexer.error_place error
error_place (errors.Tree error) = parsed.error_place error
error_place (errors.Types error) = types.error_place error
