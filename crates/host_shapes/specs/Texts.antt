-- The kernel that a text of OpenCL C has for a head of conditions, by the tokens of which `opencl_reading` reads its core.
use Rattle.std.specs.Prelude.{ℕ, List, [], Option, Some, None, Result, Ok, Err}
use Rattle.semantics.specs.Core.{Site}
use Rattle.launch_text.specs.HeadReading.{Head}
use Rattle.opencl_tokens.specs.Joining.{Joined, joined_of}
use Rattle.opencl_tokens.specs.Tokens.{Token}
use Rattle.opencl_tokens.specs.Scanning.{tokens_of}
use Rattle.opencl_tokens.specs.Lexemes.{Lexeme}
use Rattle.opencl_tokens.specs.Reading.{lexemes_of}
use Rattle.opencl_macros.specs.Reading.{preprocessed}
use Rattle.opencl_files.specs.FileTree.{KernelText}
use Rattle.opencl_files.specs.Files.{chosen_kernel}
use Rattle.opencl_reading.specs.Defines.{joined_behind, tokens_behind}
use Rattle.opencl_reading.specs.Kernels.{constants}
use Rattle.host_shapes.specs.Meant.{Meant}
use Rattle.host_shapes.specs.Types.{shapes_in}

-- goes on where there is no fault
abbrev pub good : {A B F : Type 0} → Result A F → (A → Option B) → Option B
good (Ok a) go = go a
good (Err e) go = None

abbrev pub of_lexemes : Head → List Lexeme → Option (List Meant)
of_lexemes h ts = good (chosen_kernel h.kernel ts) (shapes_in h.locals)

abbrev pub of_expanded : Head → List Token → Option (List Meant)
of_expanded h ts = good (lexemes_of ts) (of_lexemes h)

abbrev pub with_given : Head → (text given : List Token) → Option (List Meant)
with_given h ts gs = good (preprocessed gs ts) (of_expanded h)

abbrev pub with_texts : Head → (text given : List Token) → List Joined → Option (List Meant)
with_texts h ts gs lines = good (tokens_behind gs lines) (with_given h ts)

abbrev pub with_defines : Head → (text given : List Token) → Option (List Meant)
with_defines h ts gs = good (joined_behind [] h.defines) (with_texts h ts gs)

abbrev pub with_lines : Head → List Token → Joined → Option (List Meant)
with_lines h ts lines = good (tokens_of lines) (with_defines h ts)

abbrev pub of_tokens : Head → List Token → Option (List Meant)
of_tokens h ts = good (joined_of constants) (with_lines h ts)

abbrev pub of_lines : Head → Joined → Option (List Meant)
of_lines h lines = good (tokens_of lines) (of_tokens h)

abbrev pub of_opencl : Head → (bytes : List ℕ) → Option (List Meant)
of_opencl h bytes = good (joined_of bytes) (of_lines h)
