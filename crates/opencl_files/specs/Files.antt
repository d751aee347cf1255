-- The kernel that is chosen of a file, as it is read; or the first fault and its place.
use Rattle.std.specs.Prelude.{ℕ, List, [], Option, Result, Ok, Err}
use Rattle.opencl_tokens.specs.Lexemes.{Lexeme}
use Rattle.opencl_tree.specs.Tree.{Statements}
use Rattle.opencl_parser.specs.Reader.{Attempt, Took, Refused, run, front}
use Rattle.opencl_files.specs.Faults.{Answer, Text}
use Rattle.opencl_files.specs.FileTree.{Header, KernelText}
use Rattle.opencl_files.specs.Chunks.{Chunk, Cut, chunks_of}
use Rattle.opencl_files.specs.Functions.{Kernel, kernels, chosen}
use Rattle.opencl_files.specs.FileConstants.{with_constants}
use Rattle.opencl_files.specs.Headers.{function}
use Rattle.opencl_files.specs.Fronts.{Gathered, gathered, nothing_yet}

abbrev pub on : {A B : Type 0} → Answer A → (A → Answer B) → Answer B
on (Ok a) next = next a
on (Err e) next = Err e

abbrev pub text_of : Gathered → Attempt (Header × Statements) → Answer KernelText
text_of g (Took f rest) = Ok (record { header = f.0; body = f.1; aliases = g.aliases; enumerations = g.enumerations; functions = g.functions })
text_of g (Refused fault at) = Err (Text fault, at)

-- with what stands before it
abbrev pub text_with : Gathered → List Lexeme → Answer KernelText
text_with g ts = text_of g (run (function g.known) (with_constants g.constants ts))

abbrev pub kernel_text : Kernel → Answer KernelText
kernel_text k = text_with (gathered nothing_yet k.before) k.lexemes

abbrev pub choice : Option (List ℕ) → List Lexeme → Cut → Answer Kernel
choice wanted ts file = chosen (front ts).site file.end wanted (kernels [] [] file.chunks)

-- the kernel of the wanted name, or the only one; the last lexeme is `End`
unfoldable pub chosen_kernel : Option (List ℕ) → List Lexeme → Answer KernelText
chosen_kernel wanted ts = on (chunks_of ts) (λ file. on (choice wanted ts file) kernel_text)
