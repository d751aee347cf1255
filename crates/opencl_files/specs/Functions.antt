-- The kernels of a file, and the one that is chosen (OpenCL 1.2, 6.7.1).
use Rattle.std.specs.Prelude.{ℕ, ◌+◌, ◌-◌, List, [], ◌∷◌, ◌++◌, Bool, true, false, cond, ◌&&◌, ◌||◌, nat_eq, bytes_eq, Option, None, Some, Result, Ok, Err}
use Rattle.semantics.specs.Core.{Site}
use Rattle.opencl_tokens.specs.Words as words
use Rattle.opencl_tokens.specs.Signs as signs
use Rattle.opencl_tokens.specs.Lexemes.{Lexeme, LexemeKind, Word, Name, Mark}
use Rattle.opencl_parser.specs.Faults.{Expected}
use Rattle.opencl_files.specs.Faults.{FileFault, Answer, Text, NoKernel, KernelTwice, SeveralKernels}
use Rattle.opencl_files.specs.Chunks.{Turn, Opens, Closes, Bracket, Parenthesis, turn_of, Chunk}

abbrev pub is_kernel : LexemeKind → Bool
is_kernel (Word words.Kernel) = true
is_kernel kind = false

-- a function by its name
pub record Named : Type 0 where
  pub name : List ℕ
  pub site : Site
  pub is_kernel : Bool

-- how many brackets are open, whether the word `kernel` stood, and the name outside brackets that stands directly before
pub record Looking : Type 0 where
  pub depth : ℕ
  pub is_kernel : Bool
  pub last : Option (List ℕ × Site)

-- brackets of a chunk match, so they need but be counted
abbrev pub depth_behind : ℕ → Turn → ℕ
depth_behind depth (Opens b) = depth + 1
depth_behind depth (Closes b) = depth - 1
depth_behind depth turn = depth

abbrev pub name_outside : ℕ → Lexeme → Option (List ℕ × Site)
name_outside depth t = cond (nat_eq depth 0) (of_kind t.kind) None
  where
    of_kind : LexemeKind → Option (List ℕ × Site)
    of_kind (Name x) = Some (x, t.site)
    of_kind kind = None

abbrev pub is_parenthesis : LexemeKind → Bool
is_parenthesis (Mark signs.LeftParenthesis) = true
is_parenthesis kind = false

-- a name with a parenthesis directly behind it is that of a function
abbrev pub function_at : Looking → LexemeKind → Option Named
function_at l kind = cond (is_parenthesis kind) (of_last l.last) None
  where
    of_last : Option (List ℕ × Site) → Option Named
    of_last None = None
    of_last (Some x) = Some (record { name = x.0; site = x.1; is_kernel = l.is_kernel })

abbrev pub looked : Looking → Lexeme → Looking
looked l t = record { depth = depth_behind l.depth (turn_of t.kind); is_kernel = l.is_kernel || is_kernel t.kind; last = name_outside l.depth t }

abbrev pub or_else : Option Named → Option Named → Option Named
or_else None later = later
or_else (Some found) later = Some found

-- the first function of lexemes; what an attribute has stands in brackets
abbrev pub function_in : Looking → List Lexeme → Option Named
function_in l [] = None
function_in l (t ∷ ts) = or_else (function_at l t.kind) (function_in (looked l t) ts)

abbrev pub at_first : Looking
at_first = record { depth = 0; is_kernel = false; last = None }

-- a kernel: the chunks before it, its own lexemes, its name and the place of that
pub record Kernel : Type 0 where
  pub before : List Chunk
  pub lexemes : List Lexeme
  pub name : List ℕ
  pub site : Site

-- a chunk that ends with a brace has a body
abbrev pub kernel_named : List Chunk → Chunk → Option Named → Option Kernel
kernel_named before c None = None
kernel_named before c (Some f) = cond (f.is_kernel && c.is_braced) (Some (record { before = before; lexemes = c.lexemes; name = f.name; site = f.site })) None

unfoldable pub kernel_in : List Chunk → Chunk → Option Kernel
kernel_in before c = kernel_named before c (function_in at_first c.lexemes)

abbrev pub with_found : List Kernel → Option Kernel → List Kernel
with_found so None = so
with_found so (Some k) = so ++ k ∷ []

-- behind those that were found, and the chunks before
abbrev pub kernels : (so : List Kernel) (before : List Chunk) → List Chunk → List Kernel
kernels so before [] = so
kernels so before (c ∷ cs) = kernels (with_found so (kernel_in before c)) (before ++ c ∷ []) cs

-- those of a name, behind those that were found
abbrev pub of_name : List ℕ → (so : List Kernel) → List Kernel → List Kernel
of_name x so [] = so
of_name x so (k ∷ ks) = of_name x (cond (bytes_eq k.name x) (so ++ k ∷ []) so) ks

-- the one that there is; with the fault that a second one is
abbrev pub only : (first : Site) → FileFault → List Kernel → Answer Kernel
only first fault [] = Err (NoKernel, first)
only first fault (k ∷ []) = Ok k
only first fault (k ∷ second ∷ ks) = Err (fault, second.site)

-- of a file's kernels with a body, that of the wanted name, or the only one; `first` and `end` are where the file begins and ends
abbrev pub chosen : (first end : Site) → Option (List ℕ) → List Kernel → Answer Kernel
chosen first end wanted [] = Err (Text Expected, end)
chosen first end None (k ∷ ks) = only first SeveralKernels (k ∷ ks)
chosen first end (Some x) (k ∷ ks) = only first KernelTwice (of_name x [] (k ∷ ks))
