-- What the head of conditions defines for a text of OpenCL C, as a host gives it to the compiler (OpenCL 1.2, 5.6.4.1).
use Rattle.std.specs.Prelude.{ℕ, List, [], ◌∷◌, ◌++◌, codes, Bool, true, false, cond, Result, Ok, Err}
use Rattle.semantics.specs.Core.{Site}
use Rattle.lines.specs.Identifiers.{all_word_bytes}
use Rattle.texts.specs.Tokens.{first_site}
use Rattle.opencl_tokens.specs.Faults.{TextFault, Preprocessor, Answered}
use Rattle.opencl_tokens.specs.Joining.{Joined, joined_of}
use Rattle.opencl_tokens.specs.Scanning.{tokens_of}
use Rattle.opencl_tokens.specs.Tokens.{TokenKind, Name, Number, Character, Text, Mark, Other, End, Token}
use Rattle.opencl_macros.specs.Compilers.{is_compilers}

-- a name alone stands for 1
abbrev pub ending : (is_alone : Bool) → List ℕ
ending true = codes " 1\n"
ending false = codes "\n"

-- the directive that a line stands for
unfoldable pub directive : (line : List ℕ) → List ℕ
directive line = (codes "#define " ++ line) ++ ending (all_word_bytes line)

-- faults are told at the beginning of the kernel's text
abbrev pub at_first : {A : Type 0} → Result A (TextFault × Site) → Result A (TextFault × Site)
at_first (Ok a) = Ok a
at_first (Err (fault, site)) = Err (fault, first_site)

abbrev pub then : {A B : Type 0} → Result A (TextFault × Site) → (A → Result B (TextFault × Site)) → Result B (TextFault × Site)
then (Ok a) go = go a
then (Err e) go = Err e

-- each directive is a text of its own
abbrev pub joined_line : (line : List ℕ) → Result Joined (TextFault × Site)
joined_line line = at_first (joined_of (directive line))

-- behind those that were joined before
abbrev pub joined_behind : List Joined → (lines : List (List ℕ)) → Answered Joined
joined_behind done [] = Ok done
joined_behind done (line ∷ lines) = then (joined_line line) (λ joined. joined_behind (done ++ joined ∷ []) lines)

abbrev pub is_taken : TokenKind → Bool
is_taken (Name name) = is_compilers name
is_taken (Number spelling) = false
is_taken (Character spelling) = false
is_taken (Text spelling) = false
is_taken (Mark sign) = false
is_taken (Other byte) = false
is_taken End = false

-- `#`, `define`, and a name of which a compiler may have a macro: its headers are read behind what the host defines, and may define it anew
abbrev pub defines_taken : List Token → Bool
defines_taken [] = false
defines_taken (mark ∷ []) = false
defines_taken (mark ∷ word ∷ []) = false
defines_taken (mark ∷ word ∷ name ∷ rest) = is_taken name.kind

abbrev pub free : List Token → Answered Token
free found = cond (defines_taken found) (Err (Preprocessor, first_site)) (Ok found)

abbrev pub line_tokens : Joined → Answered Token
line_tokens joined = then (at_first (tokens_of joined)) free

-- the tokens of all of them, behind other tokens
abbrev pub tokens_behind : List Token → List Joined → Answered Token
tokens_behind done [] = Ok done
tokens_behind done (joined ∷ others) = then (line_tokens joined) (λ found. tokens_behind (done ++ found) others)
