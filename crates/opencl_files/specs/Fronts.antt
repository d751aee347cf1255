-- What stands before a kernel in its file and is heeded: names of types (C99 6.7.7), enumerations (C99 6.7.2.2), constants (C99 6.9.2) and
-- functions with a body (C99 6.9.1).
use Rattle.std.specs.Prelude.{ℕ, zero, suc, List, [], ◌∷◌, ◌++◌, Bool, true, false, cond, ◌&&◌, nat_lt, length, Option, None, Some, is_some}
use Rattle.semantics.specs.Core.{Site}
use Rattle.opencl_tokens.specs.Words as words
use Rattle.opencl_tokens.specs.Lexemes.{Lexeme, LexemeKind, Word, Name}
use Rattle.opencl_tree.specs.Tree.{Expression, Declaration, Statements}
use Rattle.opencl_parser.specs.Faults.{TooMany}
use Rattle.opencl_parser.specs.Reader.{Reader, Gives, Fails, Looks, Passes, Then, expects, takes, Attempt, Took, Refused, run, front, behind}
use Rattle.opencl_parser.specs.Signs.{is_comma}
use Rattle.opencl_parser.specs.TypeNames.{Known}
use Rattle.opencl_parser.specs.Expressions.{level}
use Rattle.opencl_parser.specs.Declarations.{is_equal, is_left_brace, is_right_brace, new_name, alias}
use Rattle.opencl_parser.specs.Statements.{is_semicolon}
use Rattle.opencl_files.specs.FileTree.{Header, Enumerator}
use Rattle.opencl_files.specs.Chunks.{Chunk}
use Rattle.opencl_files.specs.Functions.{function_in, at_first}
use Rattle.opencl_files.specs.FileConstants.{with_constants}
use Rattle.opencl_files.specs.Headers.{function}

-- behind `typedef`
unfoldable pub type_named : List Known → Site → Reader (Declaration × Known)
type_named ks at = Then (alias ks 64 0 at) (λ d. Then (expects is_semicolon) (λ sign. Gives d))

-- the number of a constant, if it is written
unfoldable pub value : List Known → Reader (Option Expression)
value ks = Looks (λ t. cond (is_equal t.kind) (Passes (Then (level ks 64 11) (λ e. Gives (Some e)))) (Gives None))

unfoldable pub enumerator : List Known → Reader Enumerator
enumerator ks = Then (takes (new_name ks)) (λ x. Then (value ks) (λ e. Gives (record { site = x.1; name = x.0; value = e })))

-- an enumeration has at most so many constants (ours)
abbrev pub most_enumerators : ℕ
most_enumerators = 1024

-- behind those that were read, up to the brace that closes them; a comma may stand in front of it
unfoldable pub more_enumerators : List Known → (left : ℕ) → List Enumerator → Reader (List Enumerator)
more_enumerators ks zero so = Fails TooMany
more_enumerators ks (suc left) so =
    Looks (λ t. cond (is_comma t.kind) (Passes (Looks (λ n.
    cond (is_right_brace n.kind) (Passes (Gives so)) (Then (enumerator ks) (λ e. more_enumerators ks left (so ++ e ∷ []))))))
    (Then (expects is_right_brace) (λ closing. Gives so)))

unfoldable pub enumerators : List Known → Reader (List Enumerator)
enumerators ks = Then (expects is_left_brace) (λ opening. Then (enumerator ks) (λ e. more_enumerators ks most_enumerators (e ∷ [])))

abbrev pub is_name : LexemeKind → Bool
is_name (Name x) = true
is_name kind = false

-- behind `enum`; the name of an enumeration is of no use here, since an enumeration as a type is left out
unfoldable pub enumeration : List Known → Reader (List Enumerator)
enumeration ks = Looks (λ t. cond (is_name t.kind) (Passes (enumerators ks)) (enumerators ks))

-- what was read: the names that are types, their declarations, the enumerations, and the functions; and the constants, as they are written
pub record Gathered : Type 0 where
  pub known : List Known
  pub aliases : List Declaration
  pub enumerations : List (List Enumerator)
  pub functions : List (Header × Statements)
  pub constants : List Chunk

abbrev pub nothing_yet : Gathered
nothing_yet = record { known = []; aliases = []; enumerations = []; functions = []; constants = [] }

-- what cannot be read is passed over, and its names are unknown
abbrev pub with_alias : Gathered → Attempt (Declaration × Known) → Gathered
with_alias g (Took d rest) = record g { known = g.known ++ d.1 ∷ []; aliases = g.aliases ++ d.0 ∷ [] }
with_alias g (Refused fault at) = g

abbrev pub with_enumeration : Gathered → Attempt (List Enumerator) → Gathered
with_enumeration g (Took es rest) = record g { enumerations = g.enumerations ++ es ∷ [] }
with_enumeration g (Refused fault at) = g

abbrev pub with_function : Gathered → Attempt (Header × Statements) → Gathered
with_function g (Took f rest) = record g { functions = g.functions ++ f ∷ [] }
with_function g (Refused fault at) = g

-- at most so many names of types, and functions, are heeded (ours)
abbrev pub most_heeded : ℕ
most_heeded = 1024

abbrev pub typed : Gathered → List Lexeme → Gathered
typed g ts = cond (nat_lt (length g.known) most_heeded) (with_alias g (run (type_named g.known (front ts).site) (behind ts))) g

abbrev pub performed : Gathered → List Lexeme → Gathered
performed g ts = cond (nat_lt (length g.functions) most_heeded) (with_function g (run (function g.known) (with_constants g.constants ts))) g

-- at most so many constants are heeded (ours)
abbrev pub most_constants : ℕ
most_constants = 256

abbrev pub with_constant : Gathered → Chunk → Gathered
with_constant g c = cond (nat_lt (length g.constants) most_constants) (record g { constants = g.constants ++ c ∷ [] }) g

-- a function has a body
abbrev pub is_function : Chunk → Bool
is_function c = c.is_braced && is_some (function_in at_first c.lexemes)

abbrev pub by_word : Gathered → Chunk → LexemeKind → Gathered
by_word g c (Word words.Typedef) = typed g c.lexemes
by_word g c (Word words.Constant) = with_constant g c
by_word g c (Word words.Enum) = with_enumeration g (run (enumeration g.known) (behind c.lexemes))
by_word g c kind = cond (is_function c) (performed g c.lexemes) g

unfoldable pub with_chunk : Gathered → Chunk → Gathered
with_chunk g c = by_word g c (front c.lexemes).kind

abbrev pub gathered : Gathered → List Chunk → Gathered
gathered g [] = g
gathered g (c ∷ cs) = gathered (with_chunk g c) cs
