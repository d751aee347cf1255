-- A file is cut into its external declarations (C99 6.9) by counting brackets: a chunk ends with a `;` outside all brackets, or with the
-- `}` that closes a brace which was opened outside all brackets. What stands in brackets is not read.
use Rattle.std.specs.Prelude.{List, [], ◌∷◌, ◌++◌, Bool, true, false, cond, ◌&&◌, Result, Ok, Err}
use Rattle.semantics.specs.Core.{Site}
use Rattle.opencl_tokens.specs.Signs as signs
use Rattle.opencl_tokens.specs.Lexemes.{Lexeme, LexemeKind, Mark, End}
use Rattle.opencl_parser.specs.Faults.{Expected}
use Rattle.opencl_parser.specs.Reader.{front}
use Rattle.opencl_parser.specs.Declarations.{is_right_brace}
use Rattle.opencl_files.specs.Faults.{Answer, Text}

pub data Bracket : Type 0 where
  Parenthesis Square Brace : Bracket

abbrev pub same : Bracket → Bracket → Bool
same Parenthesis Parenthesis = true
same Square Square = true
same Brace Brace = true
same a b = false

abbrev pub is_brace : Bracket → Bool
is_brace Brace = true
is_brace b = false

-- what a lexeme is to the brackets
pub data Turn : Type 0 where
  Opens Closes : (bracket : Bracket) → Turn
  Ends Stops Other : Turn

abbrev pub turn_of : LexemeKind → Turn
turn_of (Mark signs.LeftParenthesis) = Opens Parenthesis
turn_of (Mark signs.LeftBracket) = Opens Square
turn_of (Mark signs.LeftBrace) = Opens Brace
turn_of (Mark signs.RightParenthesis) = Closes Parenthesis
turn_of (Mark signs.RightBracket) = Closes Square
turn_of (Mark signs.RightBrace) = Closes Brace
turn_of (Mark signs.Semicolon) = Ends
turn_of End = Stops
turn_of kind = Other

-- how it goes on: the chunk goes on, it ends with this lexeme, the file ends here, or the lexeme is at fault
pub data Step : Type 0 where
  Within Last Finished Wrong : Step

abbrev pub is_none : List Bracket → Bool
is_none [] = true
is_none (b ∷ stack) = false

-- with the brackets that are open behind it, the newest in front
abbrev pub closed : Bracket → List Bracket → Step × List Bracket
closed b stack = cond (is_brace b && is_none stack) (Last, stack) (Within, stack)

abbrev pub closing : List Bracket → Bracket → Step × List Bracket
closing [] b = (Wrong, [])
closing (o ∷ stack) b = cond (same o b) (closed b stack) (Wrong, stack)

abbrev pub turned : List Bracket → Turn → Step × List Bracket
turned stack (Opens b) = (Within, b ∷ stack)
turned stack (Closes b) = closing stack b
turned stack Ends = (cond (is_none stack) Last Within, stack)
turned stack Stops = (cond (is_none stack) Finished Wrong, stack)
turned stack Other = (Within, stack)

-- a chunk, and whether it ends with a brace
pub record Chunk : Type 0 where
  pub lexemes : List Lexeme
  pub is_braced : Bool

-- the chunks of a file, and the place of its end
pub record Cut : Type 0 where
  pub chunks : List Chunk
  pub end : Site

abbrev pub is_bare : List Lexeme → Bool
is_bare [] = true
is_bare (t ∷ ts) = false

-- a file ends behind a chunk
abbrev pub finished : List Chunk → List Lexeme → Site → Answer Cut
finished done so at = cond (is_bare so) (Ok (record { chunks = done; end = at })) (Err (Text Expected, at))

abbrev pub by_step : (more : List Chunk → List Bracket → List Lexeme → Answer Cut) → List Chunk → List Lexeme → Lexeme → Step × List Bracket → Answer Cut
by_step more done so t (Within, stack) = more done stack (so ++ t ∷ [])
by_step more done so t (Last, stack) = more (done ++ record { lexemes = so ++ t ∷ []; is_braced = is_right_brace t.kind } ∷ []) stack []
by_step more done so t (Finished, stack) = finished done so t.site
by_step more done so t (Wrong, stack) = Err (Text Expected, t.site)

-- behind the chunks that were cut, brackets that are open, and what the present chunk has so far
abbrev pub cut : List Chunk → List Bracket → (so : List Lexeme) → List Lexeme → Answer Cut
cut done stack so [] = Err (Text Expected, (front []).site)
cut done stack so (t ∷ ts) = by_step (λ done stack so. cut done stack so ts) done so t (turned stack (turn_of t.kind))

unfoldable pub chunks_of : List Lexeme → Answer Cut
chunks_of ts = cut [] [] [] ts
