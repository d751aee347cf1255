-- The lexemes of a list of tokens, or the first fault in it.
use Rattle.std.specs.Prelude.{List, ℕ, [], ◌∷◌, Option, Some, None, Result, Ok, Err}
use Rattle.std.specs.List.{find}
use Rattle.std.specs.Str.{bytes_eq}
use Rattle.semantics.specs.Core.{Site}
use Rattle.opencl_tokens.specs.Faults.{TextFault, BadByte, Preprocessor, Answered, in_front}
use Rattle.opencl_tokens.specs.Signs.{Sign, Hash, HashHash}
use Rattle.opencl_tokens.specs.Words as vocabulary
use Rattle.opencl_tokens.specs.Words.{words}
use Rattle.opencl_tokens.specs.Scalars.{Scalar, types}
use Rattle.opencl_tokens.specs.Tokens as kinds
use Rattle.opencl_tokens.specs.Tokens.{TokenKind, Token}
use Rattle.opencl_tokens.specs.Lexemes as forms
use Rattle.opencl_tokens.specs.Lexemes.{LexemeKind, Lexeme}
use Rattle.opencl_tokens.specs.Numbers.{number_of}
use Rattle.opencl_tokens.specs.Characters.{character_of}

abbrev pub or_name : List ℕ → Option (List ℕ × Scalar × ℕ) → LexemeKind
or_name bytes None = forms.Name bytes
or_name bytes (Some entry) = forms.«Type» entry.1 entry.2

abbrev pub or_type : List ℕ → Option (List ℕ × vocabulary.Word) → LexemeKind
or_type bytes None = or_name bytes (find (λ entry. bytes_eq entry.0 bytes) types)
or_type bytes (Some entry) = forms.Word entry.1

-- a word of the table, a type of the table, or else a name
abbrev pub named : List ℕ → LexemeKind
named bytes = or_type bytes (find (λ entry. bytes_eq entry.0 bytes) words)

-- `#` and `##` are the preprocessor's
abbrev pub marked : Sign → Result LexemeKind TextFault
marked Hash = Err Preprocessor
marked HashHash = Err Preprocessor
marked sign = Ok (forms.Mark sign)

-- a token as a lexeme
abbrev pub lexeme_of : TokenKind → Result LexemeKind TextFault
lexeme_of (kinds.Name bytes) = Ok (named bytes)
lexeme_of (kinds.Number spelling) = number_of spelling
lexeme_of (kinds.Character spelling) = character_of spelling
lexeme_of (kinds.Text spelling) = Ok (forms.Text spelling)
lexeme_of (kinds.Mark sign) = marked sign
lexeme_of (kinds.Other byte) = Err BadByte
lexeme_of kinds.End = Ok forms.End

-- and what follows; a fault is at its token
abbrev pub placed : Site → Result LexemeKind TextFault → Answered Lexeme → Answered Lexeme
placed site (Ok kind) rest = in_front (record { kind = kind; site = site } ∷ []) rest
placed site (Err fault) rest = Err (fault, site)

-- token after token
abbrev pub lexemes_of : List Token → Answered Lexeme
lexemes_of [] = Ok []
lexemes_of (token ∷ tokens) = placed token.site (lexeme_of token.kind) (lexemes_of tokens)
