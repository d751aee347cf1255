-- Lexemes: what a grammar reads (C99 6.4, tokens).
use Rattle.std.specs.Prelude.{ℕ, List}
use Rattle.semantics.specs.Core.{Site}
use Rattle.semantics.specs.Word.{Kind}
use Rattle.opencl_tokens.specs.Signs.{Sign}
use Rattle.opencl_tokens.specs.Words as vocabulary
use Rattle.opencl_tokens.specs.Scalars.{Scalar}

-- what a lexeme is. `Type` is a type that one word names; an integer is the 32 bits that its kind reads (`read_bits`), which are the
-- number itself but for a character constant below 0
pub data LexemeKind : Type 0 where
  Word : (word : vocabulary.Word) → LexemeKind
  «Type» : (scalar : Scalar) (width : ℕ) → LexemeKind
  Name : (bytes : List ℕ) → LexemeKind
  Integer : (kind : Kind) (value : ℕ) → LexemeKind
  Real : (spelling : List ℕ) → LexemeKind
  Text : (spelling : List ℕ) → LexemeKind
  Mark : (sign : Sign) → LexemeKind
  End : LexemeKind

-- a lexeme, and where it begins
pub record Lexeme : Type 0 where
  pub kind : LexemeKind
  pub site : Site
