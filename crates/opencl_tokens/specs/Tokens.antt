-- Tokens (C99 6.4, preprocessing tokens).
use Rattle.std.specs.Prelude.{ℕ, List, Bool}
use Rattle.semantics.specs.Core.{Site}
use Rattle.opencl_tokens.specs.Signs.{Sign}

-- what a token is: names, numbers, character constants and strings are kept as they are spelt; `Other` is a byte of no token, and `End`
-- stands at the end of each text
pub data TokenKind : Type 0 where
  Name : (bytes : List ℕ) → TokenKind
  Number : (spelling : List ℕ) → TokenKind
  Character : (spelling : List ℕ) → TokenKind
  Text : (spelling : List ℕ) → TokenKind
  Mark : (sign : Sign) → TokenKind
  Other : (byte : ℕ) → TokenKind
  End : TokenKind

-- a token, where it begins, whether it is the first one of its line, and whether white space stands directly before it: a blank, a
-- comment or a line's end (6.4p3)
pub record Token : Type 0 where
  pub kind : TokenKind
  pub site : Site
  pub begins_line : Bool
  pub is_spaced : Bool
