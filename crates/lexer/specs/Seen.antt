-- What the code answers, as the definitions have it.
use Rattle.std.specs.Prelude.{ℕ, ◌≡◌, List, Bool, map, Vec, Option, None, Some, Result, Ok, Err}
use Rattle.std.specs.declared.alloc.Global.{Global}
use Rattle.semantics.specs.Word as words
use Rattle.texts.specs.Numbers as numbers
use Rattle.texts.specs.Faults as reasons
use Rattle.texts.specs.Faults.{fault_number}
use Rattle.texts.specs.Tokens as tokens
use Rattle.texts.specs.Tokens.{Lexed, leaves_line, joins_lines}
use Rattle.lexer.specs.Spelling.{sign, word}
use Rattle.lexer.specs.declared.Literal.TheVariants as literals
use Rattle.lexer.specs.declared.Literal.{Literal}
use Rattle.lexer.specs.declared.TokenKind.TheVariants as kinds
use Rattle.lexer.specs.declared.TokenKind.{TokenKind}
use Rattle.lexer.specs.declared.Token.{Token}
use Rattle.lexer.specs.declared.TextFault.TheVariants as faults
use Rattle.lexer.specs.declared.TextFault.{TextFault}
use Rattle.lexer.specs.declared.TextError.TheVariants as errors
use Rattle.lexer.specs.declared.TextError.{TextError}
use Rattle.lexer.specs.declared.Piece.TheVariants as pieces
use Rattle.lexer.specs.declared.Piece.{Piece}
use Rattle.lexer.specs.declared.Site.{Site}
use Rattle.lexer.specs.declared.comment.Comment.TheVariants as comments
use Rattle.lexer.specs.declared.comment.Comment.{Comment}

abbrev pub literal : Literal → numbers.Literal
literal (literals.Int n) = record { kind = words.Int; value = n }
literal (literals.Uint n) = record { kind = words.Uint; value = n }

abbrev pub kind : TokenKind → tokens.TokenKind
kind (kinds.Name name) = tokens.Name name.now
kind (kinds.Reserved w) = tokens.Word (word w)
kind (kinds.Number n) = tokens.Number (literal n)
kind (kinds.Sign s) = tokens.Mark (sign s)
kind kinds.End = tokens.End

abbrev pub site : Site → tokens.Site
site s = record { line = s.line; column = s.column }

abbrev pub token : Token → tokens.Token
token t = record { kind = kind t.kind; start = t.start; stop = t.stop; site = record { line = t.line; column = t.column } }

abbrev pub fault : TextFault → reasons.TextFault
fault faults.BadByte = reasons.BadByte
fault faults.OpenComment = reasons.OpenComment
fault faults.NumberTooLarge = reasons.NumberTooLarge
fault faults.BadNumber = reasons.BadNumber
fault faults.TextTooLong = reasons.TextTooLong

abbrev pub piece_seen : Piece → tokens.Piece
piece_seen (pieces.Gap n) = tokens.Gap n
piece_seen (pieces.Has k n) = tokens.Has (kind k) n
piece_seen (pieces.Bad f n) = tokens.Bad (fault f) n

-- where a compiler reads a comment otherwise
abbrev pub leaves : Comment → List ℕ → Bool
leaves comments.Line = leaves_line
leaves comments.Block = joins_lines

-- an answer is the definition's, unless memory was refused
abbrev pub Fails : TextError → Lexed → Type 0
Fails (errors.At f line column) lexed = lexed ≡ Err (fault f, record { line = line; column = column })
Fails errors.Memory lexed = Unit {0}

abbrev pub Gives : Result (Vec Token Global) TextError → Lexed → Type 0
Gives (Ok ts) lexed = lexed ≡ Ok (map token ts.items)
Gives (Err e) lexed = Fails e lexed

abbrev pub number_seen : Result Literal TextFault → Result numbers.Literal reasons.TextFault
number_seen (Ok l) = Ok (literal l)
number_seen (Err f) = Err (fault f)

abbrev pub error_number : TextError → ℕ
error_number (errors.At f line column) = fault_number (fault f)
error_number errors.Memory = 90

abbrev pub error_place : TextError → Option (ℕ × ℕ)
error_place (errors.At f line column) = Some (line, column)
error_place errors.Memory = None
