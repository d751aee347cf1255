-- What the code answers, as the definitions have it.
use Rattle.std.specs.Prelude.{ℕ, ◌≡◌, List, map, Vec, Option, None, Some, Result, Ok, Err}
use denote.Ref.{Bor}
use Rattle.std.specs.declared.alloc.Global.{Global}
use Rattle.semantics.specs.Core as core
use Rattle.semantics.specs.Word as words
use Rattle.opencl_tokens.specs.Faults as reasons
use Rattle.opencl_tokens.specs.Faults.{fault_number}
use Rattle.opencl_tokens.specs.Faults.{Answered}
use Rattle.opencl_tokens.specs.Joining as joining
use Rattle.opencl_tokens.specs.Pieces as pieces
use Rattle.opencl_tokens.specs.Scanning as scanning
use Rattle.opencl_tokens.specs.Tokens as tokens
use Rattle.opencl_tokens.specs.Lexemes as lexemes
use Rattle.opencl_tokens.specs.Numbers as numbers
use Rattle.opencl_tokens.specs.Spelling.{sign, word, scalar}
use Rattle.opencl_tokens.specs.declared.Site.{Site}
use Rattle.opencl_tokens.specs.declared.joining.Joined.{Joined}
use Rattle.opencl_tokens.specs.declared.joining.Fate.TheVariants as fates
use Rattle.opencl_tokens.specs.declared.joining.Fate.{Fate}
use Rattle.opencl_tokens.specs.declared.pieces.Piece.TheVariants as parts
use Rattle.opencl_tokens.specs.declared.pieces.Piece.{Piece}
use Rattle.opencl_tokens.specs.declared.scanning.Lead.{Lead}
use Rattle.opencl_tokens.specs.declared.numbers.Radix.TheVariants as radixes
use Rattle.opencl_tokens.specs.declared.numbers.Radix.{Radix}
use Rattle.opencl_tokens.specs.declared.numbers.Suffix.TheVariants as suffixes
use Rattle.opencl_tokens.specs.declared.numbers.Suffix.{Suffix}
use Rattle.opencl_tokens.specs.declared.TokenKind.TheVariants as kinds
use Rattle.opencl_tokens.specs.declared.TokenKind.{TokenKind}
use Rattle.opencl_tokens.specs.declared.Token.{Token}
use Rattle.opencl_tokens.specs.declared.Literal.TheVariants as literals
use Rattle.opencl_tokens.specs.declared.Literal.{Literal}
use Rattle.opencl_tokens.specs.declared.LexemeKind.TheVariants as forms
use Rattle.opencl_tokens.specs.declared.LexemeKind.{LexemeKind}
use Rattle.opencl_tokens.specs.declared.Lexeme.{Lexeme}
use Rattle.opencl_tokens.specs.declared.TextFault.TheVariants as faults
use Rattle.opencl_tokens.specs.declared.TextFault.{TextFault}
use Rattle.opencl_tokens.specs.declared.TokenError.TheVariants as errors
use Rattle.opencl_tokens.specs.declared.TokenError.{TokenError}

abbrev pub site : Site → core.Site
site s = record { line = s.line; column = s.column }

abbrev pub token_kind : TokenKind → tokens.TokenKind
token_kind (kinds.Name name) = tokens.Name name.now
token_kind (kinds.Number spelling) = tokens.Number spelling.now
token_kind (kinds.Character spelling) = tokens.Character spelling.now
token_kind (kinds.Text spelling) = tokens.Text spelling.now
token_kind (kinds.Mark s) = tokens.Mark (sign s)
token_kind (kinds.Other byte) = tokens.Other byte
token_kind kinds.End = tokens.End

abbrev pub token : Token → tokens.Token
token t = record { kind = token_kind t.kind; site = site t.site; begins_line = t.begins_line; is_spaced = t.is_spaced }

abbrev pub integer : Literal → lexemes.LexemeKind
integer (literals.Int n) = lexemes.Integer words.Int n
integer (literals.Uint n) = lexemes.Integer words.Uint n

abbrev pub lexeme_kind : LexemeKind → lexemes.LexemeKind
lexeme_kind (forms.Word w) = lexemes.Word (word w)
lexeme_kind (forms.«Type» s width) = lexemes.«Type» (scalar s) width
lexeme_kind (forms.Name name) = lexemes.Name name.now
lexeme_kind (forms.Integer n) = integer n
lexeme_kind (forms.Real spelling) = lexemes.Real spelling.now
lexeme_kind (forms.Text spelling) = lexemes.Text spelling.now
lexeme_kind (forms.Mark s) = lexemes.Mark (sign s)
lexeme_kind forms.End = lexemes.End

abbrev pub lexeme : Lexeme → lexemes.Lexeme
lexeme l = record { kind = lexeme_kind l.kind; site = site l.site }

abbrev pub fault : TextFault → reasons.TextFault
fault faults.BadByte = reasons.BadByte
fault faults.OpenComment = reasons.OpenComment
fault faults.NumberTooLarge = reasons.NumberTooLarge
fault faults.BadNumber = reasons.BadNumber
fault faults.TextTooLong = reasons.TextTooLong
fault faults.Preprocessor = reasons.Preprocessor
fault (faults.LeftOut w) = reasons.LeftOut (word w)

abbrev pub error_number : TokenError → ℕ
error_number (errors.At f s) = fault_number (fault f)
error_number errors.Memory = 90

abbrev pub error_place : TokenError → Option core.Site
error_place (errors.At f s) = Some (site s)
error_place errors.Memory = None

abbrev pub fate : Fate → joining.Fate
fate fates.Stays = joining.Stays
fate (fates.Goes count) = joining.Goes count
fate fates.Faulty = joining.Faulty

abbrev pub joined : Joined → joining.Joined
joined j = record { bytes = j.bytes.items; sites = map site j.sites.items }

abbrev pub piece_seen : Piece → pieces.Piece
piece_seen (parts.Blank count) = pieces.Blank count
piece_seen parts.Line = pieces.Line
piece_seen (parts.Has k count) = pieces.Has (token_kind k) count
piece_seen (parts.Bad f) = pieces.Bad (fault f)

-- an answer is the definition's, unless memory was refused
abbrev pub Fails : {X : Type 0} → TokenError → Result X (reasons.TextFault × core.Site) → Type 0
Fails (errors.At f s) answer = answer ≡ Err (fault f, site s)
Fails errors.Memory answer = Unit {0}

abbrev pub Joins : Result Joined TokenError → joining.Joining → Type 0
Joins (Ok j) answer = answer ≡ Ok (joined j)
Joins (Err e) answer = Fails e answer

abbrev pub before : Lead → scanning.Lead
before l = record { begins_line = l.begins_line; is_spaced = l.is_spaced }

abbrev pub Tokens : Result (Vec Token Global) TokenError → Answered tokens.Token → Type 0
Tokens (Ok ts) answer = answer ≡ Ok (map token ts.items)
Tokens (Err e) answer = Fails e answer

abbrev pub Lexemes : Result (Vec Lexeme Global) TokenError → Answered lexemes.Lexeme → Type 0
Lexemes (Ok ls) answer = answer ≡ Ok (map lexeme ls.items)
Lexemes (Err e) answer = Fails e answer

abbrev pub radix : Radix → numbers.Radix
radix radixes.Octal = numbers.Octal
radix radixes.Decimal = numbers.Decimal
radix radixes.Hexadecimal = numbers.Hexadecimal

abbrev pub suffix : Suffix → numbers.Suffix
suffix suffixes.Plain = numbers.Plain
suffix suffixes.Unsigned = numbers.Unsigned
suffix suffixes.Long = numbers.Long

abbrev pub suffix_entry : Bor (List ℕ) × Suffix → List ℕ × numbers.Suffix
suffix_entry e = (e.0.now, suffix e.1)

abbrev pub suffix_seen : Option Suffix → Option numbers.Suffix
suffix_seen None = None
suffix_seen (Some s) = Some (suffix s)

abbrev pub kind_seen : Result LexemeKind TextFault → Result lexemes.LexemeKind reasons.TextFault
kind_seen (Ok k) = Ok (lexeme_kind k)
kind_seen (Err f) = Err (fault f)
