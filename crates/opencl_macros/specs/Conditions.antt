-- The expression of a condition, read from the left (C99 6.10.1, 6.6).
use Rattle.std.specs.Prelude.{ℕ, zero, suc, ◌+◌, ◌^◌, List, [], ◌∷◌, take, drop, length, Bool, cond, not, ◌||◌, nat_eq, nat_lt, bytes_eq, Option, Some, None, Result, Ok, Err, codes}
use Rattle.semantics.specs.Core.{Site}
use Rattle.semantics.specs.Word as words
use Rattle.opencl_tokens.specs.Faults.{Answered}
use Rattle.opencl_tokens.specs.Lexemes as lexemes
use Rattle.opencl_tokens.specs.Lexemes.{LexemeKind, Lexeme}
use Rattle.opencl_tokens.specs.Reading.{lexemes_of}
use Rattle.opencl_tokens.specs.Signs as signs
use Rattle.opencl_tokens.specs.Signs.{Sign}
use Rattle.opencl_tokens.specs.Tokens.{TokenKind, Token, Name, Number, Character, Mark}
use Rattle.opencl_macros.specs.Macros.{is_front, on}
use Rattle.opencl_macros.specs.Compilers.{is_compilers}
use Rattle.opencl_macros.specs.Operators.{Value, Binary, Times, Divided, Rest, Plus, Minus, ShiftLeft, ShiftRight, Less, Greater, LessEqual, GreaterEqual, Equal, NotEqual, And, Xor, Or, Both, Either, difference, on_two, binary, negated, choice, tightness}

-- an `int` that is not below 0
abbrev pub integer : LexemeKind → Value
integer (lexemes.Integer words.Int n) = cond (nat_lt n (2 ^ 31)) (Some n) None
integer kind = None

abbrev pub only_integer : List Lexeme → Value
only_integer [] = None
only_integer (l ∷ ls) = integer l.kind

-- numbers and characters; other numbers than those of `int` are left out
abbrev pub literal : Answered Lexeme → Value
literal (Ok ls) = only_integer ls
literal (Err fault) = None

-- what is read: all, operands joined by what binds as tight as `level`, more of them behind a first one, and an operand
pub data Part : Type 0 where
  Whole Operand : Part
  Joined : (level : ℕ) → Part
  More : (level : ℕ) (first : Value) → Part

abbrev pub Got : Type 0
Got = Result (Value × List Token) Site

-- what reads a part that stands within
abbrev pub Within : Type 0
Within = Part → List Token → Got

abbrev pub behind : List Token → List Token
behind tokens = drop 1 tokens

-- behind a sign that has to stand here
abbrev pub past : Site → Sign → Value → List Token → Got
past site sign a tokens = cond (is_front sign tokens) (Ok (a, behind tokens)) (Err site)

abbrev pub chosen : Within → Site → Value → Value → List Token → Got
chosen go site c a tokens =
    cond (is_front signs.Colon tokens) (on (go Whole (behind tokens)) (λ b. Ok (choice c a b.0, b.1))) (Err site)

abbrev pub chooses : Within → Site → Value → List Token → Got
chooses go site c tokens =
    cond (is_front signs.Question tokens) (on (go Whole (behind tokens)) (λ a. chosen go site c a.0 a.1)) (Ok (c, tokens))

abbrev pub whole : Within → Site → List Token → Got
whole go site tokens = on (go (Joined 2) tokens) (λ c. chooses go site c.0 c.1)

abbrev pub joined : Within → (level : ℕ) → List Token → Got
joined go level tokens = on (go Operand tokens) (λ a. go (More level a.0) a.1)

abbrev pub sign_operator : Sign → Option Binary
sign_operator signs.Star = Some Times
sign_operator signs.Slash = Some Divided
sign_operator signs.Percent = Some Rest
sign_operator signs.Plus = Some Plus
sign_operator signs.Minus = Some Minus
sign_operator signs.LeftShift = Some ShiftLeft
sign_operator signs.RightShift = Some ShiftRight
sign_operator signs.Less = Some Less
sign_operator signs.Greater = Some Greater
sign_operator signs.LessEqual = Some LessEqual
sign_operator signs.GreaterEqual = Some GreaterEqual
sign_operator signs.EqualEqual = Some Equal
sign_operator signs.NotEqual = Some NotEqual
sign_operator signs.And = Some And
sign_operator signs.Caret = Some Xor
sign_operator signs.Or = Some Or
sign_operator signs.AndAnd = Some Both
sign_operator signs.OrOr = Some Either
sign_operator sign = None

abbrev pub kind_operator : TokenKind → Option Binary
kind_operator (Mark sign) = sign_operator sign
kind_operator kind = None

abbrev pub operator_at : List Token → Option Binary
operator_at [] = None
operator_at (t ∷ ts) = kind_operator t.kind

abbrev pub operated : Within → (level : ℕ) → Value → Binary → List Token → Got
operated go level a op tokens =
    on (go (Joined (tightness op + 1)) (behind tokens)) (λ b. go (More level (binary op a b.0)) b.1)

abbrev pub more_with : Within → (level : ℕ) → Value → List Token → Option Binary → Got
more_with go level a tokens None = Ok (a, tokens)
more_with go level a tokens (Some op) = cond (nat_lt (tightness op) level) (Ok (a, tokens)) (operated go level a op tokens)

abbrev pub more : Within → (level : ℕ) → Value → List Token → Got
more go level a tokens = more_with go level a tokens (operator_at tokens)

abbrev pub plus : Within → List Token → Got
plus go tokens = go Operand tokens

abbrev pub minus : Within → List Token → Got
minus go tokens = on (go Operand tokens) (λ a. Ok (on_two (Some 0) a.0 difference, a.1))

abbrev pub negation : Within → List Token → Got
negation go tokens = on (go Operand tokens) (λ a. Ok (negated a.0, a.1))

abbrev pub bracketed : Within → Site → List Token → Got
bracketed go site tokens = on (go Whole tokens) (λ a. past site signs.RightParenthesis a.0 a.1)

abbrev pub signed : Within → Site → Sign → List Token → Got
signed go site signs.Plus tokens = plus go tokens
signed go site signs.Minus tokens = minus go tokens
signed go site signs.Not tokens = negation go tokens
signed go site signs.LeftParenthesis tokens = bracketed go site tokens
signed go site sign tokens = Err site

-- a name that is left is 0, but one of which a compiler may have a macro is left out, and `defined` that comes of a macro (6.10.1p4)
abbrev pub operand_of : Within → Site → TokenKind → List Token → Got
operand_of go site (Name name) tokens =
    cond (bytes_eq name (codes "defined") || is_compilers name) (Err site) (Ok (Some 0, behind tokens))
operand_of go site (Number spelling) tokens = Ok (literal (lexemes_of (take 1 tokens)), behind tokens)
operand_of go site (Character spelling) tokens = Ok (literal (lexemes_of (take 1 tokens)), behind tokens)
operand_of go site (Mark sign) tokens = signed go site sign (behind tokens)
operand_of go site kind tokens = Err site

abbrev pub operand : Within → Site → List Token → Got
operand go site [] = Err site
operand go site (t ∷ ts) = operand_of go site t.kind (t ∷ ts)

abbrev pub reads : Within → Site → Part → List Token → Got
reads go site Whole tokens = whole go site tokens
reads go site Operand tokens = operand go site tokens
reads go site (Joined level) tokens = joined go level tokens
reads go site (More level first) tokens = more go level first tokens

-- parts in parts, so many levels deep at most (ours)
unfoldable pub part : (depth : ℕ) → Site → Part → List Token → Got
part zero site p tokens = Err site
part (suc depth) site p tokens = reads (part depth site) site p tokens

abbrev pub decided : Site → Value → Result Bool Site
decided site None = Err site
decided site (Some n) = Ok (not (nat_eq n 0))

abbrev pub ends : Site → Value × List Token → Result Bool Site
ends site a = cond (nat_eq (length a.1) 0) (decided site a.0) (Err site)

-- whether the condition holds; a fault where the tokens are no condition
unfoldable pub holds : Site → List Token → Result Bool Site
holds site tokens = on (part 256 site Whole tokens) (ends site)
