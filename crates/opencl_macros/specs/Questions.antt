-- `defined` in a condition (C99 6.10.1p1): with its name it becomes 1 or 0, before macros are expanded (6.10.1p4).
use Rattle.std.specs.Prelude.{ℕ, List, [], ◌∷◌, ◌++◌, Bool, true, false, cond, Option, Some, None, Result, Ok, Err, codes}
use Rattle.semantics.specs.Core.{Site}
use Rattle.opencl_tokens.specs.Signs.{LeftParenthesis, RightParenthesis}
use Rattle.opencl_tokens.specs.Tokens.{TokenKind, Token, Name, Number}
use Rattle.opencl_macros.specs.Macros.{Table, is_mark, is_name, on}
use Rattle.opencl_macros.specs.Compilers.{whether_defined}

-- what is due: nothing, a name or a `(`, a name in brackets, and a `)`
pub data Due : Type 0 where
  Nothing NameOrBracket NameAlone Bracket : Due

abbrev pub zero_or_one : Bool → List ℕ
zero_or_one true = codes "1"
zero_or_one false = codes "0"

abbrev pub answer : Site → Bool → Token
answer site b = record { kind = Number (zero_or_one b); site = site; begins_line = false; is_spaced = true }

-- what is due next, and the token that comes out, if one does
abbrev pub Asked : Type 0
Asked = Result (Due × Option Token) Site

abbrev pub question : Table → Site → (next : Due) → TokenKind → Asked
question table site next (Name name) = on (whether_defined table site name) (λ b. Ok (next, Some (answer site b)))
question table site next kind = Err site

abbrev pub asks : Table → Site → Due → Token → Asked
asks table site Nothing t = cond (is_name (codes "defined") t.kind) (Ok (NameOrBracket, None)) (Ok (Nothing, Some t))
asks table site NameOrBracket t = cond (is_mark LeftParenthesis t.kind) (Ok (NameAlone, None)) (question table site Nothing t.kind)
asks table site NameAlone t = question table site Bracket t.kind
asks table site Bracket t = cond (is_mark RightParenthesis t.kind) (Ok (Nothing, None)) (Err site)

abbrev pub with_token : List Token → Option Token → List Token
with_token out None = out
with_token out (Some t) = out ++ t ∷ []

abbrev pub ended : Site → Due → List Token → Result (List Token) Site
ended site Nothing out = Ok out
ended site due out = Err site

abbrev pub answered : Table → Site → Due → (out : List Token) → List Token → Result (List Token) Site
answered table site due out [] = ended site due out
answered table site due out (t ∷ ts) = on (asks table site due t) (λ a. answered table site a.0 (with_token out a.1) ts)
