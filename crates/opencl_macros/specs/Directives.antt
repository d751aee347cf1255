-- Directives (C99 6.10): what stands on a line behind its `#`.
use Rattle.std.specs.Prelude.{ℕ, ◌+◌, ◌-◌, List, [], ◌∷◌, length, take, drop, nat_eq, nat_lt, nat_le, Bool, true, false, cond, not, ◌&&◌, ◌||◌, bytes_eq, Option, Some, None, codes}
use Rattle.opencl_tokens.specs.Signs.{Sign, LeftParenthesis, RightParenthesis, Comma, HashHash}
use Rattle.opencl_tokens.specs.Tokens.{TokenKind, Token, Name}
use Rattle.opencl_macros.specs.Macros.{Macro, is_front, is_mark, is_name}
use Rattle.opencl_macros.specs.Compilers.{is_standard}
use Rattle.opencl_macros.specs.Conditions.{behind}

-- `Nothing` is passed over, and `Faulty` is a fault where it is read
pub data Directive : Type 0 where
  Nothing Faulty Else Ends : Directive
  Defines : (name : List ℕ) (macro : Macro) → Directive
  Forgets : (name : List ℕ) → Directive
  If ElseIf : (tokens : List Token) → Directive
  IfDefined : (name : Option (List ℕ)) (wanted : Bool) → Directive

abbrev pub name_of : TokenKind → Option (List ℕ)
name_of (Name name) = Some name
name_of kind = None

abbrev pub first_name : List Token → Option (List ℕ)
first_name [] = None
first_name (t ∷ ts) = name_of t.kind

abbrev pub forgotten : Option (List ℕ) → Directive
forgotten None = Faulty
forgotten (Some name) = cond (is_standard name) Faulty (Forgets name)

abbrev pub has_name : (name : List ℕ) → List Token → Bool
has_name name [] = false
has_name name (t ∷ ts) = is_name name t.kind || has_name name ts

abbrev pub is_new : TokenKind → List Token → Bool
is_new (Name name) ts = not (has_name name ts)
is_new kind ts = false

-- a name is due, which stands nowhere behind (6.10.3p6), or a comma
abbrev pub is_right : (name_due : Bool) → Token → List Token → Bool
is_right true t ts = is_new t.kind ts
is_right false t ts = is_mark Comma t.kind

-- names with a comma between each two, all different
abbrev pub are_names : (name_due : Bool) → List Token → Bool
are_names name_due [] = not name_due
are_names name_due (t ∷ ts) = is_right name_due t ts && are_names (not name_due) ts

-- at most 127 parameters (5.2.4.1)
abbrev pub are_parameters : List Token → Bool
are_parameters tokens = nat_eq (length tokens) 0 || (nat_le (length tokens) 253 && are_names true tokens)

-- how many tokens stand before the first `)`
abbrev pub before_bracket : List Token → ℕ
before_bracket [] = 0
before_bracket (t ∷ ts) = cond (is_mark RightParenthesis t.kind) 0 (1 + before_bracket ts)

abbrev pub ends_with : Sign → List Token → Bool
ends_with sign tokens = is_front sign (drop (length tokens - 1) tokens)

-- `##` stands at neither end of a body (6.10.3.3p1)
abbrev pub defined_as : (name : List ℕ) → Option (List Token) → (body : List Token) → Directive
defined_as name parameters body =
    cond (is_front HashHash body || ends_with HashHash body) Faulty (Defines name (record { parameters = parameters; body = body }))

abbrev pub function_with : (name : List ℕ) → (parameters body : List Token) → Directive
function_with name parameters body = cond (are_parameters parameters) (defined_as name (Some parameters) body) Faulty

abbrev pub function_at : (name : List ℕ) → (tokens : List Token) → (count : ℕ) → Directive
function_at name tokens count =
    cond (nat_lt count (length tokens)) (function_with name (take count tokens) (drop (count + 1) tokens)) Faulty

-- what stands behind the `(` of a function
abbrev pub function : (name : List ℕ) → List Token → Directive
function name tokens = function_at name tokens (before_bracket tokens)

abbrev pub is_apart : List Token → Bool
is_apart [] = true
is_apart (t ∷ ts) = t.is_spaced

-- a function has its `(` directly behind its name, and the body of an object stands behind white space (6.10.3p3)
abbrev pub with_body : (name : List ℕ) → List Token → Directive
with_body name tokens =
    cond (is_apart tokens) (defined_as name None tokens) (
    cond (is_front LeftParenthesis tokens) (function name (behind tokens)) Faulty)

abbrev pub defined : Option (List ℕ) → List Token → Directive
defined None tokens = Faulty
defined (Some name) tokens = with_body name (behind tokens)

-- `pragma` and `line` are passed over; `include`, `error` and what is no directive are faults where they are read
abbrev pub named_directive : (name : List ℕ) → List Token → Directive
named_directive name tokens =
    cond (bytes_eq name (codes "define")) (defined (first_name tokens) tokens) (
    cond (bytes_eq name (codes "undef")) (forgotten (first_name tokens)) (
    cond (bytes_eq name (codes "if")) (If tokens) (
    cond (bytes_eq name (codes "ifdef")) (IfDefined (first_name tokens) true) (
    cond (bytes_eq name (codes "ifndef")) (IfDefined (first_name tokens) false) (
    cond (bytes_eq name (codes "elif")) (ElseIf tokens) (
    cond (bytes_eq name (codes "else")) Else (
    cond (bytes_eq name (codes "endif")) Ends (
    cond (bytes_eq name (codes "pragma") || bytes_eq name (codes "line")) Nothing Faulty))))))))

abbrev pub directive_with : Option (List ℕ) → List Token → Directive
directive_with None tokens = Faulty
directive_with (Some name) tokens = named_directive name tokens

-- a `#` alone is the null directive (6.10.7)
abbrev pub directive_of : List Token → Directive
directive_of tokens = cond (nat_eq (length tokens) 0) Nothing (directive_with (first_name tokens) (behind tokens))
