-- Functions of one name with other parameters, as an attribute of some compilers allows them: OpenCL C 1.2 has none (6.9, C99 6.7p4). Which
-- of them is called goes by types, so a file that has the attribute is left out.
use Rattle.std.specs.Prelude.{ℕ, List, [], ◌∷◌, Bool, false, cond, ◌||◌, Option, Some, None, bytes_eq, codes}
use Rattle.semantics.specs.Core.{Site}
use Rattle.opencl_tokens.specs.Lexemes.{Lexeme, LexemeKind, Name}

abbrev pub is_overloading : LexemeKind → Bool
is_overloading (Name x) = bytes_eq x (codes "overloadable") || bytes_eq x (codes "__overloadable__")
is_overloading kind = false

-- where the first one stands
abbrev pub first_overloading : List Lexeme → Option Site
first_overloading [] = None
first_overloading (t ∷ ts) = cond (is_overloading t.kind) (Some t.site) (first_overloading ts)
