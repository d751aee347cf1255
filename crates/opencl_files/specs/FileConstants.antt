-- Constants of the file (OpenCL 1.2, 6.5.3; C99 6.9.2): `__constant` variables in front of a function. One that the function names is
-- declared at the begin of its body, as `const`: nobody stores to it, so each work-item may have one of its own.
use Rattle.std.specs.Prelude.{ℕ, ◌+◌, List, [], ◌∷◌, ◌++◌, length, take, drop, Bool, true, false, cond, not, ◌||◌, ◌&&◌, nat_le, Option, Some, None, bytes_eq}
use Rattle.semantics.specs.Core.{Site}
use Rattle.opencl_tokens.specs.Words as words
use Rattle.opencl_tokens.specs.Signs as signs
use Rattle.opencl_tokens.specs.Lexemes.{Lexeme, LexemeKind, Word, Name, Mark}
use Rattle.opencl_parser.specs.Declarations.{is_left_brace}
use Rattle.opencl_files.specs.Chunks.{Chunk}

-- whether the name of what is declared stands in front
abbrev pub ends_name : LexemeKind → Bool
ends_name (Mark signs.Equal) = true
ends_name (Mark signs.LeftBracket) = true
ends_name (Mark signs.LeftBrace) = true
ends_name (Mark signs.Comma) = true
ends_name (Mark signs.Semicolon) = true
ends_name kind = false

abbrev pub with_name : LexemeKind → (so : Option (List ℕ)) → Option (List ℕ)
with_name (Name x) so = Some x
with_name kind so = so

-- the name of the first that a declaration declares
abbrev pub declared_name : (so : Option (List ℕ)) → List Lexeme → Option (List ℕ)
declared_name so [] = so
declared_name so (t ∷ ts) = cond (ends_name t.kind) so (declared_name (with_name t.kind so) ts)

abbrev pub is_name : (name : List ℕ) → LexemeKind → Bool
is_name name (Name x) = bytes_eq x name
is_name name kind = false

abbrev pub names : (name : List ℕ) → List Lexeme → Bool
names name [] = false
names name (t ∷ ts) = is_name name t.kind || names name ts

abbrev pub is_named : Option (List ℕ) → List Lexeme → Bool
is_named None ts = false
is_named (Some name) ts = names name ts

-- the word `const` stands in the place of `__constant`; behind a list in braces the `;` was cut off
abbrev pub as_const : Lexeme → Lexeme
as_const t = record { kind = Word words.Const; site = t.site }

abbrev pub semicolon : Site → Lexeme
semicolon at = record { kind = Mark signs.Semicolon; site = at }

abbrev pub closing : (is_braced : Bool) → Site → List Lexeme
closing true at = semicolon at ∷ []
closing false at = []

abbrev pub ended_by : (is_braced : Bool) → List Lexeme → List Lexeme
ended_by braced [] = []
ended_by braced (t ∷ ts) = as_const t ∷ ts ++ closing braced t.site

abbrev pub ended : Chunk → List Lexeme
ended c = ended_by c.is_braced c.lexemes

-- whether no name of a declaration stands in a function's head: a parameter would hide it, or what the constant is made of
abbrev pub is_apart : (head : List Lexeme) → LexemeKind → Bool
is_apart head (Name x) = not (names x head)
is_apart head kind = true

abbrev pub are_apart : (head : List Lexeme) → List Lexeme → Bool
are_apart head [] = true
are_apart head (t ∷ ts) = is_apart head t.kind && are_apart head ts

-- what is put into a function: its head, and how many lexemes its body may have (ours)
pub record Room : Type 0 where
  pub head : List Lexeme
  pub most : ℕ

abbrev pub is_put : Room → Chunk → (body : List Lexeme) → Bool
is_put r c ts =
    is_named (declared_name None c.lexemes) ts && (nat_le (length c.lexemes + length ts) r.most && are_apart r.head c.lexemes)

abbrev pub put_one : Room → Chunk → (body : List Lexeme) → List Lexeme
put_one r c ts = cond (is_put r c ts) (ended c ++ ts) ts

-- in front of a body, in their order: what a constant names, too
abbrev pub put : Room → List Chunk → (body : List Lexeme) → List Lexeme
put r [] ts = ts
put r (c ∷ cs) ts = put_one r c (put r cs ts)

-- how many lexemes of a function stand up to the brace of its body, and with it
abbrev pub body_at : List Lexeme → ℕ
body_at [] = 0
body_at (t ∷ ts) = cond (is_left_brace t.kind) 1 (body_at ts + 1)

abbrev pub up_to_body : List Lexeme → List Lexeme
up_to_body ts = take (body_at ts) ts

abbrev pub in_body : List Lexeme → List Lexeme
in_body ts = drop (body_at ts) ts

abbrev pub most_put : ℕ
most_put = 2048

abbrev pub room_of : List Lexeme → Room
room_of ts = record { head = up_to_body ts; most = length (in_body ts) + most_put }

abbrev pub with_constants : List Chunk → List Lexeme → List Lexeme
with_constants cs ts = up_to_body ts ++ put (room_of ts) cs (in_body ts)
