-- The use of a macro: its arguments (C99 6.10.3).
use Rattle.std.specs.Prelude.{ℕ, ◌+◌, ◌-◌, ◌/◌, List, [], ◌∷◌, ◌++◌, length, Bool, true, false, cond, nat_eq, nat_lt, ◌&&◌, ◌||◌, bytes_eq, Option, Some, None, slice_get, take}
use Rattle.semantics.specs.Core.{Site}
use Rattle.opencl_tokens.specs.Signs.{LeftParenthesis, RightParenthesis, Comma}
use Rattle.opencl_tokens.specs.Tokens.{TokenKind, Token, Name}
use Rattle.opencl_macros.specs.Macros.{is_mark, is_name}

-- what is still to be read: a token, which may be a name that is kept for ever (6.10.3.4p2), or the end of what was put in for a macro
pub data Fed : Type 0 where
  Word : (token : Token) (is_kept : Bool) → Fed
  Behind : Fed

-- the macros whose expansion has not ended, the inner one last
abbrev pub Active : Type 0
Active = List (List ℕ)

abbrev pub is_active : (name : List ℕ) → Active → Bool
is_active name [] = false
is_active name (n ∷ ns) = bytes_eq n name || is_active name ns

-- the inner one has ended
abbrev pub ended : Active → Active
ended names = take (length names - 1) names

-- a token of a body has the place of the use
abbrev pub moved : Site → Token → Token
moved site token = record { kind = token.kind; site = site; begins_line = false; is_spaced = token.is_spaced }

abbrev pub inline : Token → Token
inline token = record { kind = token.kind; site = token.site; begins_line = false; is_spaced = token.is_spaced }

-- a name that is met within its own expansion is kept
abbrev pub keeps : TokenKind → (is_kept : Bool) → Active → Bool
keeps (Name name) is_kept active = is_kept || is_active name active
keeps kind is_kept active = is_kept

-- a `(` comes next; ends of expansions may stand before it
abbrev pub opens : List Fed → Bool
opens [] = false
opens (Behind ∷ feed) = opens feed
opens (Word token is_kept ∷ feed) = is_mark LeftParenthesis token.kind

-- how many brackets are open behind a token, the use's own one among them; at most 255 (ours)
abbrev pub depth_behind : (deep : ℕ) → TokenKind → Option ℕ
depth_behind deep kind =
    cond (is_mark LeftParenthesis kind) (cond (nat_lt deep 255) (Some (deep + 1)) None) (
    cond (is_mark RightParenthesis kind) (Some (deep - 1)) (Some deep))

abbrev pub on_depth : {A : Type 0} → Option ℕ → (ℕ → Option A) → Option A
on_depth None next = None
on_depth (Some deep) next = next deep

-- the arguments of a use, and what stands behind its `)`
pub record Gathered : Type 0 where
  pub arguments : List (List Fed)
  pub active : Active
  pub rest : List Fed

abbrev pub ends : (deep : ℕ) → TokenKind → Bool
ends deep kind = nat_eq deep 1 && is_mark RightParenthesis kind

abbrev pub divides : (deep : ℕ) → TokenKind → Bool
divides deep kind = nat_eq deep 1 && is_mark Comma kind

-- the use's own `(` belongs to no argument
abbrev pub with_token : (deep : ℕ) → Active → Token → (is_kept : Bool) → (front : List Fed) → List Fed
with_token deep active token is_kept front =
    cond (nat_eq deep 0) front (front ++ Word (inline token) (keeps token.kind is_kept active) ∷ [])

-- arguments, one after another (6.10.3p11): `deep` brackets are open, `done` are the arguments before, and `front` is what stands of
-- this one
abbrev pub gathered : (deep : ℕ) (active : Active) (done : List (List Fed)) (front : List Fed) → List Fed → Option Gathered
gathered deep active done front [] = None
gathered deep active done front (Behind ∷ feed) = gathered deep (ended active) done front feed
gathered deep active done front (Word token is_kept ∷ feed) =
    cond (ends deep token.kind) (Some (record { arguments = done ++ front ∷ []; active = active; rest = feed })) (
    cond (divides deep token.kind) (gathered deep active (done ++ front ∷ []) [] feed)
    (on_depth (depth_behind deep token.kind) (λ d. gathered d active done (with_token deep active token is_kept front) feed)))

-- no parameter takes no token at all
abbrev pub are_empty : List (List Fed) → Bool
are_empty [] = true
are_empty (argument ∷ arguments) = nat_eq (length argument) 0 && are_empty arguments

-- as many arguments as parameters (6.10.3p4)
abbrev pub fits : (parameters : List Token) → List (List Fed) → Bool
fits parameters arguments =
    cond (nat_eq (length parameters) 0) (nat_eq (length arguments) 1 && are_empty arguments)
    (nat_eq (length arguments) (length parameters / 2 + 1))

-- where a name stands in a list of parameters, commas counted too
abbrev pub place_of : (name : List ℕ) → (at : ℕ) → (parameters : List Token) → Option ℕ
place_of name at [] = None
place_of name at (t ∷ ts) = cond (is_name name t.kind) (Some at) (place_of name (at + 1) ts)

abbrev pub nth_argument : Option ℕ → List (List Fed) → Option (List Fed)
nth_argument None arguments = None
nth_argument (Some at) arguments = slice_get arguments (at / 2)

abbrev pub place_in : Option (List Token) → TokenKind → Option ℕ
place_in (Some parameters) (Name name) = place_of name 0 parameters
place_in parameters kind = None
