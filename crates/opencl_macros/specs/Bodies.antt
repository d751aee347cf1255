-- What is put in for the use of a macro: its body, with arguments in place of parameters (C99 6.10.3.1, 6.10.3.3).
use Rattle.std.specs.Prelude.{ℕ, ◌-◌, List, [], ◌∷◌, ◌++◌, length, Bool, true, false, cond, not, nat_eq, nat_le, ◌&&◌, ◌||◌, Option, Some, None, slice_get, take}
use Rattle.semantics.specs.Core.{Site}
use Rattle.opencl_tokens.specs.Signs.{HashHash}
use Rattle.opencl_tokens.specs.Tokens.{Token}
use Rattle.opencl_macros.specs.Macros.{is_front, is_mark}
use Rattle.opencl_macros.specs.Expansion.{Fed, Word, moved, nth_argument, place_in}
use Rattle.opencl_macros.specs.Pasting.{joined}

-- the argument of a token that is a parameter, or else the token
abbrev pub part : Site → Token → Option (List Fed) → List Fed
part site token None = Word (moved site token) false ∷ []
part site token (Some argument) = argument

-- what is put in, and how many tokens may still be put in; whether nothing came of the body's token before (a placemarker of 6.10.3.3p2),
-- and whether a `##` stands behind that
pub record Filled : Type 0 where
  pub tokens : List Fed
  pub left : ℕ
  pub is_bare : Bool
  pub joins : Bool

abbrev pub filled : List Fed → (left : ℕ) → (is_bare joins : Bool) → Filled
filled tokens left is_bare joins = record { tokens = tokens; left = left; is_bare = is_bare; joins = joins }

-- nothing is put in as yet
abbrev pub begun : (left : ℕ) → Filled
begun left = filled [] left true false

abbrev pub with_part : Filled → List Fed → (is_bare : Bool) → Option Filled
with_part f tokens is_bare =
    cond (nat_le (length tokens) f.left) (Some (filled (f.tokens ++ tokens) (f.left - length tokens) is_bare false)) None

abbrev pub on_filled : Option Filled → (Filled → Option Filled) → Option Filled
on_filled None next = None
on_filled (Some f) next = next f

abbrev pub with_word : Filled → Option Fed → (rest : List Fed) → Option Filled
with_word f None rest = None
with_word f (Some item) rest = on_filled (with_part f (item ∷ []) false) (λ g. with_part g rest false)

abbrev pub without_last : Filled → Filled
without_last f = filled (take (length f.tokens - 1) f.tokens) f.left f.is_bare f.joins

abbrev pub behind_last : Site → Filled → (last : Option Fed) → (first : Fed) (rest : List Fed) → Option Filled
behind_last site f None first rest = None
behind_last site f (Some last) first rest = with_word (without_last f) (joined site last first) rest

-- the first token is joined to the last one before; where there is none, that one stays as it is
abbrev pub with_joined : Site → Filled → List Fed → Option Filled
with_joined site f [] = with_part f [] false
with_joined site f (first ∷ rest) = behind_last site f (slice_get f.tokens (length f.tokens - 1)) first rest

-- what comes of one token of the body
abbrev pub with_tokens : Site → Filled → List Fed → Option Filled
with_tokens site f tokens = cond (f.joins && not f.is_bare) (with_joined site f tokens) (with_part f tokens (nat_eq (length tokens) 0))

-- `##` joins what comes of the tokens before and behind it, from the left to the right (ours)
abbrev pub with_join : Filled → Option Filled
with_join f = cond f.joins None (Some (filled f.tokens f.left f.is_bare true))

-- the arguments of a use as they stand, and expanded
pub record Supply : Type 0 where
  pub given : List (List Fed)
  pub expanded : List (List Fed)

abbrev pub supply : (given expanded : List (List Fed)) → Supply
supply given expanded = record { given = given; expanded = expanded }

-- beside `##` an argument is put in as it stands (6.10.3.1p1, 6.10.3.3p2)
abbrev pub arguments_for : Filled → Supply → (behind : List Token) → List (List Fed)
arguments_for f supply behind = cond (f.joins || is_front HashHash behind) supply.given supply.expanded

abbrev pub put_one : Site → Option (List Token) → (arguments : List (List Fed)) → Filled → Token → Option Filled
put_one site parameters arguments f token =
    cond (is_mark HashHash token.kind) (with_join f)
    (with_tokens site f (part site token (nth_argument (place_in parameters token.kind) arguments)))

-- the body, with arguments in place of parameters
abbrev pub replaced : Site → Option (List Token) → Supply → Filled → (body : List Token) → Option Filled
replaced site parameters supply f [] = Some f
replaced site parameters supply f (t ∷ body) =
    on_filled (put_one site parameters (arguments_for f supply body) f t) (λ g. replaced site parameters supply g body)
