-- The places of operators by which what was written out before is found again. Of one sort each has a place of its own in an expression,
-- unless a macro made several of them, which all have the place of its use (C99 6.10.3).
use Rattle.std.specs.Prelude.{ℕ, List, [], ◌∷◌, ◌++◌, length, Bool, true, false, cond, ◌||◌, ◌&&◌, nat_eq, nat_le, not}
use Rattle.semantics.specs.Core.{Site}
use Rattle.texts.specs.Surface.{InfixSign, LogicalAnd, LogicalOr}
use Rattle.opencl_tree.specs.Tree.{Expression, Integer, Real, Name, Call, Index, Member, Prefix, Step, Cast, Vector, Infix, Conditional, Assign, Comma, SizeofType, SizeofOf, Expressions, nothing, also}
use Rattle.opencl_effects.specs.Effects.{Helper, is_helper, has_effect}

pub data Sort : Type 0 where
  OfCall OfStep OfAssign OfComma OfLogical OfChoice : Sort

pub record Mark : Type 0 where
  pub sort : Sort
  pub site : Site

abbrev pub sort_number : Sort → ℕ
sort_number OfCall = 0
sort_number OfStep = 1
sort_number OfAssign = 2
sort_number OfComma = 3
sort_number OfLogical = 4
sort_number OfChoice = 5

abbrev pub is_same : (a b : Mark) → Bool
is_same a b = nat_eq (sort_number a.sort) (sort_number b.sort) && (nat_eq a.site.line b.site.line && nat_eq a.site.column b.site.column)

-- a mark, and whether its expression is written out before
pub record Noted : Type 0 where
  pub mark : Mark
  pub is_drawn : Bool

abbrev pub noted : (is_drawn : Bool) → Sort → Site → List Noted → List Noted
noted is_drawn sort s ms = ms ++ record { mark = record { sort = sort; site = s }; is_drawn = is_drawn } ∷ []

abbrev pub is_logical : InfixSign → Bool
is_logical LogicalAnd = true
is_logical LogicalOr = true
is_logical sign = false

-- `&&` and `||` are written out where the right operand has effects
abbrev pub infix_noted : List Helper → InfixSign → Site → (right : Expression) → List Noted → List Noted
infix_noted hs sign s e ms = cond (is_logical sign) (noted (has_effect hs e) OfLogical s ms) ms

-- a call of another function is not written out: it is refused, unless it is built in
abbrev pub call_noted : List Helper → (name : List ℕ) → Site → List Noted → List Noted
call_noted hs name s ms = cond (is_helper hs name) (noted true OfCall s ms) ms

-- the marks of an expression, behind those so far. The operand of `sizeof` is not evaluated (6.5.3.4p2)
abbrev mutual
  pub marks_behind : List Helper → List Noted → Expression → List Noted
  marks_behind hs ms (Integer s k n) = ms
  marks_behind hs ms (Real s spelling) = ms
  marks_behind hs ms (Name s name) = ms
  marks_behind hs ms (Call s name es) = marks_in hs (call_noted hs name s ms) es
  marks_behind hs ms (Index s e i) = marks_behind hs (marks_behind hs ms e) i
  marks_behind hs ms (Member s e name) = marks_behind hs ms e
  marks_behind hs ms (Prefix s sign e) = marks_behind hs ms e
  marks_behind hs ms (Step s side sign e) = marks_behind hs (noted true OfStep s ms) e
  marks_behind hs ms (Cast s t e) = marks_behind hs ms e
  marks_behind hs ms (Vector s t es) = marks_in hs ms es
  marks_behind hs ms (Infix s sign l r) = marks_behind hs (marks_behind hs (infix_noted hs sign s r ms) l) r
  marks_behind hs ms (Conditional s t a b) =
      marks_behind hs (marks_behind hs (marks_behind hs (noted (has_effect hs a || has_effect hs b) OfChoice s ms) t) a) b
  marks_behind hs ms (Assign s sign x e) = marks_behind hs (marks_behind hs (noted true OfAssign s ms) x) e
  marks_behind hs ms (Comma s a b) = marks_behind hs (marks_behind hs (noted true OfComma s ms) a) b
  marks_behind hs ms (SizeofType s t) = ms
  marks_behind hs ms (SizeofOf s e) = ms

  pub marks_in : List Helper → List Noted → Expressions → List Noted
  marks_in hs ms nothing = ms
  marks_in hs ms (also e es) = marks_in hs (marks_behind hs ms e) es

-- what is written out would be found in place of another expression
abbrev pub meets : (a b : Noted) → Bool
meets a b = is_same a.mark b.mark && (a.is_drawn || b.is_drawn)

abbrev pub meets_any : Noted → List Noted → Bool
meets_any m [] = false
meets_any m (n ∷ ns) = meets n m || meets_any m ns

abbrev pub any_meet : List Noted → Bool
any_meet [] = false
any_meet (m ∷ ms) = meets_any m ms || any_meet ms

-- at most so many are looked at (ours)
abbrev pub most_marks : ℕ
most_marks = 1024

abbrev pub are_apart : List Noted → Bool
are_apart ms = nat_le (length ms) most_marks && not (any_meet ms)

-- whether what is written out of an expression is found by its sort and its place
abbrev pub places_are_apart : List Helper → Expression → Bool
places_are_apart hs e = are_apart (marks_behind hs [] e)
