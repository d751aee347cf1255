-- Whether a variable is assigned to as a whole, as `p += n` and `p++` move a pointer (C99 6.5.16, 6.5.2.4 and 6.5.3.1). All is said by
-- names alone: another variable of the same name counts, too.
use Rattle.std.specs.Prelude.{ℕ, List, [], ◌∷◌, Bool, false, ◌||◌, Option, None, Some, bytes_eq}
use Rattle.opencl_tree.specs.Tree.{Expression, Integer, Real, Name, Call, Index, Member, Prefix, Step, Cast, Vector, Infix, Conditional, Assign, Comma, SizeofType, SizeofOf, Expressions, nothing, also, Initial, Absent, Given, Listed, Declarator, First, FirstAbsent, FirstDeclares, FirstEvaluates, Statement, Declare, Typedef, Evaluate, If, While, Do, For, Switch, Case, Default, Break, Continue, Return, Block, Empty, Statements, none, one}

abbrev pub is_named : (name : List ℕ) → Expression → Bool
is_named x (Name s name) = bytes_eq name x
is_named x e = false

abbrev mutual
  pub moves : (name : List ℕ) → Expression → Bool
  moves x (Integer s k n) = false
  moves x (Real s spelling) = false
  moves x (Name s name) = false
  moves x (Call s name es) = any_moves x es
  moves x (Index s e i) = moves x e || moves x i
  moves x (Member s e name) = moves x e
  moves x (Prefix s sign e) = moves x e
  moves x (Step s side sign e) = is_named x e || moves x e
  moves x (Cast s t e) = moves x e
  moves x (Vector s t es) = any_moves x es
  moves x (Infix s sign l r) = moves x l || moves x r
  moves x (Conditional s t a b) = moves x t || (moves x a || moves x b)
  moves x (Assign s sign y e) = is_named x y || (moves x y || moves x e)
  moves x (Comma s a b) = moves x a || moves x b
  moves x (SizeofType s t) = false
  moves x (SizeofOf s e) = false

  pub any_moves : (name : List ℕ) → Expressions → Bool
  any_moves x nothing = false
  any_moves x (also e es) = moves x e || any_moves x es

-- an expression that need not be there
abbrev pub maybe_moves : (name : List ℕ) → Option Expression → Bool
maybe_moves x None = false
maybe_moves x (Some e) = moves x e

-- what a variable begins with; nothing is assigned to in a list in braces that can be read
abbrev pub initial_moves : (name : List ℕ) → Initial → Bool
initial_moves x Absent = false
initial_moves x (Given e) = moves x e
initial_moves x (Listed s values) = false

abbrev pub declarators_move : (name : List ℕ) → List Declarator → Bool
declarators_move x [] = false
declarators_move x (d ∷ ds) = initial_moves x d.initial || declarators_move x ds

abbrev pub first_moves : (name : List ℕ) → First → Bool
first_moves x FirstAbsent = false
first_moves x (FirstDeclares d) = declarators_move x d.declarators
first_moves x (FirstEvaluates e) = moves x e

abbrev mutual
  pub moves_in : (name : List ℕ) → Statement → Bool
  moves_in x (Declare d) = declarators_move x d.declarators
  moves_in x (Typedef d) = false
  moves_in x (Evaluate n at e) = moves x e
  moves_in x (If n at t a b) = moves x t || (moves_among x a || moves_among x b)
  moves_in x (While n at t body) = moves x t || moves_among x body
  moves_in x (Do n at body t) = moves x t || moves_among x body
  moves_in x (For n at begin t update body) =
      first_moves x begin || (maybe_moves x t || (maybe_moves x update || moves_among x body))
  moves_in x (Switch n at t body) = moves x t || moves_among x body
  moves_in x (Case n at e) = false
  moves_in x (Default n at) = false
  moves_in x (Break n at) = false
  moves_in x (Continue n at) = false
  moves_in x (Return n at e) = maybe_moves x e
  moves_in x (Block n at body) = moves_among x body
  moves_in x (Empty n at) = false

  pub moves_among : (name : List ℕ) → Statements → Bool
  moves_among x none = false
  moves_among x (one s ss) = moves_in x s || moves_among x ss
