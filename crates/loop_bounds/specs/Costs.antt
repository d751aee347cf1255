-- How many steps a work-item takes at most, where `turns` says of each loop, by its number, how often its test is true at most. Each
-- statement, each test and each load takes one step.
use Rattle.std.specs.Prelude.{ℕ, ◌+◌, ◌*◌, max}
use Rattle.semantics.specs.Core.{Term, Literal, Variable, Id, Load, Unary, Binary, Convert, Compare, Not, And, Or, Select, Minimum, Maximum, Shift, Within, Opaque, Statement, Set, Store, If, Loop, Barrier, Return, Break, Continue, Statements, none, one}

-- the loads of an expression; of a choice those of its test and of the arm that has more
abbrev pub loads : Term → ℕ
loads (Literal k z) = 0
loads (Variable x) = 0
loads (Id k f d) = 0
loads (Load a site i) = 1 + loads i
loads (Unary op k site t) = loads t
loads (Binary op k site t u) = loads t + loads u
loads (Convert k site t) = loads t
loads (Compare r k t u) = loads t + loads u
loads (Not t) = loads t
loads (And t u) = loads t + loads u
loads (Or t u) = loads t + loads u
loads (Select e t u) = loads e + max (loads t) (loads u)
loads (Minimum t u) = loads t + loads u
loads (Maximum t u) = loads t + loads u
loads (Shift d k t u) = loads t + loads u
loads (Within site n t) = loads t
loads (Opaque n at k t u v) = loads t + (loads u + loads v)

abbrev mutual
  -- of an `if` the branch that takes more; the test of a loop is made once more than it is true
  pub statement_cost : (turns : ℕ → ℕ) → Statement → ℕ
  statement_cost turns (Set n x e) = 1 + loads e
  statement_cost turns (Store n a site i e) = 1 + (loads i + loads e)
  statement_cost turns (If n e t f) = 1 + (loads e + max (cost turns t) (cost turns f))
  statement_cost turns (Loop n e b u) = (turns n + 1) * (1 + loads e) + turns n * (cost turns b + cost turns u)
  statement_cost turns (Barrier n l g) = 1
  statement_cost turns (Return n) = 1
  statement_cost turns (Break n k) = 1
  statement_cost turns (Continue n k) = 1

  -- of statements one after the other
  pub cost : (turns : ℕ → ℕ) → Statements → ℕ
  cost turns none = 0
  cost turns (one s ss) = statement_cost turns s + cost turns ss
