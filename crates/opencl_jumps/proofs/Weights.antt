-- How much there is of statements, by which what takes them apart ends.
use Rattle.std.proofs.Common.{◌≡◌, ◌≤◌, ◌+◌, ℕ, List, [], ◌∷◌, ◌++◌, length, false, refl, ap, arith}
use Rattle.std.specs.Prelude.{Option}
use Rattle.semantics.specs.Core.{Site}
use Rattle.opencl_tree.specs.Tree.{Expression, Prefix, Infix, First, Statement, If, While, Do, For, Switch, Block, Statements, none, one}
use Rattle.opencl_tree.specs.View.{statement, statements}
use Rattle.opencl_tree.specs.declared.tree.Stmt.{Stmt}
use Rattle.opencl_jumps.specs.Exits.{is_none}

abbrev mutual
  pub weight : Statement → ℕ
  weight (If n at t a b) = 1 + (weights a + weights b)
  weight (While n at t body) = 1 + weights body
  weight (Do n at body t) = 1 + weights body
  weight (For n at first t update body) = 1 + weights body
  weight (Switch n at t body) = 1 + weights body
  weight (Block n at body) = 1 + weights body
  weight s = 1

  pub weights : Statements → ℕ
  weights none = 0
  weights (one s ss) = 1 + (weight s + weights ss)

pub some-statements : (ss : List Stmt) → 1 ≤ length ss → false ≡ is_none (statements ss)
some-statements [] le = absurd (omega (arith, le))
some-statements (s ∷ ss) le = refl

pub weight-block : {s : Statement} {n : ℕ} {at : Site} {body : Statements} → s ≡ Block n at body → weight s ≡ 1 + weights body
weight-block e = ap weight e

pub weight-while : {s : Statement} {n : ℕ} {at : Site} {t : Expression} {body : Statements} → s ≡ While n at t body → weight s ≡ 1 + weights body
weight-while e = ap weight e

pub weight-do : {s : Statement} {n : ℕ} {at : Site} {t : Expression} {body : Statements} → s ≡ Do n at body t → weight s ≡ 1 + weights body
weight-do e = ap weight e

pub weight-for : {s : Statement} {n : ℕ} {at : Site} {first : First} {t update : Option Expression} {body : Statements} → s ≡ For n at first t update body → weight s ≡ 1 + weights body
weight-for e = ap weight e

pub weight-switch : {s : Statement} {n : ℕ} {at : Site} {t : Expression} {body : Statements} → s ≡ Switch n at t body → weight s ≡ 1 + weights body
weight-switch e = ap weight e

pub weight-if : {s : Statement} {n : ℕ} {at : Site} {t : Expression} {a b : Statements} → s ≡ If n at t a b → weight s ≡ 1 + (weights a + weights b)
weight-if e = ap weight e

-- the same of labels
abbrev pub size : Expression → ℕ
size (Prefix at sign e) = 1 + size e
size (Infix at sign l r) = 1 + (size l + size r)
size e = 1

-- statements behind others
abbrev pub joined : Statements → Statements → Statements
joined none others = others
joined (one s ss) others = one s (joined ss others)

pub joined-none : (ss : Statements) → joined ss none ≡ ss
joined-none none = refl
joined-none (one s ss) = ap (one s) (joined-none ss)

-- the last statement of several
pub weights-last : (xs : List Stmt) (x : Stmt) → weights (statements (xs ++ x ∷ [])) ≡ 1 + (weights (statements xs) + weight (statement x))
weights-last [] x = omega arith
weights-last (y ∷ ys) x = let e = weights-last ys x in omega (arith, e)
