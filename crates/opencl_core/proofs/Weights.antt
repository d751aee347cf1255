-- How much there is of statements, by which the writing of a function's body ends.
use Rattle.std.proofs.Common.{◌≡◌, ◌≤◌, ◌+◌, ℕ, List, [], ◌∷◌, length, false, refl, ap, arith}
use Rattle.semantics.specs.Core.{Site}
use Rattle.opencl_tree.specs.Tree.{Expression, Statement, If, Block, Statements, none, one}
use Rattle.opencl_tree.specs.View.{statements}
use Rattle.opencl_tree.specs.declared.tree.Stmt.{Stmt}
use Rattle.opencl_core.specs.Tails.{is_none}

abbrev mutual
  pub weight : Statement → ℕ
  weight (If n at t a b) = 1 + (weights a + weights b)
  weight (Block n at body) = 1 + weights body
  weight s = 1

  pub weights : Statements → ℕ
  weights none = 0
  weights (one s ss) = 1 + (weight s + weights ss)

pub some-statements : (ss : List Stmt) → 1 ≤ length ss → false ≡ is_none (statements ss)
some-statements [] le = absurd (omega (arith, le))
some-statements (s ∷ ss) le = refl

pub weight-block : {s : Statement} {n : ℕ} {at : Site} {body : Statements} → s ≡ Block n at body → weight s ≡ 1 + weights body
weight-block e = ap weight e

pub weight-if : {s : Statement} {n : ℕ} {at : Site} {t : Expression} {a b : Statements} → s ≡ If n at t a b → weight s ≡ 1 + (weights a + weights b)
weight-if e = ap weight e
