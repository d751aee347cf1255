-- Arguments of calls, by their number.
use Rattle.std.proofs.Common.{◌≡◌, ◌≢◌, ◌<◌, ◌≤◌, ℕ, zero, suc, List, [], ◌∷◌, length, get_or, slice_index_or, subst, sym, refl, arith}
use Rattle.semantics.specs.Core as core
use Rattle.semantics.specs.Word as word
use Rattle.opencl_terms.specs.Operations as operations
use Rattle.opencl_terms.specs.Types as types
use Rattle.opencl_tree.specs.Tree.{Expression, Expressions, nothing, also}
use Rattle.opencl_tree.specs.Tree as tree
use Rattle.opencl_tree.specs.View.{expression, expressions}
use Rattle.opencl_tree.specs.declared.tree.Expr.{Expr}
use Rattle.opencl_values.specs.Calls.{argument_in, dimension_of}
use Rattle.opencl_values.specs.Faults.{WrongType, refused, then}
use Rattle.opencl_values.specs.Reads.{vector_at}
use Rattle.opencl_values.specs.Singles.{as_scalar}
use Rattle.opencl_values.specs.Scope.{Names}
use Rattle.opencl_values.specs.Values.{value_of, part_of, vector_read}
use Rattle.opencl_values.specs.VectorCalls.{wide_result}
use Rattle.opencl_values.specs.View.{single, singles_seen, values}
use Rattle.opencl_values.specs.Widened.{Wide}
use Rattle.opencl_values.specs.declared.singles.Single.{Single}
use Rattle.opencl_values.specs.declared.wholes.Value.{Value}

pub argument_in-past : (ids : word.Kind) (to : types.Scalar) (site : core.Site) (vs : List Single) (n : ℕ) → length vs ≤ n → argument_in ids to site (singles_seen vs) n ≡ operations.nothing
argument_in-past ids to site [] n h = refl
argument_in-past ids to site (v ∷ vs) zero h = absurd (omega arith)
argument_in-past ids to site (v ∷ vs) (suc n) h = argument_in-past ids to site vs n (omega arith)

pub argument_in-at : (ids : word.Kind) (to : types.Scalar) (site : core.Site) (vs : List Single) (n : ℕ) (d : Single) → n < length vs → argument_in ids to site (singles_seen vs) n ≡ as_scalar ids to site (single (get_or vs n d))
argument_in-at ids to site [] n d h = absurd (omega arith)
argument_in-at ids to site (v ∷ vs) zero d h = refl
argument_in-at ids to site (v ∷ vs) (suc n) d h = argument_in-at ids to site vs n d (omega arith)

pub ruleset values_at = (argument_in-past, argument_in-at)

more : (site : core.Site) (e x : Expression) (es : Expressions) → dimension_of site (also e (also x es)) ≡ refused WrongType site
more site (tree.Integer at kind n) x es = refl
more site e x es = refl

pub dimension_of-many : (site : core.Site) (es : List Expr) → length es ≢ 1 → dimension_of site (expressions es) ≡ refused WrongType site
dimension_of-many site [] h = refl
dimension_of-many site (e ∷ []) h = absurd (h refl)
dimension_of-many site (e ∷ x ∷ es) h = more site (expression e) (expression x) (expressions es)

pub expressions-one : (es : List Expr) (d : Expr) → length es ≡ 1 → expressions es ≡ also (expression (get_or es 0 d)) nothing
expressions-one [] d h = absurd (omega arith)
expressions-one (e ∷ []) d h = refl
expressions-one (e ∷ x ∷ es) d h = absurd (omega arith)

pub ruleset one_argument = (dimension_of-many, expressions-one)

pub vector_read-few : (names : Names) (site : core.Site) (n : ℕ) (es : List Expr) → length es < 2 → vector_read names site n (expressions es) ≡ refused WrongType site
unfolding vector_read
vector_read-few names site n [] h = refl
vector_read-few names site n (e ∷ []) h = refl
vector_read-few names site n (e ∷ x ∷ es) h = absurd (omega arith)

pub vector_read-many : (names : Names) (site : core.Site) (n : ℕ) (es : List Expr) → 2 < length es → vector_read names site n (expressions es) ≡ refused WrongType site
unfolding vector_read
vector_read-many names site n [] h = absurd (omega arith)
vector_read-many names site n (e ∷ []) h = absurd (omega arith)
vector_read-many names site n (e ∷ x ∷ []) h = absurd (omega arith)
vector_read-many names site n (e ∷ x ∷ y ∷ es) h = refl

pub wide_result-other : (ids : word.Kind) (w : Wide) (site : core.Site) (vs : List Value) → length vs ≢ 1 → wide_result ids w site (values vs) ≡ refused WrongType site
wide_result-other ids w site [] h = refl
wide_result-other ids w site (v ∷ []) h = absurd (h refl)
wide_result-other ids w site (v ∷ u ∷ vs) h = refl

pub vector_read-is : (names : Names) (site : core.Site) (n : ℕ) (es : List Expr) (a b : Expr) → 2 ≤ length es → length es < 3 → a ≡ slice_index_or es 0 a → b ≡ slice_index_or es 1 b → vector_read names site n (expressions es) ≡ then (value_of names (expression a)) (λ v. then (part_of names site (expression b)) (vector_at names.ids site n v))
unfolding vector_read
vector_read-is names site n [] a b h g e f = absurd (omega arith)
vector_read-is names site n (x ∷ []) a b h g e f = absurd (omega arith)
vector_read-is names site n (x ∷ y ∷ []) a b h g e f =
    subst (λ u. vector_read names site n (expressions (x ∷ y ∷ [])) ≡ then (value_of names (expression u)) (λ v. then (part_of names site (expression b)) (vector_at names.ids site n v))) (sym e)
    (subst (λ w. vector_read names site n (expressions (x ∷ y ∷ [])) ≡ then (value_of names (expression x)) (λ v. then (part_of names site (expression w)) (vector_at names.ids site n v))) (sym f) refl)
vector_read-is names site n (x ∷ y ∷ z ∷ es) a b h g e f = absurd (omega arith)

pub ruleset read_arguments = (vector_read-few, vector_read-many)

pub ruleset other_arguments = (wide_result-other)
