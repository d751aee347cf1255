-- Calls by their arguments.
use Rattle.std.proofs.Common.{◌≡◌, ◌≢◌, List, [], ◌∷◌, length, get_or, true, false, Ok, Err, refl, arith}
use Rattle.semantics.specs.Core as core
use Rattle.texts.specs.Surface.{Expression, Number, Expressions, nothing, also}
use Rattle.semantics.specs.Word.{Kind}
use Rattle.types.specs.Scope.{Devices, Binding}
use Rattle.types.specs.TypeFaults.{WrongType, Checked, refused, then}
use Rattle.types.specs.Typing.{TypedTerm, id_term, are_two, pick_term, type_of, types_of}
use Rattle.syntax.specs.View.{expression, expressions}
use Rattle.syntax.specs.declared.tree.Expr.{Expr}

more : (ids : Kind) (site : core.Site) (f : core.Function) (e x : Expression) (es : Expressions) → id_term ids site f (also e (also x es)) ≡ refused WrongType site
more ids site f (Number at kind n) x es = refl
more ids site f e x es = refl

pub id_term-many : (ids : Kind) (site : core.Site) (f : core.Function) (es : List Expr) → length es ≢ 1 → id_term ids site f (expressions es) ≡ refused WrongType site
id_term-many ids site f [] h = refl
id_term-many ids site f (e ∷ []) h = absurd (h refl)
id_term-many ids site f (e ∷ x ∷ es) h = more ids site f (expression e) (expression x) (expressions es)

pub expressions-one : (es : List Expr) (d : Expr) → length es ≡ 1 → expressions es ≡ also (expression (get_or es 0 d)) nothing
expressions-one [] d h = absurd (omega arith)
expressions-one (e ∷ []) d h = refl
expressions-one (e ∷ x ∷ es) d h = absurd (omega arith)

pub are_two-not : (es : List Expr) → length es ≢ 2 → are_two (expressions es) ≡ false
are_two-not [] h = refl
are_two-not (e ∷ []) h = refl
are_two-not (e ∷ x ∷ []) h = absurd (h refl)
are_two-not (e ∷ x ∷ y ∷ es) h = refl

both : (a b : Checked TypedTerm) (site : core.Site) (pick : core.Term → core.Term → core.Term) → then (then a (λ t. then (then b (λ u. Ok (u ∷ []))) (λ ts. Ok (t ∷ ts)))) (pick_term site pick) ≡ then a (λ t. then b (λ u. pick_term site pick (t ∷ u ∷ [])))
both (Ok t) (Ok u) site pick = refl
both (Ok t) (Err e) site pick = refl
both (Err e) b site pick = refl

pub are_two-is : (es : List Expr) → length es ≡ 2 → are_two (expressions es) ≡ true
are_two-is [] h = absurd (omega arith)
are_two-is (e ∷ []) h = absurd (omega arith)
are_two-is (e ∷ x ∷ []) h = refl
are_two-is (e ∷ x ∷ y ∷ es) h = absurd (omega arith)

-- `min` or `max` of two arguments
pub pick-two : (ds : Devices) (names : List Binding) (site : core.Site) (pick : core.Term → core.Term → core.Term) (es : List Expr) (d x : Expr) → length es ≡ 2 → then (types_of ds names (expressions es)) (pick_term site pick) ≡ then (type_of ds names (expression (get_or es 0 d))) (λ t. then (type_of ds names (expression (get_or es 1 x))) (λ u. pick_term site pick (t ∷ u ∷ [])))
unfolding types_of
pick-two ds names site pick [] d z h = absurd (omega arith)
pick-two ds names site pick (e ∷ []) d z h = absurd (omega arith)
pick-two ds names site pick (e ∷ x ∷ []) d z h = both (type_of ds names (expression e)) (type_of ds names (expression x)) site pick
pick-two ds names site pick (e ∷ x ∷ y ∷ es) d z h = absurd (omega arith)

pub ruleset arguments = (id_term-many, expressions-one)

pub ruleset counted = (are_two-is, are_two-not)

pub ruleset both_typed = (pick-two)
