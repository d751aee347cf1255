-- Texts of elements, one after another.
use Rattle.std.proofs.Common.{◌≡◌, ℕ, ◌+◌, ◌<◌, ◌≤◌, List, [], ◌∷◌, ◌++◌, length, drop, get_or, map, codes, ap, refl, sym, ◌∙◌, append_assoc, nat_eq, false}
use Rattle.std.proofs.lemmas.List.{drop_more, drop_all, append-nil}
use Rattle.texts.specs.Canonical.{expression_text, arguments_text, statements_text, statement_text, else_text, line, deeper, parameter_text, parameters_text}
use Rattle.syntax.specs.View.{expression, expressions, statement, statements, parameter}
use Rattle.syntax.specs.declared.tree.Expr.{Expr}
use Rattle.syntax.specs.declared.tree.Stmt.{Stmt}
use Rattle.syntax.specs.declared.tree.Parameter.{Parameter}

onto : (out a new b whole rest : List ℕ) → new ≡ out ++ a → out ++ b ≡ whole → b ≡ a ++ rest → new ++ rest ≡ whole
onto out a new b whole rest p q r = ap (λ t. t ++ rest) p ∙ append_assoc out a rest ∙ ap (λ t. out ++ t) (sym r) ∙ q

onto_two : (out a b new mid c whole rest : List ℕ) → mid ≡ out ++ a → new ≡ mid ++ b → out ++ c ≡ whole → c ≡ a ++ (b ++ rest) → new ++ rest ≡ whole
onto_two out a b new mid c whole rest m p q r = onto mid b new (b ++ rest) whole rest p (onto out a mid c whole (b ++ rest) m q r) refl

pub one_argument : (before : List ℕ) (xs : List Expr) (i : ℕ) (x : Expr) (out mid new whole : List ℕ) → i < length xs → x ≡ get_or xs i x → mid ≡ out ++ before → new ≡ mid ++ expression_text (expression x) → out ++ arguments_text before (expressions (drop i xs)) ≡ whole → new ++ arguments_text (codes ", ") (expressions (drop (i + 1) xs)) ≡ whole
one_argument before xs i x out mid new whole h e m p q =
    onto_two out before (expression_text (expression x)) new mid (arguments_text before (expressions (drop i xs))) whole (arguments_text (codes ", ") (expressions (drop (i + 1) xs))) m p q
    (ap (λ ys. arguments_text before (expressions ys)) (drop_more xs i x h)
    ∙ ap (λ y. before ++ (expression_text (expression y) ++ arguments_text (codes ", ") (expressions (drop (i + 1) xs)))) (sym e))

pub no_argument : (before : List ℕ) (xs : List Expr) (i : ℕ) (out whole : List ℕ) → length xs ≤ i → out ++ arguments_text before (expressions (drop i xs)) ≡ whole → out ≡ whole
no_argument before xs i out whole h q = sym (append-nil out) ∙ ap (λ ys. out ++ arguments_text before (expressions ys)) (sym (drop_all i xs h)) ∙ q

pub one_parameter : (before : List ℕ) (xs : List Parameter) (i : ℕ) (x : Parameter) (out mid new whole : List ℕ) → i < length xs → x ≡ get_or xs i x → mid ≡ out ++ before → new ≡ mid ++ parameter_text (parameter x) → out ++ parameters_text before (map parameter (drop i xs)) ≡ whole → new ++ parameters_text (codes ", ") (map parameter (drop (i + 1) xs)) ≡ whole
one_parameter before xs i x out mid new whole h e m p q =
    onto_two out before (parameter_text (parameter x)) new mid (parameters_text before (map parameter (drop i xs))) whole (parameters_text (codes ", ") (map parameter (drop (i + 1) xs))) m p q
    (ap (λ ys. parameters_text before (map parameter ys)) (drop_more xs i x h)
    ∙ ap (λ y. before ++ (parameter_text (parameter y) ++ parameters_text (codes ", ") (map parameter (drop (i + 1) xs)))) (sym e))

pub no_parameter : (before : List ℕ) (xs : List Parameter) (i : ℕ) (out whole : List ℕ) → length xs ≤ i → out ++ parameters_text before (map parameter (drop i xs)) ≡ whole → out ≡ whole
no_parameter before xs i out whole h q = sym (append-nil out) ∙ ap (λ ys. out ++ parameters_text before (map parameter ys)) (sym (drop_all i xs h)) ∙ q

pub one_statement : (pad : List ℕ) (xs : List Stmt) (i : ℕ) (x : Stmt) (out new whole : List ℕ) → i < length xs → x ≡ get_or xs i x → new ≡ out ++ statement_text pad (statement x) → out ++ statements_text pad (statements (drop i xs)) ≡ whole → new ++ statements_text pad (statements (drop (i + 1) xs)) ≡ whole
one_statement pad xs i x out new whole h e p q =
    onto out (statement_text pad (statement x)) new (statements_text pad (statements (drop i xs))) whole (statements_text pad (statements (drop (i + 1) xs))) p q
    (ap (λ ys. statements_text pad (statements ys)) (drop_more xs i x h)
    ∙ ap (λ y. statement_text pad (statement y) ++ statements_text pad (statements (drop (i + 1) xs))) (sym e))

pub no_statement : (pad : List ℕ) (xs : List Stmt) (i : ℕ) (out whole : List ℕ) → length xs ≤ i → out ++ statements_text pad (statements (drop i xs)) ≡ whole → out ≡ whole
no_statement pad xs i out whole h q = sym (append-nil out) ∙ ap (λ ys. out ++ statements_text pad (statements ys)) (sym (drop_all i xs h)) ∙ q

pub an_else : (pad : List ℕ) (ss : List Stmt) → nat_eq (length ss) 0 ≡ false → else_text pad (statements ss) ≡ line pad (codes "} else {") ++ statements_text (deeper pad) (statements ss)
an_else pad [] n = cc
an_else pad (s ∷ ss) n = refl
