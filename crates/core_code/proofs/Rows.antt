-- What a core statement stands for, by the `Vec`s that it holds.
use Rattle.std.proofs.Common.{◌≡◌, ℕ, refl, ap, ◌∙◌}
use Rattle.std.specs.Prelude.{Vec}
use Rattle.std.specs.declared.alloc.Global.{Global}
use Rattle.semantics.specs.Core as core
use Rattle.core_code.specs.View.{term, statement, statement_row, statements}
use Rattle.core_code.specs.declared.tree.Term.{Term}
use Rattle.core_code.specs.declared.tree.Statement.{Statement, If, Loop, Row_of-Statement, end_of-Statement, more_of-Statement, items-the_row-Statement, items_hidden-the_row-Statement-0}
use Rattle.core_code.specs.declared.tree.Statement.TheBlock.{hidden-the_row-Statement-0}

statement_row-items : {m : _} → (r : Row_of-Statement m) → statement_row r ≡ statements (items-the_row-Statement m r)
statement_row-items end_of-Statement = refl
statement_row-items (more_of-Statement s r) = ap (core.one (statement s)) (statement_row-items r)

statement_row-vec : (v : Vec Statement Global) → statement_row (hidden-the_row-Statement-0 v) ≡ statements v.items
statement_row-vec v = statement_row-items (hidden-the_row-Statement-0 v) ∙ ap statements (items_hidden-the_row-Statement-0 v)

pub seen_if : (n : ℕ) (test : Term) (a b : Vec Statement Global) → statement (If n test a b) ≡ core.If n (term test) (statements a.items) (statements b.items)
seen_if n test a b =
    ap (λ x. core.If n (term test) x (statement_row (hidden-the_row-Statement-0 b))) (statement_row-vec a) ∙ ap (core.If n (term test) (statements a.items)) (statement_row-vec b)

pub seen_loop : (n : ℕ) (test : Term) (body update : Vec Statement Global) → statement (Loop n test body update) ≡ core.Loop n (term test) (statements body.items) (statements update.items)
seen_loop n test a b =
    ap (λ x. core.Loop n (term test) x (statement_row (hidden-the_row-Statement-0 b))) (statement_row-vec a) ∙ ap (core.Loop n (term test) (statements a.items)) (statement_row-vec b)
