-- What an expression or a statement stands for, by the `Vec`s that it holds.
use Rattle.std.proofs.Common.{◌≡◌, ℕ, refl, ap, ◌∙◌}
use Rattle.std.specs.Prelude.{Vec, String, string_bytes}
use Rattle.std.specs.declared.alloc.Global.{Global}
use Rattle.texts.specs.Surface as surface
use Rattle.syntax.specs.View.{expression, argument_row, expressions, first, assignment, statement, body_row, statements}
use Rattle.core_code.specs.View.{site}
use Rattle.core_code.specs.declared.tree.Site.{Site}
use Rattle.syntax.specs.declared.tree.Expr.{Expr, Call, Row_of-Expr, end_of-Expr, more_of-Expr, items-the_row-Expr, items_hidden-the_row-Expr-0}
use Rattle.syntax.specs.declared.tree.Expr.TheBlock.{hidden-the_row-Expr-0}
use Rattle.syntax.specs.declared.tree.Stmt.{Stmt, If, While, For, Block, Row_of-Stmt, end_of-Stmt, more_of-Stmt, items-the_row-Stmt, items_hidden-the_row-Stmt-0}
use Rattle.syntax.specs.declared.tree.First.{First}
use Rattle.syntax.specs.declared.tree.Assignment.{Assignment}
use Rattle.syntax.specs.declared.tree.Stmt.TheBlock.{hidden-the_row-Stmt-0}

argument_row-items : {m : _} → (r : Row_of-Expr m) → argument_row r ≡ expressions (items-the_row-Expr m r)
argument_row-items end_of-Expr = refl
argument_row-items (more_of-Expr e r) = ap (surface.also (expression e)) (argument_row-items r)

pub argument_row-vec : (v : Vec Expr Global) → argument_row (hidden-the_row-Expr-0 v) ≡ expressions v.items
argument_row-vec v = argument_row-items (hidden-the_row-Expr-0 v) ∙ ap expressions (items_hidden-the_row-Expr-0 v)

pub seen_call : (s : Site) (name : String Global) (arguments : Vec Expr Global) → expression (Call s name arguments) ≡ surface.Call (site s) (string_bytes name) (expressions arguments.items)
seen_call s name arguments = ap (surface.Call (site s) (string_bytes name)) (argument_row-vec arguments)

body_row-items : {m : _} → (r : Row_of-Stmt m) → body_row r ≡ statements (items-the_row-Stmt m r)
body_row-items end_of-Stmt = refl
body_row-items (more_of-Stmt s r) = ap (surface.one (statement s)) (body_row-items r)

pub body_row-vec : (v : Vec Stmt Global) → body_row (hidden-the_row-Stmt-0 v) ≡ statements v.items
body_row-vec v = body_row-items (hidden-the_row-Stmt-0 v) ∙ ap statements (items_hidden-the_row-Stmt-0 v)

pub seen_if : (n : ℕ) (s : Site) (test : Expr) (a b : Vec Stmt Global) → statement (If n s test a b) ≡ surface.If n (site s) (expression test) (statements a.items) (statements b.items)
seen_if n s test a b =
    ap (λ x. surface.If n (site s) (expression test) x (body_row (hidden-the_row-Stmt-0 b))) (body_row-vec a) ∙ ap (surface.If n (site s) (expression test) (statements a.items)) (body_row-vec b)

pub seen_while : (n : ℕ) (s : Site) (test : Expr) (body : Vec Stmt Global) → statement (While n s test body) ≡ surface.While n (site s) (expression test) (statements body.items)
seen_while n s test body = ap (surface.While n (site s) (expression test)) (body_row-vec body)

pub seen_block : (n : ℕ) (s : Site) (body : Vec Stmt Global) → statement (Block n s body) ≡ surface.Block n (site s) (statements body.items)
seen_block n s body = ap (surface.Block n (site s)) (body_row-vec body)

pub seen_for : (n : ℕ) (s : Site) (begin : First) (test : Expr) (update : Assignment) (body : Vec Stmt Global) → statement (For n s begin test update body) ≡ surface.For n (site s) (first begin) (expression test) (assignment update) (statements body.items)
seen_for n s begin test update body = ap (surface.For n (site s) (first begin) (expression test) (assignment update)) (body_row-vec body)
