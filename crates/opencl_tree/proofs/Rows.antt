-- What a node stands for, by the `Vec`s that it holds.
use Rattle.std.proofs.Common.{◌≡◌, ℕ, refl, ap, ◌∙◌}
use Rattle.std.specs.Prelude.{Vec, String, Option, string_bytes}
use Rattle.std.specs.declared.alloc.Global.{Global}
use Rattle.opencl_tree.specs.Tree as tree
use Rattle.opencl_tree.specs.View.{expression, expression_row, expressions, type_name, initial, initial_row, initials, first, maybe, statement, statement_row, statements}
use Rattle.core_code.specs.View.{site}
use Rattle.core_code.specs.declared.tree.Site.{Site}
use Rattle.opencl_tree.specs.declared.types.TypeName.{TypeName}
use Rattle.opencl_tree.specs.declared.tree.Expr.{Expr, Call, Vector, Row_of-Expr, end_of-Expr, more_of-Expr, items-the_row-Expr, items_hidden-the_row-Expr-0}
use Rattle.opencl_tree.specs.declared.tree.Expr.TheBlock.{hidden-the_row-Expr-0}
use Rattle.opencl_tree.specs.declared.tree.Initial.{Initial, Listed, Row_of-Initial, end_of-Initial, more_of-Initial, items-the_row-Initial, items_hidden-the_row-Initial-0}
use Rattle.opencl_tree.specs.declared.tree.Initial.TheBlock.{hidden-the_row-Initial-0}
use Rattle.opencl_tree.specs.declared.tree.Stmt.{Stmt, If, While, Do, For, Switch, Block, Row_of-Stmt, end_of-Stmt, more_of-Stmt, items-the_row-Stmt, items_hidden-the_row-Stmt-0}
use Rattle.opencl_tree.specs.declared.tree.First.{First}
use Rattle.opencl_tree.specs.declared.tree.Stmt.TheBlock.{hidden-the_row-Stmt-0}

expression_row-items : {m : _} → (r : Row_of-Expr m) → expression_row r ≡ expressions (items-the_row-Expr m r)
expression_row-items end_of-Expr = refl
expression_row-items (more_of-Expr e r) = ap (tree.also (expression e)) (expression_row-items r)

pub expression_row-vec : (v : Vec Expr Global) → expression_row (hidden-the_row-Expr-0 v) ≡ expressions v.items
expression_row-vec v = expression_row-items (hidden-the_row-Expr-0 v) ∙ ap expressions (items_hidden-the_row-Expr-0 v)

pub seen_call : (s : Site) (name : String Global) (arguments : Vec Expr Global) → expression (Call s name arguments) ≡ tree.Call (site s) (string_bytes name) (expressions arguments.items)
seen_call s name arguments = ap (tree.Call (site s) (string_bytes name)) (expression_row-vec arguments)

pub seen_vector : (s : Site) (t : TypeName) (parts : Vec Expr Global) → expression (Vector s t parts) ≡ tree.Vector (site s) (type_name t) (expressions parts.items)
seen_vector s t parts = ap (tree.Vector (site s) (type_name t)) (expression_row-vec parts)

initial_row-items : {m : _} → (r : Row_of-Initial m) → initial_row r ≡ initials (items-the_row-Initial m r)
initial_row-items end_of-Initial = refl
initial_row-items (more_of-Initial i r) = ap (tree.and_then (initial i)) (initial_row-items r)

initial_row-vec : (v : Vec Initial Global) → initial_row (hidden-the_row-Initial-0 v) ≡ initials v.items
initial_row-vec v = initial_row-items (hidden-the_row-Initial-0 v) ∙ ap initials (items_hidden-the_row-Initial-0 v)

pub seen_listed : (s : Site) (values : Vec Initial Global) → initial (Listed s values) ≡ tree.Listed (site s) (initials values.items)
seen_listed s values = ap (tree.Listed (site s)) (initial_row-vec values)

statement_row-items : {m : _} → (r : Row_of-Stmt m) → statement_row r ≡ statements (items-the_row-Stmt m r)
statement_row-items end_of-Stmt = refl
statement_row-items (more_of-Stmt s r) = ap (tree.one (statement s)) (statement_row-items r)

pub statement_row-vec : (v : Vec Stmt Global) → statement_row (hidden-the_row-Stmt-0 v) ≡ statements v.items
statement_row-vec v = statement_row-items (hidden-the_row-Stmt-0 v) ∙ ap statements (items_hidden-the_row-Stmt-0 v)

pub seen_if : (n : ℕ) (s : Site) (test : Expr) (a b : Vec Stmt Global) → statement (If n s test a b) ≡ tree.If n (site s) (expression test) (statements a.items) (statements b.items)
seen_if n s test a b =
    ap (λ x. tree.If n (site s) (expression test) x (statement_row (hidden-the_row-Stmt-0 b))) (statement_row-vec a) ∙ ap (tree.If n (site s) (expression test) (statements a.items)) (statement_row-vec b)

pub seen_while : (n : ℕ) (s : Site) (test : Expr) (body : Vec Stmt Global) → statement (While n s test body) ≡ tree.While n (site s) (expression test) (statements body.items)
seen_while n s test body = ap (tree.While n (site s) (expression test)) (statement_row-vec body)

pub seen_do : (n : ℕ) (s : Site) (body : Vec Stmt Global) (test : Expr) → statement (Do n s body test) ≡ tree.Do n (site s) (statements body.items) (expression test)
seen_do n s body test = ap (λ b. tree.Do n (site s) b (expression test)) (statement_row-vec body)

pub seen_switch : (n : ℕ) (s : Site) (test : Expr) (body : Vec Stmt Global) → statement (Switch n s test body) ≡ tree.Switch n (site s) (expression test) (statements body.items)
seen_switch n s test body = ap (tree.Switch n (site s) (expression test)) (statement_row-vec body)

pub seen_block : (n : ℕ) (s : Site) (body : Vec Stmt Global) → statement (Block n s body) ≡ tree.Block n (site s) (statements body.items)
seen_block n s body = ap (tree.Block n (site s)) (statement_row-vec body)

pub seen_for : (n : ℕ) (s : Site) (begin : First) (test update : Option Expr) (body : Vec Stmt Global) → statement (For n s begin test update body) ≡ tree.For n (site s) (first begin) (maybe test) (maybe update) (statements body.items)
seen_for n s begin test update body = ap (tree.For n (site s) (first begin) (maybe test) (maybe update)) (statement_row-vec body)
