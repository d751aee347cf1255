-- What the code has of terms and statements with places.
use Rattle.std.specs.Prelude.{ℕ, Vec}
use Rattle.std.specs.declared.alloc.Global.{Global}
use Rattle.core_code.specs.View.{term, statement, statements}
use Rattle.core_code.specs.declared.tree.Term.{Term}
use Rattle.core_code.specs.declared.tree.Statement.{Statement}
use Rattle.opencl_core.specs.Places as places

abbrev pub one : Term × ℕ → places.Placed
one x = places.with_place (term x.0) x.1

abbrev pub both : Term × Term × ℕ → places.Two
both x = record { left = term x.0; right = term x.1; next = x.2 }

abbrev pub statement_at : Statement × ℕ → places.PlacedStatement
statement_at x = places.with_statement (statement x.0) x.1

abbrev pub all : Vec Statement Global × ℕ → places.PlacedStatements
all x = places.with_all (statements x.0.items) x.1
