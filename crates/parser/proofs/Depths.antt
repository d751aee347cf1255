-- A node below 32 levels is the first such node.
use Rattle.std.proofs.Common.{◌≡◌, ℕ, nat_lt, true, cond, Option, Some, ap}
use Rattle.semantics.specs.Core.{Site}
use Rattle.texts.specs.Surface.{Expression, Number, Name, Element, Call, Prefix, Cast, Infix, Conditional, Statement, Declare, DeclareArray, Assign, If, While, For, Barrier, Jump, Block, site_of, begins_at}
use Rattle.texts.specs.Limits.{past, deep_expression, deep_statement}

here : (depth : ℕ) (site : Site) (inner : Option Site) → nat_lt 32 depth ≡ true → past depth site inner ≡ Some site
here depth site inner h = ap (λ b. cond b (Some site) inner) h

pub expression-here : (depth : ℕ) (e : Expression) → nat_lt 32 depth ≡ true → deep_expression depth e ≡ Some (site_of e)
expression-here depth (Number site kind n) h = here depth site _ h
expression-here depth (Name site name) h = here depth site _ h
expression-here depth (Element site name index) h = here depth site _ h
expression-here depth (Call site name arguments) h = here depth site _ h
expression-here depth (Prefix site sign e) h = here depth site _ h
expression-here depth (Cast site kind e) h = here depth site _ h
expression-here depth (Infix site sign l r) h = here depth site _ h
expression-here depth (Conditional site test a b) h = here depth site _ h

pub statement-here : (depth : ℕ) (s : Statement) → nat_lt 32 depth ≡ true → deep_statement depth s ≡ Some (begins_at s)
statement-here depth (Declare d) h = here depth d.site _ h
statement-here depth (DeclareArray n site kind name_site name size) h = here depth site _ h
statement-here depth (Assign a) h = here depth a.site _ h
statement-here depth (If n site test a b) h = here depth site _ h
statement-here depth (While n site test body) h = here depth site _ h
statement-here depth (For n site first test update body) h = here depth site _ h
statement-here depth (Barrier n site flags) h = here depth site _ h
statement-here depth (Jump n site jump) h = here depth site _ h
statement-here depth (Block n site body) h = here depth site _ h

pub ruleset deep_here = (expression-here)

pub ruleset deep_there = (statement-here)
