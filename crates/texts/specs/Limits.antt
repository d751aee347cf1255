-- The limits of a tree (ours), each with the place where it is passed first: a depth of 32 levels, 16 buffers, 64 value parameters and
-- private variables together, 16 local arrays. (512 statements, an array's length and the local sizes are limited as they are read.)
use Rattle.std.specs.Prelude.{ℕ, ◌+◌, List, [], ◌∷◌, Option, Some, None, Result, Ok, Err, cond, nat_lt}
use Rattle.semantics.specs.Core.{Site}
use Rattle.texts.specs.Surface.{Expression, Number, Name, Element, Call, Prefix, Cast, Infix, Conditional, Expressions, nothing, also, Declaration, Assignment, First, FirstDeclares, FirstAssigns, Statement, Declare, DeclareArray, Assign, If, While, For, Barrier, Jump, Block, Statements, none, one, Parameter, Buffer, Value, Kernel}
use Rattle.texts.specs.ParseFaults.{ParseFault, TooDeep, TooMany}

abbrev pub either : Option Site → Option Site → Option Site
either None b = b
either (Some a) b = Some a

-- a node at this depth, and then what is in it
abbrev pub past : (depth : ℕ) → Site → Option Site → Option Site
past depth site inner = cond (nat_lt 32 depth) (Some site) inner

-- operands, indexes and arguments are one deeper than what they belong to; parentheses count nothing
abbrev mutual
  pub deep_expression : (depth : ℕ) → Expression → Option Site
  deep_expression depth (Number site kind n) = past depth site None
  deep_expression depth (Name site name) = past depth site None
  deep_expression depth (Element site name index) = past depth site (deep_expression (depth + 1) index)
  deep_expression depth (Call site name arguments) = past depth site (deep_arguments (depth + 1) arguments)
  deep_expression depth (Prefix site sign e) = past depth site (deep_expression (depth + 1) e)
  deep_expression depth (Cast site kind e) = past depth site (deep_expression (depth + 1) e)
  deep_expression depth (Infix site sign l r) = past depth site (either (deep_expression (depth + 1) l) (deep_expression (depth + 1) r))
  deep_expression depth (Conditional site test a b) = past depth site (either (deep_expression (depth + 1) test) (either (deep_expression (depth + 1) a) (deep_expression (depth + 1) b)))

  pub deep_arguments : (depth : ℕ) → Expressions → Option Site
  deep_arguments depth nothing = None
  deep_arguments depth (also e es) = either (deep_expression depth e) (deep_arguments depth es)

abbrev pub deep_index : (depth : ℕ) → Option Expression → Option Site
deep_index depth None = None
deep_index depth (Some e) = deep_expression depth e

abbrev pub deep_declaration : (depth : ℕ) → Declaration → Option Site
deep_declaration depth d = past depth d.site (deep_expression (depth + 1) d.value)

abbrev pub deep_assignment : (depth : ℕ) → Assignment → Option Site
deep_assignment depth a = past depth a.site (either (deep_index (depth + 1) a.index) (deep_expression (depth + 1) a.value))

abbrev pub deep_first : (depth : ℕ) → First → Option Site
deep_first depth (FirstDeclares d) = deep_declaration depth d
deep_first depth (FirstAssigns a) = deep_assignment depth a

-- an expression is one deeper than its statement, and so are the statements in it
abbrev mutual
  pub deep_statement : (depth : ℕ) → Statement → Option Site
  deep_statement depth (Declare d) = deep_declaration depth d
  deep_statement depth (DeclareArray n site kind name_site name size) = past depth site None
  deep_statement depth (Assign a) = deep_assignment depth a
  deep_statement depth (If n site test a b) = past depth site (either (deep_expression (depth + 1) test) (either (deep_statements (depth + 1) a) (deep_statements (depth + 1) b)))
  deep_statement depth (While n site test body) = past depth site (either (deep_expression (depth + 1) test) (deep_statements (depth + 1) body))
  deep_statement depth (For n site first test update body) =
      past depth site (either (deep_first (depth + 1) first) (either (deep_expression (depth + 1) test) (either (deep_assignment (depth + 1) update) (deep_statements (depth + 1) body))))
  deep_statement depth (Barrier n site flags) = past depth site (deep_expression (depth + 1) flags)
  deep_statement depth (Jump n site jump) = past depth site None
  deep_statement depth (Block n site body) = past depth site (deep_statements (depth + 1) body)

  pub deep_statements : (depth : ℕ) → Statements → Option Site
  deep_statements depth none = None
  deep_statements depth (one s ss) = either (deep_statement depth s) (deep_statements depth ss)

-- how many names of each sort are declared so far
pub record Counts : Type 0 where
  pub buffers : ℕ
  pub variables : ℕ
  pub arrays : ℕ

abbrev pub nothing_declared : Counts
nothing_declared = record { buffers = 0; variables = 0; arrays = 0 }

-- one more, where the limit is not reached
abbrev pub one_buffer : Counts → Site → Result Counts Site
one_buffer c site = cond (nat_lt c.buffers 16) (Ok (record c { buffers = c.buffers + 1 })) (Err site)

abbrev pub one_variable : Counts → Site → Result Counts Site
one_variable c site = cond (nat_lt c.variables 64) (Ok (record c { variables = c.variables + 1 })) (Err site)

abbrev pub one_array : Counts → Site → Result Counts Site
one_array c site = cond (nat_lt c.arrays 16) (Ok (record c { arrays = c.arrays + 1 })) (Err site)

abbrev pub next : Result Counts Site → (Counts → Result Counts Site) → Result Counts Site
next (Ok c) go = go c
next (Err site) go = Err site

abbrev pub count_parameter : Counts → Parameter → Result Counts Site
count_parameter c (Buffer constant kind site name) = one_buffer c site
count_parameter c (Value kind site name) = one_variable c site

abbrev pub count_parameters : Counts → List Parameter → Result Counts Site
count_parameters c [] = Ok c
count_parameters c (p ∷ ps) = next (count_parameter c p) (λ c. count_parameters c ps)

abbrev pub count_first : Counts → First → Result Counts Site
count_first c (FirstDeclares d) = one_variable c d.name_site
count_first c (FirstAssigns a) = Ok c

abbrev mutual
  pub count_statement : Counts → Statement → Result Counts Site
  count_statement c (Declare d) = one_variable c d.name_site
  count_statement c (DeclareArray n site kind name_site name size) = one_array c name_site
  count_statement c (Assign a) = Ok c
  count_statement c (If n site test a b) = next (count_statements c a) (λ c. count_statements c b)
  count_statement c (While n site test body) = count_statements c body
  count_statement c (For n site first test update body) = next (count_first c first) (λ c. count_statements c body)
  count_statement c (Barrier n site flags) = Ok c
  count_statement c (Jump n site jump) = Ok c
  count_statement c (Block n site body) = count_statements c body

  pub count_statements : Counts → Statements → Result Counts Site
  count_statements c none = Ok c
  count_statements c (one s ss) = next (count_statement c s) (λ c. count_statements c ss)

-- whether a tree is within the limits, or the first that it passes, depth before counts
abbrev pub counted : Result Counts Site → Result Counts (ParseFault × Site)
counted (Ok c) = Ok c
counted (Err site) = Err (TooMany, site)

abbrev pub measured : Option Site → Result Counts Site → Result Counts (ParseFault × Site)
measured None counts = counted counts
measured (Some site) counts = Err (TooDeep, site)

unfoldable pub within_limits : Kernel → Result Counts (ParseFault × Site)
within_limits k = measured (deep_statements 1 k.body) (next (count_parameters nothing_declared k.parameters) (λ c. count_statements c k.body))
