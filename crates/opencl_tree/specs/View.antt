-- What the code's trees stand for: the same trees, without where they lie in memory.
use Rattle.std.specs.Prelude.{List, [], ◌∷◌, Option, Some, None, map, string_bytes}
use Rattle.words.specs.View.{kind}
use Rattle.core_code.specs.View.{site}
use Rattle.syntax.specs.View.{infix_sign, assign_sign}
use Rattle.opencl_tokens.specs.Spelling.{scalar}
use Rattle.opencl_tree.specs.Types as types
use Rattle.opencl_tree.specs.Tree as tree
use Rattle.opencl_tree.specs.declared.types.Space.{Space}
use Rattle.opencl_tree.specs.declared.types.Space.TheVariants as spaces
use Rattle.opencl_tree.specs.declared.types.Qualifiers.{Qualifiers}
use Rattle.opencl_tree.specs.declared.types.Base.{Base}
use Rattle.opencl_tree.specs.declared.types.Base.TheVariants as bases
use Rattle.opencl_tree.specs.declared.types.TypeName.{TypeName}
use Rattle.opencl_tree.specs.declared.tree.PrefixSign.{PrefixSign}
use Rattle.opencl_tree.specs.declared.tree.PrefixSign.TheVariants as prefixes
use Rattle.opencl_tree.specs.declared.tree.StepSign.{StepSign}
use Rattle.opencl_tree.specs.declared.tree.StepSign.TheVariants as steps
use Rattle.opencl_tree.specs.declared.tree.Side.{Side}
use Rattle.opencl_tree.specs.declared.tree.Side.TheVariants as sides
use Rattle.opencl_tree.specs.declared.tree.Expr.{Expr, Integer, Real, Name, Call', Index', Member', Prefix', Step', Cast', Vector', Infix', Conditional', Assign', Comma', SizeofType, SizeofOf', Row_of-Expr, end_of-Expr, more_of-Expr}
use Rattle.opencl_tree.specs.declared.tree.Initial.{Initial, Absent, Given, Listed', Row_of-Initial, end_of-Initial, more_of-Initial}
use Rattle.opencl_tree.specs.declared.tree.Declarator.{Declarator}
use Rattle.opencl_tree.specs.declared.tree.Declaration.{Declaration}
use Rattle.opencl_tree.specs.declared.tree.First.{First}
use Rattle.opencl_tree.specs.declared.tree.First.TheVariants as firsts
use Rattle.opencl_tree.specs.declared.tree.Stmt.{Stmt, Declare, Typedef, Evaluate, If', While', Do', For', Switch', Case, Default, Break, Continue, Return, Block', Empty, Row_of-Stmt, end_of-Stmt, more_of-Stmt}

abbrev pub space : Space → types.Space
space spaces.Global = types.Global
space spaces.Local = types.Local
space spaces.Constant = types.Constant
space spaces.Private = types.Private

abbrev pub space_of : Option Space → Option types.Space
space_of None = None
space_of (Some s) = Some (space s)

abbrev pub qualifiers : Qualifiers → types.Qualifiers
qualifiers q = record { space = space_of q.space; constant = q.constant; volatile = q.volatile; restrict = q.restrict }

abbrev pub base : Base → types.Base
base bases.Void = types.Void
base (bases.Numbers s width) = types.Numbers (scalar s) width
base (bases.Alias name) = types.Alias (string_bytes name)

abbrev pub type_name : TypeName → types.TypeName
type_name t = record { base = base t.base; qualifiers = qualifiers t.qualifiers; stars = map qualifiers t.stars.items }

abbrev pub prefix_sign : PrefixSign → tree.PrefixSign
prefix_sign prefixes.Minus = tree.Minus
prefix_sign prefixes.Plus = tree.Plus
prefix_sign prefixes.LogicalNot = tree.LogicalNot
prefix_sign prefixes.BitNot = tree.BitNot
prefix_sign prefixes.Indirection = tree.Indirection
prefix_sign prefixes.AddressOf = tree.AddressOf

abbrev pub step_sign : StepSign → tree.StepSign
step_sign steps.Increment = tree.Increment
step_sign steps.Decrement = tree.Decrement

abbrev pub side : Side → tree.Side
side sides.Before = tree.Before
side sides.Behind = tree.Behind

abbrev mutual
  pub expression : Expr → tree.Expression
  expression (Integer s k n) = tree.Integer (site s) (kind k) n
  expression (Real s spelling) = tree.Real (site s) spelling.items
  expression (Name s name) = tree.Name (site s) (string_bytes name)
  expression (Call' s name m arguments) = tree.Call (site s) (string_bytes name) (expression_row arguments)
  expression (Index' s p e q index) = tree.Index (site s) (expression e) (expression index)
  expression (Member' s p e name) = tree.Member (site s) (expression e) (string_bytes name)
  expression (Prefix' s sign p e) = tree.Prefix (site s) (prefix_sign sign) (expression e)
  expression (Step' s where_it_is sign p e) = tree.Step (site s) (side where_it_is) (step_sign sign) (expression e)
  expression (Cast' s t p e) = tree.Cast (site s) (type_name t) (expression e)
  expression (Vector' s t m parts) = tree.Vector (site s) (type_name t) (expression_row parts)
  expression (Infix' s sign p left q right) = tree.Infix (site s) (infix_sign sign) (expression left) (expression right)
  expression (Conditional' s p test q taken r skipped) = tree.Conditional (site s) (expression test) (expression taken) (expression skipped)
  expression (Assign' s sign p target q value) = tree.Assign (site s) (assign_sign sign) (expression target) (expression value)
  expression (Comma' s p a q b) = tree.Comma (site s) (expression a) (expression b)
  expression (SizeofType s t) = tree.SizeofType (site s) (type_name t)
  expression (SizeofOf' s p e) = tree.SizeofOf (site s) (expression e)

  pub expression_row : {m : _} → Row_of-Expr m → tree.Expressions
  expression_row end_of-Expr = tree.nothing
  expression_row (more_of-Expr e es) = tree.also (expression e) (expression_row es)

-- expressions as the code has them in a `Vec`
abbrev pub expressions : List Expr → tree.Expressions
expressions [] = tree.nothing
expressions (e ∷ es) = tree.also (expression e) (expressions es)

abbrev pub maybe : Option Expr → Option tree.Expression
maybe None = None
maybe (Some e) = Some (expression e)

abbrev mutual
  pub initial : Initial → tree.Initial
  initial Absent = tree.Absent
  initial (Given e) = tree.Given (expression e)
  initial (Listed' s m values) = tree.Listed (site s) (initial_row values)

  pub initial_row : {m : _} → Row_of-Initial m → tree.Initials
  initial_row end_of-Initial = tree.no_more
  initial_row (more_of-Initial i is) = tree.and_then (initial i) (initial_row is)

abbrev pub initials : List Initial → tree.Initials
initials [] = tree.no_more
initials (i ∷ is) = tree.and_then (initial i) (initials is)

abbrev pub declarator : Declarator → tree.Declarator
declarator d = record {
  site = site d.site;
  name = string_bytes d.name;
  stars = map qualifiers d.stars.items;
  dimensions = map maybe d.dimensions.items;
  initial = initial d.initial;
}

abbrev pub declaration : Declaration → tree.Declaration
declaration d = record {
  number = d.number;
  site = site d.site;
  base = base d.base;
  qualifiers = qualifiers d.qualifiers;
  declarators = map declarator d.declarators.items;
}

abbrev pub first : First → tree.First
first firsts.Absent = tree.FirstAbsent
first (firsts.Declares d) = tree.FirstDeclares (declaration d)
first (firsts.Evaluates e) = tree.FirstEvaluates (expression e)

abbrev mutual
  pub statement : Stmt → tree.Statement
  statement (Declare d) = tree.Declare (declaration d)
  statement (Typedef d) = tree.Typedef (declaration d)
  statement (Evaluate n s e) = tree.Evaluate n (site s) (expression e)
  statement (If' n s test m taken k skipped) = tree.If n (site s) (expression test) (statement_row taken) (statement_row skipped)
  statement (While' n s test m body) = tree.While n (site s) (expression test) (statement_row body)
  statement (Do' n s m body test) = tree.Do n (site s) (statement_row body) (expression test)
  statement (For' n s begin test update m body) = tree.For n (site s) (first begin) (maybe test) (maybe update) (statement_row body)
  statement (Switch' n s test m body) = tree.Switch n (site s) (expression test) (statement_row body)
  statement (Case n s e) = tree.Case n (site s) (expression e)
  statement (Default n s) = tree.Default n (site s)
  statement (Break n s) = tree.Break n (site s)
  statement (Continue n s) = tree.Continue n (site s)
  statement (Return n s value) = tree.Return n (site s) (maybe value)
  statement (Block' n s m body) = tree.Block n (site s) (statement_row body)
  statement (Empty n s) = tree.Empty n (site s)

  pub statement_row : {m : _} → Row_of-Stmt m → tree.Statements
  statement_row end_of-Stmt = tree.none
  statement_row (more_of-Stmt s ss) = tree.one (statement s) (statement_row ss)

-- statements as the code has them in a `Vec`
abbrev pub statements : List Stmt → tree.Statements
statements [] = tree.none
statements (s ∷ ss) = tree.one (statement s) (statements ss)
