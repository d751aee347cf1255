-- What the code's trees stand for: the same trees, without where they lie in memory.
use Rattle.std.specs.Prelude.{List, [], ◌∷◌, Option, Some, None, map, slice_index, string_bytes}
use Rattle.texts.specs.Surface as surface
use Rattle.words.specs.View.{kind}
use Rattle.core_code.specs.View.{site, operator, relation}
use Rattle.syntax.specs.declared.tree.InfixSign.{InfixSign}
use Rattle.syntax.specs.declared.tree.InfixSign.TheVariants as infixes
use Rattle.syntax.specs.declared.tree.PrefixSign.{PrefixSign}
use Rattle.syntax.specs.declared.tree.PrefixSign.TheVariants as prefixes
use Rattle.syntax.specs.declared.tree.AssignSign.{AssignSign}
use Rattle.syntax.specs.declared.tree.AssignSign.TheVariants as assigns
use Rattle.syntax.specs.declared.tree.Expr.{Expr, Number, Name, Element', Call', Prefix', Cast', Infix', Conditional', Row_of-Expr, end_of-Expr, more_of-Expr}
use Rattle.syntax.specs.declared.tree.Declaration.{Declaration}
use Rattle.syntax.specs.declared.tree.Assignment.{Assignment}
use Rattle.syntax.specs.declared.tree.First.{First}
use Rattle.syntax.specs.declared.tree.First.TheVariants as firsts
use Rattle.syntax.specs.declared.tree.JumpWord.{JumpWord}
use Rattle.syntax.specs.declared.tree.JumpWord.TheVariants as jumps
use Rattle.syntax.specs.declared.tree.Stmt.{Stmt, Declare, DeclareArray, Assign, If', While', For', Barrier, Jump, Block', Row_of-Stmt, end_of-Stmt, more_of-Stmt}
use Rattle.syntax.specs.declared.tree.Parameter.{Parameter}
use Rattle.syntax.specs.declared.tree.Parameter.TheVariants as parameters
use Rattle.syntax.specs.declared.tree.Kernel.{Kernel}

abbrev pub infix_sign : InfixSign → surface.InfixSign
infix_sign (infixes.Arithmetic op) = surface.Arithmetic (operator op)
infix_sign infixes.LeftShift = surface.LeftShift
infix_sign infixes.RightShift = surface.RightShift
infix_sign (infixes.Comparison r) = surface.Comparison (relation r)
infix_sign infixes.LogicalAnd = surface.LogicalAnd
infix_sign infixes.LogicalOr = surface.LogicalOr

abbrev pub prefix_sign : PrefixSign → surface.PrefixSign
prefix_sign prefixes.Minus = surface.Minus
prefix_sign prefixes.LogicalNot = surface.LogicalNot
prefix_sign prefixes.BitNot = surface.BitNot

abbrev pub assign_sign : AssignSign → surface.AssignSign
assign_sign assigns.Plain = surface.Plain
assign_sign (assigns.With op) = surface.With (operator op)
assign_sign assigns.WithLeftShift = surface.WithLeftShift
assign_sign assigns.WithRightShift = surface.WithRightShift

abbrev mutual
  pub expression : Expr → surface.Expression
  expression (Number s k n) = surface.Number (site s) (kind k) n
  expression (Name s name) = surface.Name (site s) (string_bytes name)
  expression (Element' s name p index) = surface.Element (site s) (string_bytes name) (expression index)
  expression (Call' s name m arguments) = surface.Call (site s) (string_bytes name) (argument_row arguments)
  expression (Prefix' s sign p e) = surface.Prefix (site s) (prefix_sign sign) (expression e)
  expression (Cast' s k p e) = surface.Cast (site s) (kind k) (expression e)
  expression (Infix' s sign p left q right) = surface.Infix (site s) (infix_sign sign) (expression left) (expression right)
  expression (Conditional' s p test q taken r skipped) = surface.Conditional (site s) (expression test) (expression taken) (expression skipped)

  pub argument_row : {m : _} → Row_of-Expr m → surface.Expressions
  argument_row end_of-Expr = surface.nothing
  argument_row (more_of-Expr e es) = surface.also (expression e) (argument_row es)

-- expressions as the code has them in a `Vec`
abbrev pub expressions : List Expr → surface.Expressions
expressions [] = surface.nothing
expressions (e ∷ es) = surface.also (expression e) (expressions es)

abbrev pub declaration : Declaration → surface.Declaration
declaration d = record { number = d.number; site = site d.site; kind = kind d.kind; name_site = site d.name_site; name = string_bytes d.name; value = expression d.value }

abbrev pub index_of : Option Expr → Option surface.Expression
index_of None = None
index_of (Some e) = Some (expression e)

abbrev pub assignment : Assignment → surface.Assignment
assignment a = record { number = a.number; site = site a.site; name = string_bytes a.name; index = index_of a.index; sign = assign_sign a.sign; sign_site = site a.sign_site; value = expression a.value }

abbrev pub first : First → surface.First
first (firsts.Declares d) = surface.FirstDeclares (declaration d)
first (firsts.Assigns a) = surface.FirstAssigns (assignment a)

abbrev pub jump_word : JumpWord → surface.JumpWord
jump_word jumps.Return = surface.Return
jump_word jumps.Break = surface.Break
jump_word jumps.Continue = surface.Continue

abbrev mutual
  pub statement : Stmt → surface.Statement
  statement (Declare d) = surface.Declare (declaration d)
  statement (DeclareArray n s k t name size) = surface.DeclareArray n (site s) (kind k) (site t) (string_bytes name) size
  statement (Assign a) = surface.Assign (assignment a)
  statement (If' n s test m taken k skipped) = surface.If n (site s) (expression test) (body_row taken) (body_row skipped)
  statement (While' n s test m body) = surface.While n (site s) (expression test) (body_row body)
  statement (For' n s begin test update m body) = surface.For n (site s) (first begin) (expression test) (assignment update) (body_row body)
  statement (Barrier n s flags) = surface.Barrier n (site s) (expression flags)
  statement (Jump n s jump) = surface.Jump n (site s) (jump_word jump)
  statement (Block' n s m body) = surface.Block n (site s) (body_row body)

  pub body_row : {m : _} → Row_of-Stmt m → surface.Statements
  body_row end_of-Stmt = surface.none
  body_row (more_of-Stmt s ss) = surface.one (statement s) (body_row ss)

-- statements as the code has them in a `Vec`
abbrev pub statements : List Stmt → surface.Statements
statements [] = surface.none
statements (s ∷ ss) = surface.one (statement s) (statements ss)

abbrev pub parameter : Parameter → surface.Parameter
parameter (parameters.Buffer constant k s name) = surface.Buffer constant (kind k) (site s) (string_bytes name)
parameter (parameters.Value k s name) = surface.Value (kind k) (site s) (string_bytes name)

abbrev pub kernel : Kernel → surface.Kernel
kernel k = record {
  name = string_bytes k.name;
  name_site = site k.name_site;
  sizes = record { x = slice_index k.sizes 0; y = slice_index k.sizes 1; z = slice_index k.sizes 2 };
  parameters = map parameter k.parameters.items;
  body = statements k.body.items;
}
