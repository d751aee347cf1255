-- What the code's core stands for: the definitions' core.
use Rattle.std.specs.Prelude.{List, [], ◌∷◌, map, pos, slice_index}
use Rattle.semantics.specs.Core as core
use Rattle.semantics.specs.Word as word
use Rattle.semantics.specs.Launch as launch
use Rattle.words.specs.View.{kind}
use Rattle.core_code.specs.declared.tree.Site.{Site}
use Rattle.core_code.specs.declared.tree.Operator.{Operator}
use Rattle.core_code.specs.declared.tree.Operator.TheVariants as operators
use Rattle.core_code.specs.declared.tree.Relation.{Relation}
use Rattle.core_code.specs.declared.tree.Relation.TheVariants as relations
use Rattle.core_code.specs.declared.tree.Space.{Space}
use Rattle.core_code.specs.declared.tree.Space.TheVariants as spaces
use Rattle.core_code.specs.declared.tree.Array.{Array}
use Rattle.core_code.specs.declared.tree.Function.{Function}
use Rattle.core_code.specs.declared.tree.Function.TheVariants as functions
use Rattle.core_code.specs.declared.tree.UnaryOperator.{UnaryOperator}
use Rattle.core_code.specs.declared.tree.UnaryOperator.TheVariants as unary
use Rattle.core_code.specs.declared.tree.Direction.{Direction}
use Rattle.core_code.specs.declared.tree.Direction.TheVariants as directions
use Rattle.core_code.specs.declared.tree.Term.{Term, Literal, Variable, Id, Load', Unary', Binary', Convert', Compare', Not', And', Or', Select', Minimum', Maximum', Shift', Within', Opaque'}
use Rattle.core_code.specs.declared.tree.Statement.{Statement, Set, Store, If', Loop', Barrier, Return, Break, Continue, Row_of-Statement, end_of-Statement, more_of-Statement}
use Rattle.core_code.specs.declared.tree.LocalArray.{LocalArray}
use Rattle.core_code.specs.declared.tree.Core.{Core}

abbrev pub site : Site → core.Site
site s = record { line = s.line; column = s.column }

abbrev pub operator : Operator → word.Operator
operator operators.Add = word.Add
operator operators.Subtract = word.Subtract
operator operators.Multiply = word.Multiply
operator operators.Divide = word.Divide
operator operators.Remainder = word.Remainder
operator operators.BitAnd = word.BitAnd
operator operators.BitOr = word.BitOr
operator operators.BitXor = word.BitXor

abbrev pub relation : Relation → word.Relation
relation relations.Less = word.Less
relation relations.AtMost = word.AtMost
relation relations.More = word.More
relation relations.AtLeast = word.AtLeast
relation relations.Equal = word.Equal
relation relations.Unequal = word.Unequal

abbrev pub space : Space → core.Space
space spaces.Global = core.Global
space spaces.Local = core.Local

abbrev pub array : Array → core.Array
array a = record { space = space a.space; number = a.number }

abbrev pub function : Function → core.Function
function functions.GlobalId = core.GlobalId
function functions.LocalId = core.LocalId
function functions.GroupId = core.GroupId
function functions.GlobalSize = core.GlobalSize
function functions.LocalSize = core.LocalSize
function functions.NumGroups = core.NumGroups

abbrev pub unary_operator : UnaryOperator → word.UnaryOperator
unary_operator unary.Negate = word.Negate
unary_operator unary.Complement = word.Complement
unary_operator (unary.ShiftLeft by) = word.ShiftLeft by
unary_operator (unary.ShiftRight by) = word.ShiftRight by

abbrev pub direction : Direction → word.Direction
direction directions.Leftward = word.Leftward
direction directions.Rightward = word.Rightward

abbrev pub term : Term → core.Term
term (Literal k n) = core.Literal (kind k) (pos n)
term (Variable slot) = core.Variable slot
term (Id k f d) = core.Id (kind k) (function f) d
term (Load' a s p index) = core.Load (array a) (site s) (term index)
term (Unary' op k s p t) = core.Unary (unary_operator op) (kind k) (site s) (term t)
term (Binary' op k s p left q right) = core.Binary (operator op) (kind k) (site s) (term left) (term right)
term (Convert' k s p t) = core.Convert (kind k) (site s) (term t)
term (Compare' r k p left q right) = core.Compare (relation r) (kind k) (term left) (term right)
term (Not' p t) = core.Not (term t)
term (And' p left q right) = core.And (term left) (term right)
term (Or' p left q right) = core.Or (term left) (term right)
term (Select' p test q taken r skipped) = core.Select (term test) (term taken) (term skipped)
term (Minimum' p left q right) = core.Minimum (term left) (term right)
term (Maximum' p left q right) = core.Maximum (term left) (term right)
term (Shift' d k p value q count) = core.Shift (direction d) (kind k) (term value) (term count)
term (Within' s n p index) = core.Within (site s) n (term index)
term (Opaque' n at k p first q second r third) = core.Opaque n at (kind k) (term first) (term second) (term third)

abbrev mutual
  pub statement : Statement → core.Statement
  statement (Set n slot value) = core.Set n slot (term value)
  statement (Store n a s index value) = core.Store n (array a) (site s) (term index) (term value)
  statement (If' n test m taken k skipped) = core.If n (term test) (statement_row taken) (statement_row skipped)
  statement (Loop' n test m body k update) = core.Loop n (term test) (statement_row body) (statement_row update)
  statement (Barrier n local global) = core.Barrier n local global
  statement (Return n) = core.Return n
  statement (Break n loop) = core.Break n loop
  statement (Continue n loop) = core.Continue n loop

  pub statement_row : {m : _} → Row_of-Statement m → core.Statements
  statement_row end_of-Statement = core.none
  statement_row (more_of-Statement s ss) = core.one (statement s) (statement_row ss)

-- statements as the code has them in a `Vec`
abbrev pub statements : List Statement → core.Statements
statements [] = core.none
statements (s ∷ ss) = core.one (statement s) (statements ss)

abbrev pub local_array : LocalArray → launch.LocalArray
local_array a = record { kind = kind a.kind; length = a.length }

abbrev pub kernel : Core → launch.Kernel
kernel c = record {
  sizes = record { x = slice_index c.sizes 0; y = slice_index c.sizes 1; z = slice_index c.sizes 2 };
  buffers = map kind c.buffers.items;
  arguments = map kind c.arguments.items;
  arrays = map local_array c.arrays.items;
  variables = map kind c.variables.items;
  body = statements c.body.items;
}
