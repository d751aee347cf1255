-- The canonical text of a kernel (ours): one spelling for each tree, positions aside. One statement a line, two blanks a level, numbers
-- decimal, and parentheses round each operand that is itself made of operands.
use Rattle.std.specs.Prelude.{ℕ, List, [], ◌∷◌, ◌++◌, Bool, true, false, Option, Some, None, codes}
use Rattle.std.specs.Fmt.{decimal}
use Rattle.semantics.specs.Word.{Kind, Int, Uint, Size, Operator, Add, Subtract, Multiply, Divide, Remainder, BitAnd, BitOr, BitXor, Relation, Less, AtMost, More, AtLeast, Equal, Unequal}
use Rattle.texts.specs.Surface.{PrefixSign, Minus, LogicalNot, BitNot, InfixSign, Arithmetic, LeftShift, RightShift, Comparison, LogicalAnd, LogicalOr, AssignSign, Plain, With, WithLeftShift, WithRightShift, Expression, Number, Name, Element, Call, Prefix, Cast, Infix, Conditional, Expressions, nothing, also, Declaration, Assignment, First, FirstDeclares, FirstAssigns, JumpWord, Return, Break, Continue, Statement, Declare, DeclareArray, Assign, If, While, For, Barrier, Jump, Block, Statements, none, one, Parameter, Buffer, Value, Kernel}

abbrev pub kind_text : Kind → List ℕ
kind_text Int = codes "int"
kind_text Uint = codes "uint"
kind_text Size = codes "size_t"

abbrev pub operator_text : Operator → List ℕ
operator_text Add = codes "+"
operator_text Subtract = codes "-"
operator_text Multiply = codes "*"
operator_text Divide = codes "/"
operator_text Remainder = codes "%"
operator_text BitAnd = codes "&"
operator_text BitOr = codes "|"
operator_text BitXor = codes "^"

abbrev pub relation_text : Relation → List ℕ
relation_text Less = codes "<"
relation_text AtMost = codes "<="
relation_text More = codes ">"
relation_text AtLeast = codes ">="
relation_text Equal = codes "=="
relation_text Unequal = codes "!="

abbrev pub infix_text : InfixSign → List ℕ
infix_text (Arithmetic operator) = operator_text operator
infix_text LeftShift = codes "<<"
infix_text RightShift = codes ">>"
infix_text (Comparison relation) = relation_text relation
infix_text LogicalAnd = codes "&&"
infix_text LogicalOr = codes "||"

abbrev pub prefix_text : PrefixSign → List ℕ
prefix_text Minus = codes "-"
prefix_text LogicalNot = codes "!"
prefix_text BitNot = codes "~"

abbrev pub assign_text : AssignSign → List ℕ
assign_text Plain = codes "="
assign_text (With operator) = operator_text operator ++ codes "="
assign_text WithLeftShift = codes "<<="
assign_text WithRightShift = codes ">>="

-- a number of `uint` has its suffix; no text has a number of `size_t`
abbrev pub number_text : Kind → ℕ → List ℕ
number_text Int n = decimal n
number_text Uint n = decimal n ++ codes "u"
number_text Size n = decimal n ++ codes "u"

-- made of operands, so in parentheses where it is an operand itself
abbrev pub is_compound : Expression → Bool
is_compound (Number site kind n) = false
is_compound (Name site x) = false
is_compound (Element site x index) = false
is_compound (Call site x arguments) = false
is_compound (Prefix site sign e) = true
is_compound (Cast site kind e) = true
is_compound (Infix site sign l r) = true
is_compound (Conditional site test a b) = true

abbrev pub parenthesised : Bool → List ℕ → List ℕ
parenthesised true text = codes "(" ++ (text ++ codes ")")
parenthesised false text = text

abbrev mutual
  pub expression_text : Expression → List ℕ
  expression_text (Number site kind n) = number_text kind n
  expression_text (Name site x) = x
  expression_text (Element site x index) = x ++ (codes "[" ++ (expression_text index ++ codes "]"))
  expression_text (Call site x arguments) = x ++ (codes "(" ++ (arguments_text [] arguments ++ codes ")"))
  expression_text (Prefix site sign e) = prefix_text sign ++ parenthesised (is_compound e) (expression_text e)
  expression_text (Cast site kind e) = codes "(" ++ (kind_text kind ++ (codes ")" ++ parenthesised (is_compound e) (expression_text e)))
  expression_text (Infix site sign l r) =
      parenthesised (is_compound l) (expression_text l) ++ (codes " " ++ (infix_text sign ++ (codes " " ++ parenthesised (is_compound r) (expression_text r))))
  expression_text (Conditional site test a b) =
      parenthesised (is_compound test) (expression_text test)
      ++ (32 ∷ 63 ∷ 32 ∷ [] ++ (parenthesised (is_compound a) (expression_text a) ++ (codes " : " ++ parenthesised (is_compound b) (expression_text b))))

  -- one after another, `before` the first of them
  pub arguments_text : (before : List ℕ) → Expressions → List ℕ
  arguments_text before nothing = []
  arguments_text before (also e es) = before ++ (expression_text e ++ arguments_text (codes ", ") es)

-- `int x = E`
abbrev pub declaration_text : Declaration → List ℕ
declaration_text d = kind_text d.kind ++ (codes " " ++ (d.name ++ (codes " = " ++ expression_text d.value)))

-- `[E]`
abbrev pub index_text : Option Expression → List ℕ
index_text None = []
index_text (Some e) = codes "[" ++ (expression_text e ++ codes "]")

-- `x[E] += E`
abbrev pub assignment_text : Assignment → List ℕ
assignment_text a = a.name ++ (index_text a.index ++ (codes " " ++ (assign_text a.sign ++ (codes " " ++ expression_text a.value))))

abbrev pub first_text : First → List ℕ
first_text (FirstDeclares d) = declaration_text d
first_text (FirstAssigns a) = assignment_text a

-- `__local int t[N]`
abbrev pub array_text : Kind → (name : List ℕ) → (length : ℕ) → List ℕ
array_text kind x length = codes "__local " ++ (kind_text kind ++ (codes " " ++ (x ++ (codes "[" ++ (decimal length ++ codes "]")))))

-- `for (I; E; U)`
abbrev pub for_text : First → Expression → Assignment → List ℕ
for_text first test update = codes "for (" ++ (first_text first ++ (codes "; " ++ (expression_text test ++ (codes "; " ++ (assignment_text update ++ codes ")")))))

abbrev pub jump_text : JumpWord → List ℕ
jump_text Return = codes "return"
jump_text Break = codes "break"
jump_text Continue = codes "continue"

-- a line that begins with the blanks of its level
abbrev pub line : (pad text : List ℕ) → List ℕ
line pad text = pad ++ (text ++ 10 ∷ [])

-- the blanks one level deeper
abbrev pub deeper : (pad : List ℕ) → List ℕ
deeper pad = pad ++ codes "  "

-- an `else` stands only where it has statements
abbrev mutual
  pub statement_text : (pad : List ℕ) → Statement → List ℕ
  statement_text pad (Declare d) = line pad (declaration_text d ++ codes ";")
  statement_text pad (DeclareArray n site kind name_site x length) = line pad (array_text kind x length ++ codes ";")
  statement_text pad (Assign a) = line pad (assignment_text a ++ codes ";")
  statement_text pad (If n site test a b) =
      line pad (codes "if (" ++ (expression_text test ++ codes ") {")) ++ (statements_text (deeper pad) a ++ (else_text pad b ++ line pad (codes "}")))
  statement_text pad (While n site test body) =
      line pad (codes "while (" ++ (expression_text test ++ codes ") {")) ++ (statements_text (deeper pad) body ++ line pad (codes "}"))
  statement_text pad (For n site first test update body) =
      line pad (for_text first test update ++ codes " {") ++ (statements_text (deeper pad) body ++ line pad (codes "}"))
  statement_text pad (Barrier n site flags) = line pad (codes "barrier(" ++ (expression_text flags ++ codes ");"))
  statement_text pad (Jump n site jump) = line pad (jump_text jump ++ codes ";")
  statement_text pad (Block n site body) = line pad (codes "{") ++ (statements_text (deeper pad) body ++ line pad (codes "}"))

  pub statements_text : (pad : List ℕ) → Statements → List ℕ
  statements_text pad none = []
  statements_text pad (one s ss) = statement_text pad s ++ statements_text pad ss

  pub else_text : (pad : List ℕ) → Statements → List ℕ
  else_text pad none = []
  else_text pad (one s ss) = line pad (codes "} else {") ++ (statement_text (deeper pad) s ++ statements_text (deeper pad) ss)

abbrev pub const_text : (constant : Bool) → List ℕ
const_text true = codes "const "
const_text false = []

abbrev pub parameter_text : Parameter → List ℕ
parameter_text (Buffer constant kind site x) = codes "__global " ++ (const_text constant ++ (kind_text kind ++ (codes " *" ++ x)))
parameter_text (Value kind site x) = kind_text kind ++ (codes " " ++ x)

abbrev pub parameters_text : (before : List ℕ) → List Parameter → List ℕ
parameters_text before [] = []
parameters_text before (p ∷ ps) = before ++ (parameter_text p ++ parameters_text (codes ", ") ps)

-- `__kernel __attribute__((reqd_work_group_size(X, Y, Z))) void`
unfoldable pub sizes_text : (x y z : ℕ) → List ℕ
sizes_text x y z =
    codes "__kernel __attribute__((reqd_work_group_size(" ++ (decimal x ++ (codes ", " ++ (decimal y ++ (codes ", " ++ (decimal z ++ codes "))) void ")))))

abbrev pub head_text : Kernel → List ℕ
head_text k = sizes_text k.sizes.x k.sizes.y k.sizes.z ++ (k.name ++ (codes "(" ++ (parameters_text [] k.parameters ++ codes ") {")))

abbrev pub canonical : Kernel → List ℕ
canonical k = line [] (head_text k) ++ (statements_text (codes "  ") k.body ++ line [] (codes "}"))
