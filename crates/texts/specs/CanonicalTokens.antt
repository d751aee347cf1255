-- The tokens of a kernel's canonical text: those of a tree in front of those `after` it.
use Rattle.std.specs.Prelude.{◌≡◌, ◌≢◌, ℕ, pos, List, [], ◌∷◌, Bool, true, false, Option, Some, None, codes}
use Rattle.std.specs.List.{find}
use Rattle.std.specs.Str.{bytes_eq}
use Rattle.semantics.specs.Word.{Kind, Int, Uint, Size, Operator, Add, Subtract, Multiply, Divide, Remainder, BitAnd, BitOr, BitXor, Relation, Less, AtMost, More, AtLeast, Equal, Unequal, in_kind}
use Rattle.texts.specs.Signs as signs
use Rattle.texts.specs.Signs.{Sign, LeftParenthesis, RightParenthesis, LeftBrace, RightBrace, LeftBracket, RightBracket, Semicolon, Comma, Question, Colon}
use Rattle.texts.specs.Reserved as words
use Rattle.texts.specs.Reserved.{Reserved, reserved_words}
use Rattle.texts.specs.Tokens as token
use Rattle.texts.specs.Tokens.{TokenKind, Word, Mark}
use Rattle.texts.specs.Numbers.{is_literal}
use Rattle.texts.specs.Lexemes.{is_named}
use Rattle.lines.specs.Identifiers.{is_identifier}
use Rattle.texts.specs.Canonical.{is_compound}
use Rattle.texts.specs.Surface.{PrefixSign, Minus, LogicalNot, BitNot, InfixSign, Arithmetic, LeftShift, RightShift, Comparison, LogicalAnd, LogicalOr, AssignSign, Plain, With, WithLeftShift, WithRightShift, Expression, Number, Name, Element, Call, Prefix, Cast, Infix, Conditional, Expressions, nothing, also, Declaration, Assignment, First, FirstDeclares, FirstAssigns, JumpWord, Return, Break, Continue, Statement, Declare, DeclareArray, Assign, If, While, For, Barrier, Jump, Block, Statements, none, one, Parameter, Buffer, Value, Kernel}

abbrev pub kind_word : Kind → Reserved
kind_word Int = words.Int
kind_word Uint = words.Uint
kind_word Size = words.SizeT

abbrev pub jump_word : JumpWord → Reserved
jump_word Return = words.Return
jump_word Break = words.Break
jump_word Continue = words.Continue

abbrev pub operator_sign : Operator → Sign
operator_sign Add = signs.Plus
operator_sign Subtract = signs.Minus
operator_sign Multiply = signs.Star
operator_sign Divide = signs.Slash
operator_sign Remainder = signs.Percent
operator_sign BitAnd = signs.And
operator_sign BitOr = signs.Or
operator_sign BitXor = signs.Caret

abbrev pub relation_sign : Relation → Sign
relation_sign Less = signs.Less
relation_sign AtMost = signs.LessEqual
relation_sign More = signs.Greater
relation_sign AtLeast = signs.GreaterEqual
relation_sign Equal = signs.EqualEqual
relation_sign Unequal = signs.NotEqual

abbrev pub infix_sign : InfixSign → Sign
infix_sign (Arithmetic operator) = operator_sign operator
infix_sign LeftShift = signs.LeftShift
infix_sign RightShift = signs.RightShift
infix_sign (Comparison relation) = relation_sign relation
infix_sign LogicalAnd = signs.AndAnd
infix_sign LogicalOr = signs.OrOr

abbrev pub prefix_sign : PrefixSign → Sign
prefix_sign Minus = signs.Minus
prefix_sign LogicalNot = signs.Not
prefix_sign BitNot = signs.Tilde

abbrev pub with_sign : Operator → Sign
with_sign Add = signs.PlusEqual
with_sign Subtract = signs.MinusEqual
with_sign Multiply = signs.StarEqual
with_sign Divide = signs.SlashEqual
with_sign Remainder = signs.PercentEqual
with_sign BitAnd = signs.AndEqual
with_sign BitOr = signs.OrEqual
with_sign BitXor = signs.CaretEqual

abbrev pub assign_sign : AssignSign → Sign
assign_sign Plain = signs.Equal
assign_sign (With operator) = with_sign operator
assign_sign WithLeftShift = signs.LeftShiftEqual
assign_sign WithRightShift = signs.RightShiftEqual

abbrev pub number_token : Kind → ℕ → TokenKind
number_token kind n = token.Number (record { kind = kind; value = n })

abbrev pub parenthesised_tokens : Bool → (List TokenKind → List TokenKind) → (after : List TokenKind) → List TokenKind
parenthesised_tokens true go after = Mark LeftParenthesis ∷ go (Mark RightParenthesis ∷ after)
parenthesised_tokens false go after = go after

abbrev mutual
  pub expression_tokens : Expression → (after : List TokenKind) → List TokenKind
  expression_tokens (Number site kind n) after = number_token kind n ∷ after
  expression_tokens (Name site x) after = token.Name x ∷ after
  expression_tokens (Element site x index) after = token.Name x ∷ Mark LeftBracket ∷ expression_tokens index (Mark RightBracket ∷ after)
  expression_tokens (Call site x arguments) after = token.Name x ∷ Mark LeftParenthesis ∷ arguments_tokens arguments (Mark RightParenthesis ∷ after)
  expression_tokens (Prefix site sign e) after = Mark (prefix_sign sign) ∷ parenthesised_tokens (is_compound e) (λ ks. expression_tokens e ks) after
  expression_tokens (Cast site kind e) after =
      Mark LeftParenthesis ∷ Word (kind_word kind) ∷ Mark RightParenthesis ∷ parenthesised_tokens (is_compound e) (λ ks. expression_tokens e ks) after
  expression_tokens (Infix site sign l r) after =
      parenthesised_tokens (is_compound l) (λ ks. expression_tokens l ks) (Mark (infix_sign sign) ∷ parenthesised_tokens (is_compound r) (λ ks. expression_tokens r ks) after)
  expression_tokens (Conditional site test a b) after =
      parenthesised_tokens (is_compound test) (λ ks. expression_tokens test ks)
      (Mark Question ∷ parenthesised_tokens (is_compound a) (λ ks. expression_tokens a ks) (Mark Colon ∷ parenthesised_tokens (is_compound b) (λ ks. expression_tokens b ks) after))

  pub arguments_tokens : Expressions → (after : List TokenKind) → List TokenKind
  arguments_tokens nothing after = after
  arguments_tokens (also e es) after = expression_tokens e (more_tokens es after)

  pub more_tokens : Expressions → (after : List TokenKind) → List TokenKind
  more_tokens nothing after = after
  more_tokens (also e es) after = Mark Comma ∷ expression_tokens e (more_tokens es after)

-- an identifier that is no reserved word
abbrev pub IsName : List ℕ → Type 0
IsName x = (is_identifier x ≡ true) × (find (λ entry. bytes_eq entry.0 x) reserved_words ≡ None)

-- names are names, numbers are of their kinds, and kinds are those that a text names
abbrev mutual
  pub IsPrintable : Expression → Type 0
  IsPrintable (Number site kind n) = is_literal kind n ≡ true
  IsPrintable (Name site x) = IsName x
  IsPrintable (Element site x index) = IsName x × IsPrintable index
  IsPrintable (Call site x arguments) = IsName x × ArePrintable arguments
  IsPrintable (Prefix site sign e) = IsPrintable e
  IsPrintable (Cast site kind e) = IsPrintable e × (is_named kind ≡ true)
  IsPrintable (Infix site sign l r) = IsPrintable l × IsPrintable r
  IsPrintable (Conditional site test a b) = IsPrintable test × IsPrintable a × IsPrintable b

  pub ArePrintable : Expressions → Type 0
  ArePrintable nothing = Unit {0}
  ArePrintable (also e es) = IsPrintable e × ArePrintable es

-- the casts of an expression are to kinds that a text names
abbrev mutual
  pub HasNamedCasts : Expression → Type 0
  HasNamedCasts (Number site kind n) = Unit {0}
  HasNamedCasts (Name site x) = Unit {0}
  HasNamedCasts (Element site x index) = HasNamedCasts index
  HasNamedCasts (Call site x arguments) = HaveNamedCasts arguments
  HasNamedCasts (Prefix site sign e) = HasNamedCasts e
  HasNamedCasts (Cast site kind e) = HasNamedCasts e × (is_named kind ≡ true)
  HasNamedCasts (Infix site sign l r) = HasNamedCasts l × HasNamedCasts r
  HasNamedCasts (Conditional site test a b) = HasNamedCasts test × HasNamedCasts a × HasNamedCasts b

  pub HaveNamedCasts : Expressions → Type 0
  HaveNamedCasts nothing = Unit {0}
  HaveNamedCasts (also e es) = HasNamedCasts e × HaveNamedCasts es

abbrev pub declaration_tokens : Declaration → (after : List TokenKind) → List TokenKind
declaration_tokens d after = Word (kind_word d.kind) ∷ token.Name d.name ∷ Mark signs.Equal ∷ expression_tokens d.value after

abbrev pub index_tokens : Option Expression → (after : List TokenKind) → List TokenKind
index_tokens None after = after
index_tokens (Some e) after = Mark LeftBracket ∷ expression_tokens e (Mark RightBracket ∷ after)

abbrev pub assignment_tokens : Assignment → (after : List TokenKind) → List TokenKind
assignment_tokens a after = token.Name a.name ∷ index_tokens a.index (Mark (assign_sign a.sign) ∷ expression_tokens a.value after)

abbrev pub first_tokens : First → (after : List TokenKind) → List TokenKind
first_tokens (FirstDeclares d) after = declaration_tokens d after
first_tokens (FirstAssigns a) after = assignment_tokens a after

abbrev mutual
  pub statement_tokens : Statement → (after : List TokenKind) → List TokenKind
  statement_tokens (Declare d) after = declaration_tokens d (Mark Semicolon ∷ after)
  statement_tokens (DeclareArray n site kind name_site x length) after =
      Word words.Local ∷ Word (kind_word kind) ∷ token.Name x ∷ Mark LeftBracket ∷ number_token Int length ∷ Mark RightBracket ∷ Mark Semicolon ∷ after
  statement_tokens (Assign a) after = assignment_tokens a (Mark Semicolon ∷ after)
  statement_tokens (If n site test a b) after =
      Word words.If ∷ Mark LeftParenthesis ∷ expression_tokens test (Mark RightParenthesis ∷ Mark LeftBrace ∷ statements_tokens a (Mark RightBrace ∷ else_tokens b after))
  statement_tokens (While n site test body) after =
      Word words.While ∷ Mark LeftParenthesis ∷ expression_tokens test (Mark RightParenthesis ∷ Mark LeftBrace ∷ statements_tokens body (Mark RightBrace ∷ after))
  statement_tokens (For n site first test update body) after =
      Word words.For ∷ Mark LeftParenthesis ∷ first_tokens first (Mark Semicolon ∷ expression_tokens test (Mark Semicolon ∷ assignment_tokens update
      (Mark RightParenthesis ∷ Mark LeftBrace ∷ statements_tokens body (Mark RightBrace ∷ after))))
  statement_tokens (Barrier n site flags) after =
      token.Name (codes "barrier") ∷ Mark LeftParenthesis ∷ expression_tokens flags (Mark RightParenthesis ∷ Mark Semicolon ∷ after)
  statement_tokens (Jump n site jump) after = Word (jump_word jump) ∷ Mark Semicolon ∷ after
  statement_tokens (Block n site body) after = Mark LeftBrace ∷ statements_tokens body (Mark RightBrace ∷ after)

  pub statements_tokens : Statements → (after : List TokenKind) → List TokenKind
  statements_tokens none after = after
  statements_tokens (one s ss) after = statement_tokens s (statements_tokens ss after)

  pub else_tokens : Statements → (after : List TokenKind) → List TokenKind
  else_tokens none after = after
  else_tokens (one s ss) after = Word words.Else ∷ Mark LeftBrace ∷ statement_tokens s (statements_tokens ss (Mark RightBrace ∷ after))

abbrev pub const_tokens : (constant : Bool) → (after : List TokenKind) → List TokenKind
const_tokens true after = Word words.Const ∷ after
const_tokens false after = after

abbrev pub parameter_tokens : Parameter → (after : List TokenKind) → List TokenKind
parameter_tokens (Buffer constant kind site x) after = Word words.Global ∷ const_tokens constant (Word (kind_word kind) ∷ Mark signs.Star ∷ token.Name x ∷ after)
parameter_tokens (Value kind site x) after = Word (kind_word kind) ∷ token.Name x ∷ after

abbrev pub more_parameters : List Parameter → (after : List TokenKind) → List TokenKind
more_parameters [] after = after
more_parameters (p ∷ ps) after = Mark Comma ∷ parameter_tokens p (more_parameters ps after)

abbrev pub parameters_tokens : List Parameter → (after : List TokenKind) → List TokenKind
parameters_tokens [] after = after
parameters_tokens (p ∷ ps) after = parameter_tokens p (more_parameters ps after)

abbrev pub sizes_tokens : (x y z : ℕ) → (after : List TokenKind) → List TokenKind
sizes_tokens x y z after =
    Word words.Kernel ∷ Word words.Attribute ∷ Mark LeftParenthesis ∷ Mark LeftParenthesis ∷ token.Name (codes "reqd_work_group_size") ∷ Mark LeftParenthesis
    ∷ number_token Int x ∷ Mark Comma ∷ number_token Int y ∷ Mark Comma ∷ number_token Int z
    ∷ Mark RightParenthesis ∷ Mark RightParenthesis ∷ Mark RightParenthesis ∷ Word words.Void ∷ after

-- with the end of the text
abbrev pub kernel_tokens : Kernel → List TokenKind
kernel_tokens k =
    sizes_tokens k.sizes.x k.sizes.y k.sizes.z (token.Name k.name ∷ Mark LeftParenthesis
    ∷ parameters_tokens k.parameters (Mark RightParenthesis ∷ Mark LeftBrace ∷ statements_tokens k.body (Mark RightBrace ∷ token.End ∷ [])))

abbrev pub IsPrintableDeclaration : Declaration → Type 0
IsPrintableDeclaration d = IsName d.name × IsPrintable d.value × (is_named d.kind ≡ true)

abbrev pub IsPrintableIndex : Option Expression → Type 0
IsPrintableIndex None = Unit {0}
IsPrintableIndex (Some e) = IsPrintable e

abbrev pub IsPrintableAssignment : Assignment → Type 0
IsPrintableAssignment a = IsName a.name × IsPrintableIndex a.index × IsPrintable a.value

abbrev pub IsPrintableFirst : First → Type 0
IsPrintableFirst (FirstDeclares d) = IsPrintableDeclaration d
IsPrintableFirst (FirstAssigns a) = IsPrintableAssignment a

-- a size is an `int`
abbrev pub IsSize : ℕ → Type 0
IsSize n = in_kind Int (pos n) ≡ true

abbrev mutual
  pub IsPrintableStatement : Statement → Type 0
  IsPrintableStatement (Declare d) = IsPrintableDeclaration d
  IsPrintableStatement (DeclareArray n site kind name_site x length) = IsName x × IsSize length × (is_named kind ≡ true)
  IsPrintableStatement (Assign a) = IsPrintableAssignment a × (a.name ≢ codes "barrier")
  IsPrintableStatement (If n site test a b) = IsPrintable test × ArePrintableStatements a × ArePrintableStatements b
  IsPrintableStatement (While n site test body) = IsPrintable test × ArePrintableStatements body
  IsPrintableStatement (For n site first test update body) = IsPrintableFirst first × IsPrintable test × IsPrintableAssignment update × ArePrintableStatements body
  IsPrintableStatement (Barrier n site flags) = IsPrintable flags
  IsPrintableStatement (Jump n site jump) = Unit {0}
  IsPrintableStatement (Block n site body) = ArePrintableStatements body

  pub ArePrintableStatements : Statements → Type 0
  ArePrintableStatements none = Unit {0}
  ArePrintableStatements (one s ss) = IsPrintableStatement s × ArePrintableStatements ss

abbrev pub parameter_name : Parameter → List ℕ
parameter_name (Buffer constant kind site x) = x
parameter_name (Value kind site x) = x

abbrev pub parameter_kind : Parameter → Kind
parameter_kind (Buffer constant kind site x) = kind
parameter_kind (Value kind site x) = kind

abbrev pub ArePrintableParameters : List Parameter → Type 0
ArePrintableParameters [] = Unit {0}
ArePrintableParameters (p ∷ ps) = IsName (parameter_name p) × (is_named (parameter_kind p) ≡ true) × ArePrintableParameters ps

-- what a text can say: names are names, numbers are of their kinds, sizes are of `int`
pub record IsPrintableKernel (k : Kernel) : Type 0 where
  pub name : IsName k.name
  pub sizes : IsSize k.sizes.x × IsSize k.sizes.y × IsSize k.sizes.z
  pub parameters : ArePrintableParameters k.parameters
  pub body : ArePrintableStatements k.body
