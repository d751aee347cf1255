-- What the tree of a text keeps: its names are identifiers, its numbers are of their kinds, and its statements are numbered in the order of
-- the source.
use Rattle.std.specs.Prelude.{◌≡◌, ℕ, ◌+◌, List, [], ◌∷◌, Option, Some, None, true}
use Rattle.texts.specs.Tokens as token
use Rattle.texts.specs.Tokens.{TokenKind}
use Rattle.texts.specs.Lexemes.{Lexeme}
use Rattle.texts.specs.Numbers.{is_literal}
use Rattle.lines.specs.Identifiers.{is_identifier}
use Rattle.texts.specs.Surface.{Expression, Number, Name, Element, Call, Prefix, Cast, Infix, Conditional, Expressions, nothing, also, Declaration, Assignment, First, FirstDeclares, FirstAssigns, Statement, Declare, DeclareArray, Assign, If, While, For, Barrier, Jump, Block, Statements, none, one, Parameter, Buffer, Value, Kernel}
use Rattle.texts.specs.KernelLimits.{statements_in, statements_of}

abbrev pub IsIdentifier : List ℕ → Type 0
IsIdentifier x = is_identifier x ≡ true

abbrev pub IsSpelt : TokenKind → Type 0
IsSpelt (token.Name x) = IsIdentifier x
IsSpelt (token.Number l) = is_literal l.kind l.value ≡ true
IsSpelt token.End = Unit {0}
IsSpelt (token.Word w) = Unit {0}
IsSpelt (token.Mark s) = Unit {0}

abbrev pub AreSpelt : List Lexeme → Type 0
AreSpelt [] = Unit {0}
AreSpelt (t ∷ ts) = IsSpelt t.kind × AreSpelt ts

abbrev mutual
  pub SpellsExpression : Expression → Type 0
  SpellsExpression (Number site kind n) = is_literal kind n ≡ true
  SpellsExpression (Name site x) = IsIdentifier x
  SpellsExpression (Element site x index) = IsIdentifier x × SpellsExpression index
  SpellsExpression (Call site x arguments) = IsIdentifier x × SpellsExpressions arguments
  SpellsExpression (Prefix site sign e) = SpellsExpression e
  SpellsExpression (Cast site kind e) = SpellsExpression e
  SpellsExpression (Infix site sign l r) = SpellsExpression l × SpellsExpression r
  SpellsExpression (Conditional site test a b) = SpellsExpression test × SpellsExpression a × SpellsExpression b

  pub SpellsExpressions : Expressions → Type 0
  SpellsExpressions nothing = Unit {0}
  SpellsExpressions (also e es) = SpellsExpression e × SpellsExpressions es

abbrev pub SpellsDeclaration : Declaration → Type 0
SpellsDeclaration d = IsIdentifier d.name × SpellsExpression d.value

abbrev pub SpellsIndex : Option Expression → Type 0
SpellsIndex None = Unit {0}
SpellsIndex (Some e) = SpellsExpression e

abbrev pub SpellsAssignment : Assignment → Type 0
SpellsAssignment a = IsIdentifier a.name × SpellsIndex a.index × SpellsExpression a.value

abbrev pub SpellsFirst : First → Type 0
SpellsFirst (FirstDeclares d) = SpellsDeclaration d
SpellsFirst (FirstAssigns a) = SpellsAssignment a

abbrev mutual
  pub SpellsStatement : Statement → Type 0
  SpellsStatement (Declare d) = SpellsDeclaration d
  SpellsStatement (DeclareArray n site kind name_site x length) = IsIdentifier x
  SpellsStatement (Assign a) = SpellsAssignment a
  SpellsStatement (If n site test a b) = SpellsExpression test × SpellsStatements a × SpellsStatements b
  SpellsStatement (While n site test body) = SpellsExpression test × SpellsStatements body
  SpellsStatement (For n site first test update body) = SpellsFirst first × SpellsExpression test × SpellsAssignment update × SpellsStatements body
  SpellsStatement (Barrier n site flags) = SpellsExpression flags
  SpellsStatement (Jump n site jump) = Unit {0}
  SpellsStatement (Block n site body) = SpellsStatements body

  pub SpellsStatements : Statements → Type 0
  SpellsStatements none = Unit {0}
  SpellsStatements (one s ss) = SpellsStatement s × SpellsStatements ss

abbrev pub SpellsParameter : Parameter → Type 0
SpellsParameter (Buffer constant kind site x) = IsIdentifier x
SpellsParameter (Value kind site x) = IsIdentifier x

abbrev pub SpellsParameters : List Parameter → Type 0
SpellsParameters [] = Unit {0}
SpellsParameters (p ∷ ps) = SpellsParameter p × SpellsParameters ps

abbrev pub first_number : First → ℕ
first_number (FirstDeclares d) = d.number
first_number (FirstAssigns a) = a.number

-- a `for` comes before its first part, its update and its body
abbrev mutual
  pub IsNumbered : (n : ℕ) → Statement → Type 0
  IsNumbered n (Declare d) = d.number ≡ n
  IsNumbered n (DeclareArray m site kind name_site x length) = m ≡ n
  IsNumbered n (Assign a) = a.number ≡ n
  IsNumbered n (If m site test a b) = (m ≡ n) × AreNumbered (n + 1) a × AreNumbered (n + 1 + statements_of a) b
  IsNumbered n (While m site test body) = (m ≡ n) × AreNumbered (n + 1) body
  IsNumbered n (For m site first test update body) = (m ≡ n) × (first_number first ≡ n + 1) × (update.number ≡ n + 2) × AreNumbered (n + 3) body
  IsNumbered n (Barrier m site flags) = m ≡ n
  IsNumbered n (Jump m site jump) = m ≡ n
  IsNumbered n (Block m site body) = (m ≡ n) × AreNumbered (n + 1) body

  pub AreNumbered : (n : ℕ) → Statements → Type 0
  AreNumbered n none = Unit {0}
  AreNumbered n (one s ss) = IsNumbered n s × AreNumbered (n + statements_in s) ss

pub record IsTextTree (k : Kernel) : Type 0 where
  pub name : IsIdentifier k.name
  pub parameters : SpellsParameters k.parameters
  pub body : SpellsStatements k.body
  pub numbers : AreNumbered 1 k.body
