-- The tree of a kernel text. A name, number, call, prefix sign, cast and statement has the site at which it begins, an operator
-- between operands its own, `?:` that of its `?`. Statements are numbered from 1 in the order of the source, a `for` before its
-- first part, its update and its body.
use Rattle.std.specs.Prelude.{ℕ, Bool, List, Option}
use Rattle.semantics.specs.Word.{Kind, Operator, Relation}
use Rattle.semantics.specs.Core.{Site}
use Rattle.semantics.specs.Launch.{Three}

-- - ! ~ in front of an operand
pub data PrefixSign : Type 0 where
  Minus : PrefixSign
  LogicalNot : PrefixSign
  BitNot : PrefixSign

-- a sign between two operands
pub data InfixSign : Type 0 where
  Arithmetic : (operator : Operator) → InfixSign
  LeftShift : InfixSign
  RightShift : InfixSign
  Comparison : (relation : Relation) → InfixSign
  LogicalAnd : InfixSign
  LogicalOr : InfixSign

-- = or an `op=`
pub data AssignSign : Type 0 where
  Plain : AssignSign
  With : (operator : Operator) → AssignSign
  WithLeftShift : AssignSign
  WithRightShift : AssignSign

mutual
  pub data Expression : Type 0 where
    Number : (site : Site) (kind : Kind) (value : ℕ) → Expression
    Name : (site : Site) (name : List ℕ) → Expression
    Element : (site : Site) (name : List ℕ) (index : Expression) → Expression
    Call : (site : Site) (name : List ℕ) (arguments : Expressions) → Expression
    Prefix : (site : Site) (sign : PrefixSign) (of : Expression) → Expression
    Cast : (site : Site) (kind : Kind) (of : Expression) → Expression
    Infix : (site : Site) (sign : InfixSign) (left right : Expression) → Expression
    Conditional : (site : Site) (test taken skipped : Expression) → Expression

  pub data Expressions : Type 0 where
    nothing : Expressions
    also : (first : Expression) (others : Expressions) → Expressions

-- a private variable with its initialiser
pub record Declaration : Type 0 where
  pub number : ℕ
  pub site : Site
  pub kind : Kind
  pub name_site : Site
  pub name : List ℕ
  pub value : Expression

-- to a variable, or with an index to an element; the site is that of the name
pub record Assignment : Type 0 where
  pub number : ℕ
  pub site : Site
  pub name : List ℕ
  pub index : Option Expression
  pub sign : AssignSign
  pub sign_site : Site
  pub value : Expression

-- which jump statement it is (C99 6.8.6)
pub data JumpWord : Type 0 where
  Return : JumpWord
  Break : JumpWord
  Continue : JumpWord

-- the first part of a `for`
pub data First : Type 0 where
  FirstDeclares : (declaration : Declaration) → First
  FirstAssigns : (assignment : Assignment) → First

mutual
  pub data Statement : Type 0 where
    Declare : (declaration : Declaration) → Statement
    DeclareArray : (number : ℕ) (site : Site) (kind : Kind) (name_site : Site) (name : List ℕ) (length : ℕ) → Statement
    Assign : (assignment : Assignment) → Statement
    If : (number : ℕ) (site : Site) (test : Expression) (taken skipped : Statements) → Statement
    While : (number : ℕ) (site : Site) (test : Expression) (body : Statements) → Statement
    For : (number : ℕ) (site : Site) (first : First) (test : Expression) (update : Assignment) (body : Statements) → Statement
    Barrier : (number : ℕ) (site : Site) (flags : Expression) → Statement
    Jump : (number : ℕ) (site : Site) (jump : JumpWord) → Statement
    Block : (number : ℕ) (site : Site) (body : Statements) → Statement

  pub data Statements : Type 0 where
    none : Statements
    one : (first : Statement) (others : Statements) → Statements

pub data Parameter : Type 0 where
  Buffer : (constant : Bool) (kind : Kind) (name_site : Site) (name : List ℕ) → Parameter
  Value : (kind : Kind) (name_site : Site) (name : List ℕ) → Parameter

pub record Kernel : Type 0 where
  pub name : List ℕ
  pub name_site : Site
  pub sizes : Three ℕ
  pub parameters : List Parameter
  pub body : Statements

-- the site that an expression keeps
abbrev pub site_of : Expression → Site
site_of (Number site kind n) = site
site_of (Name site name) = site
site_of (Element site name index) = site
site_of (Call site name arguments) = site
site_of (Prefix site sign e) = site
site_of (Cast site kind e) = site
site_of (Infix site sign l r) = site
site_of (Conditional site test a b) = site

-- where a statement begins, and its number
abbrev pub begins_at : Statement → Site
begins_at (Declare d) = d.site
begins_at (DeclareArray n site kind name_site name size) = site
begins_at (Assign a) = a.site
begins_at (If n site test a b) = site
begins_at (While n site test body) = site
begins_at (For n site first test update body) = site
begins_at (Barrier n site flags) = site
begins_at (Jump n site jump) = site
begins_at (Block n site body) = site

abbrev pub number_of : Statement → ℕ
number_of (Declare d) = d.number
number_of (DeclareArray n site kind name_site name size) = n
number_of (Assign a) = a.number
number_of (If n site test a b) = n
number_of (While n site test body) = n
number_of (For n site first test update body) = n
number_of (Barrier n site flags) = n
number_of (Jump n site jump) = n
number_of (Block n site body) = n
