-- The tree of a file of OpenCL C. A name, number, call, cast, vector, `sizeof` and statement has the site at which it begins, an operator
-- its own, an index that of its bracket, a member that of its dot, `?:` that of its `?`. Parentheses leave no node. Statements are
-- numbered from 1 in the order of the source, a `for` before its first part, its update and its body.
use Rattle.std.specs.Prelude.{ℕ, List, Option}
use Rattle.semantics.specs.Word.{Kind}
use Rattle.semantics.specs.Core.{Site}
use Rattle.texts.specs.Surface.{InfixSign, AssignSign}
use Rattle.opencl_tree.specs.Types.{Base, TypeName, Qualifiers}

-- - + ! ~ * & in front of an operand (C99 6.5.3)
pub data PrefixSign : Type 0 where
  Minus Plus LogicalNot BitNot Indirection AddressOf : PrefixSign

-- ++ and --
pub data StepSign : Type 0 where
  Increment Decrement : StepSign

-- where a step's sign stands: its value is that before the step, or behind it
pub data Side : Type 0 where
  Before Behind : Side

-- C99 6.5; a vector literal is that of OpenCL 1.2, 6.1.6
mutual
  pub data Expression : Type 0 where
    Integer : (site : Site) (kind : Kind) (value : ℕ) → Expression
    Real : (site : Site) (spelling : List ℕ) → Expression
    Name : (site : Site) (name : List ℕ) → Expression
    Call : (site : Site) (name : List ℕ) (arguments : Expressions) → Expression
    Index : (site : Site) (of index : Expression) → Expression
    Member : (site : Site) (of : Expression) (name : List ℕ) → Expression
    Prefix : (site : Site) (sign : PrefixSign) (of : Expression) → Expression
    Step : (site : Site) (side : Side) (sign : StepSign) (of : Expression) → Expression
    Cast : (site : Site) (to : TypeName) (of : Expression) → Expression
    Vector : (site : Site) (to : TypeName) (parts : Expressions) → Expression
    Infix : (site : Site) (sign : InfixSign) (left right : Expression) → Expression
    Conditional : (site : Site) (test taken skipped : Expression) → Expression
    Assign : (site : Site) (sign : AssignSign) (target value : Expression) → Expression
    Comma : (site : Site) (first second : Expression) → Expression
    SizeofType : (site : Site) (of : TypeName) → Expression
    SizeofOf : (site : Site) (of : Expression) → Expression

  pub data Expressions : Type 0 where
    nothing : Expressions
    also : (first : Expression) (others : Expressions) → Expressions

-- what a variable begins with: an expression, or a list in braces (C99 6.7.8)
mutual
  pub data Initial : Type 0 where
    Absent : Initial
    Given : (value : Expression) → Initial
    Listed : (site : Site) (values : Initials) → Initial

  pub data Initials : Type 0 where
    no_more : Initials
    and_then : (first : Initial) (others : Initials) → Initials

-- a name with its stars, its dimensions, the outermost first, of which one may be left open, and what it begins with
pub record Declarator : Type 0 where
  pub site : Site
  pub name : List ℕ
  pub stars : List Qualifiers
  pub dimensions : List (Option Expression)
  pub initial : Initial

-- variables whose types have one base, or the name of a type (`typedef`)
pub record Declaration : Type 0 where
  pub number : ℕ
  pub site : Site
  pub base : Base
  pub qualifiers : Qualifiers
  pub declarators : List Declarator

-- the first part of a `for`
pub data First : Type 0 where
  FirstAbsent : First
  FirstDeclares : (declaration : Declaration) → First
  FirstEvaluates : (value : Expression) → First

-- C99 6.8; a label of a `switch` is a statement of its own, in front of the one that it stands at
mutual
  pub data Statement : Type 0 where
    Declare : (declaration : Declaration) → Statement
    Typedef : (declaration : Declaration) → Statement
    Evaluate : (number : ℕ) (site : Site) (value : Expression) → Statement
    If : (number : ℕ) (site : Site) (test : Expression) (taken skipped : Statements) → Statement
    While : (number : ℕ) (site : Site) (test : Expression) (body : Statements) → Statement
    Do : (number : ℕ) (site : Site) (body : Statements) (test : Expression) → Statement
    For : (number : ℕ) (site : Site) (first : First) (test update : Option Expression) (body : Statements) → Statement
    Switch : (number : ℕ) (site : Site) (test : Expression) (body : Statements) → Statement
    Case : (number : ℕ) (site : Site) (value : Expression) → Statement
    Default : (number : ℕ) (site : Site) → Statement
    Break : (number : ℕ) (site : Site) → Statement
    Continue : (number : ℕ) (site : Site) → Statement
    Return : (number : ℕ) (site : Site) (value : Option Expression) → Statement
    Block : (number : ℕ) (site : Site) (body : Statements) → Statement
    Empty : (number : ℕ) (site : Site) → Statement

  pub data Statements : Type 0 where
    none : Statements
    one : (first : Statement) (others : Statements) → Statements
