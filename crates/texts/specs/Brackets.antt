-- How many brackets a canonical text opens one inside another.
use Rattle.std.specs.Prelude.{ℕ, zero, suc, Bool, true, false, Option, Some, None}
use Rattle.texts.specs.Canonical.{is_compound}
use Rattle.texts.specs.Surface.{Expression, Number, Name, Element, Call, Prefix, Cast, Infix, Conditional, Expressions, nothing, also, Assignment, First, FirstDeclares, FirstAssigns, Statement, Declare, DeclareArray, Assign, If, While, For, Barrier, Jump, Block, Statements, none, one}

-- one bracket more is opened, and what stands in it has the room that is left
abbrev pub InBrackets : (room : ℕ) → (ℕ → Type 0) → Type 0
InBrackets zero inside = ⊥
InBrackets (suc room) inside = inside room

abbrev pub AsOperand : Bool → (room : ℕ) → (ℕ → Type 0) → Type 0
AsOperand true room inside = InBrackets room inside
AsOperand false room inside = inside room

-- no more than `room`
abbrev mutual
  pub Opens : (room : ℕ) → Expression → Type 0
  Opens room (Number site kind n) = Unit {0}
  Opens room (Name site x) = Unit {0}
  Opens room (Element site x index) = InBrackets room (λ n. Opens n index)
  Opens room (Call site x arguments) = InBrackets room (λ n. AllOpen n arguments)
  Opens room (Prefix site sign e) = AsOperand (is_compound e) room (λ n. Opens n e)
  Opens room (Cast site kind e) = InBrackets room (λ n. Unit {0}) × AsOperand (is_compound e) room (λ n. Opens n e)
  Opens room (Infix site sign l r) = AsOperand (is_compound l) room (λ n. Opens n l) × AsOperand (is_compound r) room (λ n. Opens n r)
  Opens room (Conditional site test a b) =
      AsOperand (is_compound test) room (λ n. Opens n test) × AsOperand (is_compound a) room (λ n. Opens n a) × AsOperand (is_compound b) room (λ n. Opens n b)

  pub AllOpen : (room : ℕ) → Expressions → Type 0
  AllOpen room nothing = Unit {0}
  AllOpen room (also e es) = Opens room e × AllOpen room es

abbrev pub OpensIndex : (room : ℕ) → Option Expression → Type 0
OpensIndex room None = Unit {0}
OpensIndex room (Some e) = InBrackets room (λ n. Opens n e)

abbrev pub OpensAssignment : (room : ℕ) → Assignment → Type 0
OpensAssignment room a = OpensIndex room a.index × Opens room a.value

abbrev pub OpensFirst : (room : ℕ) → First → Type 0
OpensFirst room (FirstDeclares d) = Opens room d.value
OpensFirst room (FirstAssigns a) = OpensAssignment room a

-- a statement's braces are brackets too, and so are the parentheses of its head
abbrev mutual
  pub OpensStatement : (room : ℕ) → Statement → Type 0
  OpensStatement room (Declare d) = Opens room d.value
  OpensStatement room (DeclareArray n site kind name_site x length) = InBrackets room (λ m. Unit {0})
  OpensStatement room (Assign a) = OpensAssignment room a
  OpensStatement room (If n site test a b) = InBrackets room (λ m. Opens m test × AllOpenStatements m a × AllOpenStatements m b)
  OpensStatement room (While n site test body) = InBrackets room (λ m. Opens m test × AllOpenStatements m body)
  OpensStatement room (For n site first test update body) = InBrackets room (λ m. OpensFirst m first × Opens m test × OpensAssignment m update × AllOpenStatements m body)
  OpensStatement room (Barrier n site flags) = InBrackets room (λ m. Opens m flags)
  OpensStatement room (Jump n site jump) = Unit {0}
  OpensStatement room (Block n site body) = InBrackets room (λ m. AllOpenStatements m body)

  pub AllOpenStatements : (room : ℕ) → Statements → Type 0
  AllOpenStatements room none = Unit {0}
  AllOpenStatements room (one s ss) = OpensStatement room s × AllOpenStatements room ss
