-- Trees, positions aside.
use Rattle.std.specs.Prelude.{map, Option, Some, None}
use Rattle.semantics.specs.Core.{Site}
use Rattle.texts.specs.Surface.{Expression, Number, Name, Element, Call, Prefix, Cast, Infix, Conditional, Expressions, nothing, also, Declaration, Assignment, First, FirstDeclares, FirstAssigns, Statement, Declare, DeclareArray, Assign, If, While, For, Barrier, Jump, Block, Statements, none, one, Parameter, Buffer, Value, Kernel}

abbrev pub nowhere : Site
nowhere = record { line = 0; column = 0 }

abbrev mutual
  pub bare_expression : Expression → Expression
  bare_expression (Number site kind n) = Number nowhere kind n
  bare_expression (Name site x) = Name nowhere x
  bare_expression (Element site x index) = Element nowhere x (bare_expression index)
  bare_expression (Call site x arguments) = Call nowhere x (bare_expressions arguments)
  bare_expression (Prefix site sign e) = Prefix nowhere sign (bare_expression e)
  bare_expression (Cast site kind e) = Cast nowhere kind (bare_expression e)
  bare_expression (Infix site sign l r) = Infix nowhere sign (bare_expression l) (bare_expression r)
  bare_expression (Conditional site test a b) = Conditional nowhere (bare_expression test) (bare_expression a) (bare_expression b)

  pub bare_expressions : Expressions → Expressions
  bare_expressions nothing = nothing
  bare_expressions (also e es) = also (bare_expression e) (bare_expressions es)

abbrev pub bare_declaration : Declaration → Declaration
bare_declaration d = record { number = d.number; site = nowhere; kind = d.kind; name_site = nowhere; name = d.name; value = bare_expression d.value }

abbrev pub bare_index : Option Expression → Option Expression
bare_index None = None
bare_index (Some e) = Some (bare_expression e)

abbrev pub bare_assignment : Assignment → Assignment
bare_assignment a = record { number = a.number; site = nowhere; name = a.name; index = bare_index a.index; sign = a.sign; sign_site = nowhere; value = bare_expression a.value }

abbrev pub bare_first : First → First
bare_first (FirstDeclares d) = FirstDeclares (bare_declaration d)
bare_first (FirstAssigns a) = FirstAssigns (bare_assignment a)

abbrev mutual
  pub bare_statement : Statement → Statement
  bare_statement (Declare d) = Declare (bare_declaration d)
  bare_statement (DeclareArray n site kind name_site x length) = DeclareArray n nowhere kind nowhere x length
  bare_statement (Assign a) = Assign (bare_assignment a)
  bare_statement (If n site test a b) = If n nowhere (bare_expression test) (bare_statements a) (bare_statements b)
  bare_statement (While n site test body) = While n nowhere (bare_expression test) (bare_statements body)
  bare_statement (For n site first test update body) = For n nowhere (bare_first first) (bare_expression test) (bare_assignment update) (bare_statements body)
  bare_statement (Barrier n site flags) = Barrier n nowhere (bare_expression flags)
  bare_statement (Jump n site jump) = Jump n nowhere jump
  bare_statement (Block n site body) = Block n nowhere (bare_statements body)

  pub bare_statements : Statements → Statements
  bare_statements none = none
  bare_statements (one s ss) = one (bare_statement s) (bare_statements ss)

abbrev pub bare_parameter : Parameter → Parameter
bare_parameter (Buffer constant kind site x) = Buffer constant kind nowhere x
bare_parameter (Value kind site x) = Value kind nowhere x

abbrev pub bare_kernel : Kernel → Kernel
bare_kernel k = record { name = k.name; name_site = nowhere; sizes = k.sizes; parameters = map bare_parameter k.parameters; body = bare_statements k.body }
