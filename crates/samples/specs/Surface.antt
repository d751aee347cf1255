-- Surface trees whose typing is computed.
use Rattle.std.specs.Prelude.{ℕ, List, [], ◌∷◌, true, false, Option, Some, Ok, Err, codes}
use Rattle.semantics.specs.Word.{Kind, Int, Uint, Add, Multiply}
use Rattle.semantics.specs.Core as core
use Rattle.semantics.specs.Launch as launch
use Rattle.texts.specs.Surface.{InfixSign, Arithmetic, AssignSign, Plain, With, Expression, Number, Name, Element, Call, Infix, Expressions, nothing, also, Statement, Declare, DeclareArray, Assign, Block, Statements, none, one, Parameter, Buffer, Value, Kernel}
use Rattle.types.specs.TypeFaults.{Checked}
use Rattle.types.specs.Scope.{Binding, VariableAt}
use Rattle.samples.specs.Terms.{at}

abbrev pub name : List ℕ → Expression
name n = Name (at 0) n

abbrev pub number : ℕ → Expression
number n = Number (at 0) Uint n

abbrev pub statements : List Statement → Statements
statements [] = none
statements (s ∷ ss) = one s (statements ss)

abbrev pub kernel : List Parameter → List Statement → Kernel
kernel parameters body = record { name = codes "k"; name_site = at 1; sizes = record { x = 2; y = 1; z = 1 }; parameters = parameters; body = statements body }

abbrev pub declare : ℕ → Kind → List ℕ → Expression → Statement
declare n kind x e = Declare (record { number = n; site = at 1; kind = kind; name_site = at 2; name = x; value = e })

abbrev pub assign : ℕ → List ℕ → Option Expression → AssignSign → Expression → Statement
assign n x index sign e = Assign (record { number = n; site = at 1; name = x; index = index; sign = sign; sign_site = at 3; value = e })

-- void k(__global uint *a, uint n, __global int *b, int m) { b[n] += a[m] * n; }
abbrev pub mixed : Kernel
mixed = kernel (Buffer false Uint (at 0) (codes "a") ∷ Value Uint (at 0) (codes "n") ∷ Buffer false Int (at 0) (codes "b") ∷ Value Int (at 0) (codes "m") ∷ [])
    (assign 1 (codes "b") (Some (name (codes "n"))) (With Add) (Infix (at 5) (Arithmetic Multiply) (Element (at 4) (codes "a") (name (codes "m"))) (name (codes "n"))) ∷ [])

-- { uint x = 1u; } int x = 2u;
abbrev pub siblings : Kernel
siblings = kernel [] (Block 1 (at 0) (statements (declare 2 Uint (codes "x") (number 1) ∷ [])) ∷ declare 3 Int (codes "x") (number 2) ∷ [])

-- uint x = x;
abbrev pub own_initialiser : Kernel
own_initialiser = kernel [] (declare 1 Uint (codes "x") (Name (at 4) (codes "x")) ∷ [])

-- uint x = 1u; { uint x = 2u; }
abbrev pub shadowed : Kernel
shadowed = kernel [] (declare 1 Uint (codes "x") (number 1) ∷ Block 2 (at 0) (statements (declare 3 Uint (codes "x") (number 2) ∷ [])) ∷ [])

-- void k(__global const uint *a) { a[0u] = 1u; }
abbrev pub constant : Kernel
constant = kernel (Buffer true Uint (at 0) (codes "a") ∷ []) (assign 1 (codes "a") (Some (number 0)) Plain (number 1) ∷ [])

-- void k(__global uint *a) { a[a[0u]] += 1u; }
abbrev pub loaded_index : Kernel
loaded_index = kernel (Buffer false Uint (at 0) (codes "a") ∷ []) (assign 1 (codes "a") (Some (Element (at 4) (codes "a") (number 0))) (With Add) (number 1) ∷ [])

-- { __local uint t[4]; }
abbrev pub inner_array : Kernel
inner_array = kernel [] (Block 1 (at 0) (statements (DeclareArray 2 (at 6) Uint (at 0) (codes "t") 4 ∷ [])) ∷ [])

-- void NAME() { }
abbrev pub named : List ℕ → Kernel
named x = record { name = x; name_site = at 7; sizes = record { x = 2; y = 1; z = 1 }; parameters = []; body = none }

-- uint _cl_abs = 1u;
abbrev pub renamed : Kernel
renamed = kernel [] (declare 1 Uint (codes "_cl_abs") (number 1) ∷ [])

-- void k(uint k) { }
abbrev pub hidden : Kernel
hidden = kernel (Value Uint (at 0) (codes "k") ∷ []) []

-- int i; uint n;
abbrev pub variables : List Binding
variables = record { name = codes "i"; meaning = VariableAt 0 Int } ∷ record { name = codes "n"; meaning = VariableAt 1 Uint } ∷ []

-- get_global_id(0u)
abbrev pub global_id : Expression
global_id = Call (at 8) (codes "get_global_id") (also (number 0) nothing)

-- get_global_id(0u) SIGN e
abbrev pub id_beside : InfixSign → Expression → Expression
id_beside sign e = Infix (at 5) sign global_id e

-- min(get_global_id(0u), n)
abbrev pub least : Expression
least = Call (at 9) (codes "min") (also global_id (also (name (codes "n")) nothing))

-- uint x = get_global_id(0u);
abbrev pub declared_by_id : Kernel
declared_by_id = kernel [] (declare 1 Uint (codes "x") global_id ∷ [])

abbrev pub arguments_of : Checked launch.Kernel → List Kind
arguments_of (Ok k) = k.arguments
arguments_of (Err e) = []

abbrev pub body_of : Checked launch.Kernel → core.Statements
body_of (Ok k) = k.body
body_of (Err e) = core.none

abbrev pub variables_of : Checked launch.Kernel → List Kind
variables_of (Ok k) = k.variables
variables_of (Err e) = []
