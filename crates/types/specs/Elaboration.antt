-- The typing rules of statements and kernels, and the elaborated kernel that each stands for. A declaration's value is typed before
-- its name is visible; the parts of an `if` and of a loop are blocks (C99 6.8.4p3, 6.8.5p5); local arrays stand directly in the
-- kernel's body (OpenCL 1.2, 6.5.2).
use Rattle.std.specs.Prelude.{ℕ, List, [], ◌∷◌, length, drop, Bool, true, false, cond, not, ◌&&◌, ◌||◌, Option, Some, None, Ok, bytes_eq, codes}
use Rattle.semantics.specs.Word.{Kind, BitOr}
use Rattle.semantics.specs.Core as core
use Rattle.semantics.specs.Core.{Site, Array}
use Rattle.semantics.specs.Launch as launch
use Rattle.texts.specs.Surface.{Arithmetic, LeftShift, RightShift, AssignSign, Plain, With, WithLeftShift, WithRightShift, Expression, Number, Name, Element, Call, Prefix, Cast, Infix, Conditional, Expressions, nothing, also, Declaration, Assignment, First, FirstDeclares, FirstAssigns, JumpWord, Return, Break, Continue, Statement, Declare, DeclareArray, Assign, If, While, For, Barrier, Jump, Block, Statements, none, one, Parameter, Buffer, Value, Kernel, site_of}
use Rattle.types.specs.TypeFaults.{UnknownName, NameTwice, WrongType, WriteToConst, ArrayInBlock, LoadInCompoundIndex, BarrierFlags, JumpOutsideLoop, Checked, refused, then, when, found}
use Rattle.types.specs.Scope.{Devices, Meaning, VariableAt, ArrayAt, Scope, empty_scope, leave_block, meaning_of, may_name_kernel, declare_variable, declare_buffer, declare_array}
use Rattle.texts.specs.Limits.{either}
use Rattle.types.specs.Typing.{TypedTerm, typed, bring, infix_term, type_of}

-- core statements, and the scope after them
pub record Elaborated : Type 0 where
  pub statements : core.Statements
  pub scope : Scope

abbrev pub elaborated : core.Statements → Scope → Elaborated
elaborated ss scope = record { statements = ss; scope = scope }

abbrev pub single : core.Statement → core.Statements
single s = core.one s core.none

abbrev pub join : core.Statements → core.Statements → core.Statements
join core.none others = others
join (core.one s ss) others = core.one s (join ss others)

-- the value of `x op= e` is that of `x op (e)` (C99 6.5.16.2)
abbrev pub assigned : AssignSign → Site → Expression → (old new : TypedTerm) → Checked TypedTerm
assigned Plain site e old new = Ok new
assigned (With op) site e old new = infix_term (Arithmetic op) site e old new
assigned WithLeftShift site e old new = infix_term LeftShift site e old new
assigned WithRightShift site e old new = infix_term RightShift site e old new

-- the first load in an expression: the index of a compound assignment has none (ours): C evaluates it once (C99 6.5.16.2p3),
-- here it is written twice
abbrev mutual
  pub first_load : Expression → Option Site
  first_load (Number site kind n) = None
  first_load (Name site name) = None
  first_load (Element site name index) = Some site
  first_load (Call site name arguments) = first_load_in arguments
  first_load (Prefix site sign e) = first_load e
  first_load (Cast site kind e) = first_load e
  first_load (Infix site sign l r) = either (first_load l) (first_load r)
  first_load (Conditional site test a b) = either (first_load test) (either (first_load a) (first_load b))

  pub first_load_in : Expressions → Option Site
  first_load_in nothing = None
  first_load_in (also e es) = either (first_load e) (first_load_in es)

abbrev pub without_load : AssignSign → Option Site → Bool
without_load Plain load = true
without_load sign None = true
without_load sign (Some site) = false

abbrev pub site_or : Option Site → Site → Site
site_or None site = site
site_or (Some load) site = load

-- a store to what is `const` is refused
abbrev pub target_array : Site → Meaning → Checked (Array × Kind)
target_array site (VariableAt slot kind) = refused WrongType site
target_array site (ArrayAt array kind writable) = when writable WriteToConst site (array, kind)

abbrev pub target_slot : Site → Meaning → Checked (ℕ × Kind)
target_slot site (VariableAt slot kind) = Ok (slot, kind)
target_slot site (ArrayAt array kind writable) = refused WrongType site

abbrev pub assign_to : Scope → Assignment → Meaning → Option Expression → Checked core.Statement
assign_to scope a m None =
    then (target_slot a.site m) (λ x. then (type_of scope.devices scope.visible a.value) (λ v.
    then (assigned a.sign a.sign_site a.value (typed x.1 (core.Variable x.0)) v) (λ w. Ok (core.Set a.number x.0 (bring x.1 a.site w)))))
assign_to scope a m (Some index) =
    then (target_array a.site m) (λ x. then (type_of scope.devices scope.visible index) (λ i.
    then (when (without_load a.sign (first_load index)) LoadInCompoundIndex (site_or (first_load index) a.site) i) (λ i'.
    then (type_of scope.devices scope.visible a.value) (λ v.
    then (assigned a.sign a.sign_site a.value (typed x.1 (core.Load x.0 a.site i'.term)) v) (λ w.
    Ok (core.Store a.number x.0 a.site i'.term (bring x.1 a.site w)))))))

unfoldable pub elaborate_assignment : Scope → Assignment → Checked core.Statement
elaborate_assignment scope a = then (found (meaning_of scope.visible a.name) UnknownName a.site) (λ m. assign_to scope a m a.index)

unfoldable pub elaborate_declaration : Scope → Declaration → Checked Elaborated
elaborate_declaration scope d =
    then (type_of scope.devices scope.visible d.value) (λ v. then (declare_variable scope d.name_site d.name d.kind) (λ inner.
    Ok (elaborated (single (core.Set d.number (length scope.slots) (bring d.kind d.name_site v))) inner)))

abbrev pub elaborate_first : Scope → First → Checked Elaborated
elaborate_first scope (FirstDeclares d) = elaborate_declaration scope d
elaborate_first scope (FirstAssigns a) = then (elaborate_assignment scope a) (λ s. Ok (elaborated (single s) scope))

-- a fence flag: whether it is the local one
abbrev pub flag_named : List ℕ → Option Bool
flag_named name =
    cond (bytes_eq name (codes "CLK_LOCAL_MEM_FENCE")) (Some true) (cond (bytes_eq name (codes "CLK_GLOBAL_MEM_FENCE")) (Some false) None)

abbrev pub one_flag : Expression → Checked Bool
one_flag (Name site name) = found (flag_named name) BarrierFlags site
one_flag e = refused BarrierFlags (site_of e)

-- one flag, or both joined by `|`, in either order (OpenCL 1.2, 6.12.8)
abbrev pub barrier_of : (number : ℕ) → Expression → Checked core.Statement
barrier_of n (Infix site (Arithmetic BitOr) left right) =
    then (one_flag left) (λ a. then (one_flag right) (λ b.
    when ((a && not b) || (not a && b)) BarrierFlags (site_of right) (core.Barrier n true true)))
barrier_of n flags = then (one_flag flags) (λ local. Ok (core.Barrier n local (not local)))

-- where a statement stands: directly in the kernel's body, in a block outside all loops, or in loops, the innermost of which has the number
pub data Around : Type 0 where
  InKernel : Around
  InBlock : Around
  InLoop : (number : ℕ) → Around

abbrev pub is_in_kernel : Around → Bool
is_in_kernel InKernel = true
is_in_kernel InBlock = false
is_in_kernel (InLoop n) = false

-- where the parts of an `if` and the statements of a block stand
abbrev pub inside : Around → Around
inside InKernel = InBlock
inside InBlock = InBlock
inside (InLoop n) = InLoop n

abbrev pub innermost_loop : Around → Option ℕ
innermost_loop InKernel = None
innermost_loop InBlock = None
innermost_loop (InLoop n) = Some n

-- `break` and `continue` are of the innermost loop around them (C99 6.8.6.2p2, 6.8.6.3p2)
abbrev pub jump_to : (number : ℕ) → Site → Around → JumpWord → Checked core.Statement
jump_to n site around Return = Ok (core.Return n)
jump_to n site around Break = then (found (innermost_loop around) JumpOutsideLoop site) (λ loop. Ok (core.Break n loop))
jump_to n site around Continue = then (found (innermost_loop around) JumpOutsideLoop site) (λ loop. Ok (core.Continue n loop))

-- a statement's core statements; local arrays may stand directly in the kernel's body alone
unfoldable mutual
  pub elaborate_statement : (around : Around) → Scope → Statement → Checked Elaborated
  elaborate_statement around scope (Declare d) = elaborate_declaration scope d
  elaborate_statement around scope (DeclareArray n site kind name_site name size) =
      then (when (is_in_kernel around) ArrayInBlock site scope) (λ outer. then (declare_array outer name_site name kind size) (λ inner. Ok (elaborated core.none inner)))
  elaborate_statement around scope (Assign a) = then (elaborate_assignment scope a) (λ s. Ok (elaborated (single s) scope))
  elaborate_statement around scope (If n site test taken skipped) =
      then (type_of scope.devices scope.visible test) (λ t. then (elaborate_all (inside around) scope taken) (λ a.
      then (elaborate_all (inside around) (leave_block scope a.scope) skipped) (λ b.
      Ok (elaborated (single (core.If n t.term a.statements b.statements)) (leave_block scope b.scope)))))
  elaborate_statement around scope (While n site test body) =
      then (type_of scope.devices scope.visible test) (λ t. then (elaborate_all (InLoop n) scope body) (λ b.
      Ok (elaborated (single (core.Loop n t.term b.statements core.none)) (leave_block scope b.scope))))
  elaborate_statement around scope (For n site first test update body) =
      then (elaborate_first scope first) (λ f. then (type_of f.scope.devices f.scope.visible test) (λ t.
      then (elaborate_assignment f.scope update) (λ u. then (elaborate_all (InLoop n) f.scope body) (λ b.
      Ok (elaborated (join f.statements (single (core.Loop n t.term b.statements (single u)))) (leave_block scope b.scope))))))
  elaborate_statement around scope (Barrier n site flags) =
      then (barrier_of n flags) (λ s. Ok (elaborated (single s) scope))
  elaborate_statement around scope (Jump n site jump) = then (jump_to n site around jump) (λ s. Ok (elaborated (single s) scope))
  elaborate_statement around scope (Block n site body) =
      then (elaborate_all (inside around) scope body) (λ b. Ok (elaborated b.statements (leave_block scope b.scope)))

  pub elaborate_all : (around : Around) → Scope → Statements → Checked Elaborated
  elaborate_all around scope none = Ok (elaborated core.none scope)
  elaborate_all around scope (one s ss) =
      then (elaborate_statement around scope s) (λ a. then (elaborate_all around a.scope ss) (λ b.
      Ok (elaborated (join a.statements b.statements) b.scope)))

abbrev pub declare_parameter : Scope → Parameter → Checked Scope
declare_parameter scope (Buffer constant kind site name) = declare_buffer scope site name kind constant
declare_parameter scope (Value kind site name) = declare_variable scope site name kind

abbrev pub declare_parameters : Scope → List Parameter → Checked Scope
declare_parameters scope [] = Ok scope
declare_parameters scope (p ∷ ps) = then (declare_parameter scope p) (λ inner. declare_parameters inner ps)

-- a kernel's parameters and its body: what is declared there may have the kernel's name, and hides it
unfoldable pub elaborate_inside : Devices → Kernel → Checked launch.Kernel
elaborate_inside d k =
    then (declare_parameters (empty_scope d) k.parameters) (λ outer. then (elaborate_all InKernel outer k.body) (λ b. Ok (record {
      sizes = k.sizes;
      buffers = outer.buffers;
      arguments = outer.slots;
      arrays = b.scope.arrays;
      variables = drop (length outer.slots) b.scope.slots;
      body = b.statements;
    })))

-- the elaborated kernel for these devices, or the first fault: a kernel is well typed where this is `Ok`
unfoldable pub elaborate : Devices → Kernel → Checked launch.Kernel
elaborate d k = then (when (may_name_kernel k.name) NameTwice k.name_site (empty_scope d)) (λ outside. elaborate_inside d k)
