-- Elaboration, positions aside: a tree without positions has the core without positions, or the same fault.
use Rattle.std.proofs.Common.{◌≡◌, ℕ, List, [], ◌∷◌, map, length, true, not, ◌&&◌, ◌||◌, Ok, refl, ap, ◌∙◌}
use Rattle.std.specs.Prelude.{Option, Some, None}
use Rattle.semantics.specs.Word.{Add, Subtract, Multiply, Divide, Remainder, BitAnd, BitOr, BitXor}
use Rattle.semantics.specs.Core as core
use Rattle.semantics.specs.Core.{Site}
use Rattle.texts.specs.Bare.{nowhere, bare_expression, bare_expressions, bare_declaration, bare_index, bare_assignment, bare_first, bare_statement, bare_statements, bare_parameter, bare_kernel}
use Rattle.texts.specs.Surface.{Arithmetic, LeftShift, RightShift, Comparison, LogicalAnd, LogicalOr, AssignSign, Plain, With, WithLeftShift, WithRightShift, Expression, Number, Name, Element, Call, Prefix, Cast, Infix, Conditional, Expressions, nothing, also, Declaration, Assignment, First, FirstDeclares, FirstAssigns, JumpWord, Return, Break, Continue, Statement, Declare, DeclareArray, Assign, If, While, For, Barrier, Jump, Block, Statements, none, one, Parameter, Buffer, Value, Kernel, site_of}
use Rattle.types.specs.TypeFaults.{UnknownName, NameTwice, WriteToConst, ArrayInBlock, LoadInCompoundIndex, BarrierFlags, JumpOutsideLoop, then, when}
use Rattle.types.specs.Scope.{Devices, Meaning, VariableAt, ArrayAt, Scope, empty_scope, leave_block, meaning_of, may_declare, may_name_kernel}
use Rattle.types.specs.Typing.{TypedTerm, typed}
use Rattle.types.specs.Elaboration.{Elaborated, elaborated, single, join, assigned, first_load, first_load_in, without_load, site_or, target_array, target_slot, assign_to, elaborate_assignment, elaborate_declaration, elaborate_first, flag_named, one_flag, barrier_of, Around, InKernel, InLoop, is_in_kernel, inside, innermost_loop, jump_to, elaborate_statement, elaborate_all, declare_parameter, declare_parameters, elaborate_inside, elaborate}
use Rattle.texts.specs.Limits.{either}
use Rattle.printer.specs.BareCore.{bare_term, bare_step, bare_steps, bare_core, bare_checked}
use Rattle.printer.proofs.BareTerms.{same, bare_typed, bare-then, bare-found, bare-when, bare-bring, bare-infix, bare-type}

abbrev bare_elaborated : Elaborated → Elaborated
bare_elaborated e = elaborated (bare_steps e.statements) e.scope

bare-join : (a b : core.Statements) → join (bare_steps a) (bare_steps b) ≡ bare_steps (join a b)
bare-join core.none b = refl
bare-join (core.one s ss) b = ap (core.one (bare_step s)) (bare-join ss b)

-- loads
abbrev pub bare_place : Option Site → Option Site
bare_place None = None
bare_place (Some site) = Some nowhere

pub bare-either : (a b : Option Site) → either (bare_place a) (bare_place b) ≡ bare_place (either a b)
bare-either None b = refl
bare-either (Some site) b = refl

-- the same of both parts
pub bare-both : (a b c d : Option Site) → c ≡ bare_place a → d ≡ bare_place b → either c d ≡ bare_place (either a b)
bare-both a b c d e f = ap (λ x. either x d) e ∙ ap (either (bare_place a)) f ∙ bare-either a b

mutual
  bare-load : (e : Expression) → first_load (bare_expression e) ≡ bare_place (first_load e)
  bare-load (Number site kind n) = refl
  bare-load (Name site x) = refl
  bare-load (Element site x index) = refl
  bare-load (Call site x es) = bare-loads es
  bare-load (Prefix site sign e) = bare-load e
  bare-load (Cast site kind e) = bare-load e
  bare-load (Infix site sign l r) = bare-both _ _ _ _ (bare-load l) (bare-load r)
  bare-load (Conditional site test a b) = bare-both _ _ _ _ (bare-load test) (bare-both _ _ _ _ (bare-load a) (bare-load b))

  bare-loads : (es : Expressions) → first_load_in (bare_expressions es) ≡ bare_place (first_load_in es)
  bare-loads nothing = refl
  bare-loads (also e es) = bare-both _ _ _ _ (bare-load e) (bare-loads es)

bare-without : (sign : AssignSign) (o : Option Site) → without_load sign (bare_place o) ≡ without_load sign o
bare-without Plain o = refl
bare-without (With operator) None = refl
bare-without (With operator) (Some site) = refl
bare-without WithLeftShift None = refl
bare-without WithLeftShift (Some site) = refl
bare-without WithRightShift None = refl
bare-without WithRightShift (Some site) = refl

bare-or : (o : Option Site) → site_or (bare_place o) nowhere ≡ nowhere
bare-or None = refl
bare-or (Some site) = refl

bare-loaded : (sign : AssignSign) (o p : Option Site) (site : Site) (i : TypedTerm) → p ≡ bare_place o →
    when (without_load sign p) LoadInCompoundIndex (site_or p nowhere) (bare_typed i) ≡ bare_checked bare_typed (when (without_load sign o) LoadInCompoundIndex (site_or o site) i)
bare-loaded sign o p site i e =
    ap (λ q. when (without_load sign q) LoadInCompoundIndex (site_or q nowhere) (bare_typed i)) e
    ∙ ap (λ s. when (without_load sign (bare_place o)) LoadInCompoundIndex s (bare_typed i)) (bare-or o)
    ∙ ap (λ b. when b LoadInCompoundIndex nowhere (bare_typed i)) (bare-without sign o)
    ∙ bare-when bare_typed (without_load sign o) LoadInCompoundIndex (site_or o site) i

-- assignments and declarations
bare-assigned : (sign : AssignSign) (site : Site) (e : Expression) (old new : TypedTerm) → assigned sign nowhere (bare_expression e) (bare_typed old) (bare_typed new) ≡ bare_checked bare_typed (assigned sign site e old new)
bare-assigned Plain site e old new = refl
bare-assigned (With operator) site e old new = bare-infix (Arithmetic operator) site e old new
bare-assigned WithLeftShift site e old new = bare-infix LeftShift site e old new
bare-assigned WithRightShift site e old new = bare-infix RightShift site e old new

bare-target : (site : Site) (m : Meaning) → target_array nowhere m ≡ bare_checked same (target_array site m)
bare-target site (VariableAt slot kind) = refl
bare-target site (ArrayAt array kind writable) = bare-when same writable WriteToConst site (array, kind)

bare-slot : (site : Site) (m : Meaning) → target_slot nowhere m ≡ bare_checked same (target_slot site m)
bare-slot site (VariableAt slot kind) = refl
bare-slot site (ArrayAt array kind writable) = refl

bare-assign : (scope : Scope) (a : Assignment) (m : Meaning) (o : Option Expression) → assign_to scope (bare_assignment a) m (bare_index o) ≡ bare_checked bare_step (assign_to scope a m o)
bare-assign scope a m None =
    bare-then same bare_step _ _ _ _ (bare-slot a.site m) (λ x. bare-then bare_typed bare_step _ _ _ _ (bare-type scope.devices scope.visible a.value) (λ v.
    bare-then bare_typed bare_step _ _ _ _ (bare-assigned a.sign a.sign_site a.value (typed x.1 (core.Variable x.0)) v) (λ w. ap (λ t. Ok (core.Set a.number x.0 t)) (bare-bring x.1 a.site w))))
bare-assign scope a m (Some index) =
    bare-then same bare_step _ _ _ _ (bare-target a.site m) (λ x. bare-then bare_typed bare_step _ _ _ _ (bare-type scope.devices scope.visible index) (λ i.
    bare-then bare_typed bare_step _ _ _ _ (bare-loaded a.sign (first_load index) (first_load (bare_expression index)) a.site i (bare-load index)) (λ j.
    bare-then bare_typed bare_step _ _ _ _ (bare-type scope.devices scope.visible a.value) (λ v.
    bare-then bare_typed bare_step _ _ _ _ (bare-assigned a.sign a.sign_site a.value (typed x.1 (core.Load x.0 a.site j.term)) v) (λ w.
    ap (λ t. Ok (core.Store a.number x.0 nowhere (bare_term j.term) t)) (bare-bring x.1 a.site w))))))

bare-elaborate_assignment : (scope : Scope) (a : Assignment) → elaborate_assignment scope (bare_assignment a) ≡ bare_checked bare_step (elaborate_assignment scope a)
unfolding elaborate_assignment
bare-elaborate_assignment scope a = bare-then same bare_step _ _ _ _ (bare-found (meaning_of scope.visible a.name) UnknownName a.site) (λ m. bare-assign scope a m a.index)

bare-elaborate_declaration : (scope : Scope) (d : Declaration) → elaborate_declaration scope (bare_declaration d) ≡ bare_checked bare_elaborated (elaborate_declaration scope d)
unfolding elaborate_declaration
bare-elaborate_declaration scope d =
    bare-then bare_typed bare_elaborated _ _ _ _ (bare-type scope.devices scope.visible d.value) (λ v. bare-then same bare_elaborated _ _ _ _ (bare-when same (may_declare scope d.name) NameTwice d.name_site _) (λ inner.
    ap (λ t. Ok (elaborated (single (core.Set d.number (length scope.slots) t)) inner)) (bare-bring d.kind d.name_site v)))

bare-elaborate_first : (scope : Scope) (f : First) → elaborate_first scope (bare_first f) ≡ bare_checked bare_elaborated (elaborate_first scope f)
bare-elaborate_first scope (FirstDeclares d) = bare-elaborate_declaration scope d
bare-elaborate_first scope (FirstAssigns a) = bare-then bare_step bare_elaborated _ _ _ _ (bare-elaborate_assignment scope a) (λ s. refl)

-- barriers
bare-flag : (e : Expression) → one_flag (bare_expression e) ≡ bare_checked same (one_flag e)
bare-flag (Number site kind n) = refl
bare-flag (Name site x) = bare-found (flag_named x) BarrierFlags site
bare-flag (Element site x index) = refl
bare-flag (Call site x es) = refl
bare-flag (Prefix site sign e) = refl
bare-flag (Cast site kind e) = refl
bare-flag (Infix site sign l r) = refl
bare-flag (Conditional site test a b) = refl

bare-site : (e : Expression) → site_of (bare_expression e) ≡ nowhere
bare-site (Number site kind n) = refl
bare-site (Name site x) = refl
bare-site (Element site x index) = refl
bare-site (Call site x es) = refl
bare-site (Prefix site sign e) = refl
bare-site (Cast site kind e) = refl
bare-site (Infix site sign l r) = refl
bare-site (Conditional site test a b) = refl

bare-one : (n : ℕ) (e : Expression) → then (one_flag (bare_expression e)) (λ local. Ok (core.Barrier n local (not local))) ≡ bare_checked bare_step (then (one_flag e) (λ local. Ok (core.Barrier n local (not local))))
bare-one n e = bare-then same bare_step _ _ _ _ (bare-flag e) (λ local. refl)

bare-barrier : (n : ℕ) (e : Expression) → barrier_of n (bare_expression e) ≡ bare_checked bare_step (barrier_of n e)
bare-barrier n (Infix site (Arithmetic BitOr) l r) =
    bare-then same bare_step _ _ _ _ (bare-flag l) (λ a. bare-then same bare_step _ _ _ _ (bare-flag r) (λ b.
    ap (λ s. when ((a && not b) || (not a && b)) BarrierFlags s (core.Barrier n true true)) (bare-site r)
    ∙ bare-when bare_step ((a && not b) || (not a && b)) BarrierFlags (site_of r) (core.Barrier n true true)))
bare-barrier n (Infix site (Arithmetic Add) l r) = refl
bare-barrier n (Infix site (Arithmetic Subtract) l r) = refl
bare-barrier n (Infix site (Arithmetic Multiply) l r) = refl
bare-barrier n (Infix site (Arithmetic Divide) l r) = refl
bare-barrier n (Infix site (Arithmetic Remainder) l r) = refl
bare-barrier n (Infix site (Arithmetic BitAnd) l r) = refl
bare-barrier n (Infix site (Arithmetic BitXor) l r) = refl
bare-barrier n (Infix site LeftShift l r) = refl
bare-barrier n (Infix site RightShift l r) = refl
bare-barrier n (Infix site (Comparison relation) l r) = refl
bare-barrier n (Infix site LogicalAnd l r) = refl
bare-barrier n (Infix site LogicalOr l r) = refl
bare-barrier n (Number site kind m) = refl
bare-barrier n (Name site x) = bare-one n (Name site x)
bare-barrier n (Element site x index) = refl
bare-barrier n (Call site x es) = refl
bare-barrier n (Prefix site sign e) = refl
bare-barrier n (Cast site kind e) = refl
bare-barrier n (Conditional site test a b) = refl

-- jumps
bare-jump : (n : ℕ) (site : Site) (around : Around) (jump : JumpWord) → jump_to n nowhere around jump ≡ bare_checked bare_step (jump_to n site around jump)
bare-jump n site around Return = refl
bare-jump n site around Break = bare-then same bare_step _ _ _ _ (bare-found (innermost_loop around) JumpOutsideLoop site) (λ loop. refl)
bare-jump n site around Continue = bare-then same bare_step _ _ _ _ (bare-found (innermost_loop around) JumpOutsideLoop site) (λ loop. refl)

mutual
  unfolding elaborate_statement

  bare-elaborate_statement : (around : Around) (scope : Scope) (s : Statement) → elaborate_statement around scope (bare_statement s) ≡ bare_checked bare_elaborated (elaborate_statement around scope s)
  bare-elaborate_statement around scope (Declare d) = bare-elaborate_declaration scope d
  bare-elaborate_statement around scope (DeclareArray n site kind name_site x size) =
      bare-then same bare_elaborated _ _ _ _ (bare-when same (is_in_kernel around) ArrayInBlock site scope) (λ outer.
      bare-then same bare_elaborated _ _ _ _ (bare-when same (may_declare outer x) NameTwice name_site _) (λ inner. refl))
  bare-elaborate_statement around scope (Assign a) = bare-then bare_step bare_elaborated _ _ _ _ (bare-elaborate_assignment scope a) (λ s. refl)
  bare-elaborate_statement around scope (If n site test taken skipped) =
      bare-then bare_typed bare_elaborated _ _ _ _ (bare-type scope.devices scope.visible test) (λ t. bare-then bare_elaborated bare_elaborated _ _ _ _ (bare-elaborate_all (inside around) scope taken) (λ a.
      bare-then bare_elaborated bare_elaborated _ _ _ _ (bare-elaborate_all (inside around) _ skipped) (λ b. refl)))
  bare-elaborate_statement around scope (While n site test body) =
      bare-then bare_typed bare_elaborated _ _ _ _ (bare-type scope.devices scope.visible test) (λ t. bare-then bare_elaborated bare_elaborated _ _ _ _ (bare-elaborate_all (InLoop n) scope body) (λ b. refl))
  bare-elaborate_statement around scope (For n site first test update body) =
      bare-then bare_elaborated bare_elaborated _ _ _ _ (bare-elaborate_first scope first) (λ f. bare-then bare_typed bare_elaborated _ _ _ _ (bare-type f.scope.devices f.scope.visible test) (λ t.
      bare-then bare_step bare_elaborated _ _ _ _ (bare-elaborate_assignment f.scope update) (λ u. bare-then bare_elaborated bare_elaborated _ _ _ _ (bare-elaborate_all (InLoop n) f.scope body) (λ b.
      ap (λ ss. Ok (elaborated ss (leave_block scope b.scope))) (bare-join f.statements (single (core.Loop n t.term b.statements (single u))))))))
  bare-elaborate_statement around scope (Barrier n site flags) = bare-then bare_step bare_elaborated _ _ _ _ (bare-barrier n flags) (λ s. refl)
  bare-elaborate_statement around scope (Jump n site jump) = bare-then bare_step bare_elaborated _ _ _ _ (bare-jump n site around jump) (λ s. refl)
  bare-elaborate_statement around scope (Block n site body) = bare-then bare_elaborated bare_elaborated _ _ _ _ (bare-elaborate_all (inside around) scope body) (λ b. refl)

  bare-elaborate_all : (around : Around) (scope : Scope) (ss : Statements) → elaborate_all around scope (bare_statements ss) ≡ bare_checked bare_elaborated (elaborate_all around scope ss)
  bare-elaborate_all around scope none = refl
  bare-elaborate_all around scope (one s ss) =
      bare-then bare_elaborated bare_elaborated _ _ _ _ (bare-elaborate_statement around scope s) (λ a. bare-then bare_elaborated bare_elaborated _ _ _ _ (bare-elaborate_all around a.scope ss) (λ b.
      ap (λ ss. Ok (elaborated ss b.scope)) (bare-join a.statements b.statements)))

-- parameters and kernels
bare-declare : (scope : Scope) (p : Parameter) → declare_parameter scope (bare_parameter p) ≡ bare_checked same (declare_parameter scope p)
bare-declare scope (Buffer constant kind site x) = bare-when same (may_declare scope x) NameTwice site _
bare-declare scope (Value kind site x) = bare-when same (may_declare scope x) NameTwice site _

bare-declare_all : (scope : Scope) (ps : List Parameter) → declare_parameters scope (map bare_parameter ps) ≡ bare_checked same (declare_parameters scope ps)
bare-declare_all scope [] = refl
bare-declare_all scope (p ∷ ps) = bare-then same same _ _ _ _ (bare-declare scope p) (λ inner. bare-declare_all inner ps)

bare-inside : (d : Devices) (k : Kernel) → elaborate_inside d (bare_kernel k) ≡ bare_checked bare_core (elaborate_inside d k)
unfolding elaborate_inside
bare-inside d k =
    bare-then same bare_core _ _ _ _ (bare-declare_all (empty_scope d) k.parameters) (λ outer. bare-then bare_elaborated bare_core _ _ _ _ (bare-elaborate_all InKernel outer k.body) (λ b. refl))

pub bare-elaborate : (d : Devices) (k : Kernel) → elaborate d (bare_kernel k) ≡ bare_checked bare_core (elaborate d k)
unfolding elaborate
bare-elaborate d k = bare-then same bare_core _ _ _ _ (bare-when same (may_name_kernel k.name) NameTwice k.name_site (empty_scope d)) (λ outside. bare-inside d k)
