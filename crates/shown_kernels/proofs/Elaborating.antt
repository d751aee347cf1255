-- Statements of trees whose numbers are of their kinds are proper.
use Rattle.std.proofs.Common.{◌≡◌, ℕ, Bool, true, false, ◌&&◌, ◌||◌, not, refl, length}
use Rattle.std.specs.Prelude.{Option, Some, None, Ok}
use Rattle.semantics.specs.Word.{Add, Subtract, Multiply, Divide, Remainder, BitAnd, BitOr, BitXor}
use Rattle.semantics.specs.Core as core
use Rattle.semantics.specs.Core.{Site, Array}
use Rattle.semantics.specs.Launch as launch
use Rattle.texts.specs.Surface.{Arithmetic, LeftShift, RightShift, Comparison, LogicalAnd, LogicalOr, AssignSign, Plain, With, WithLeftShift, WithRightShift, Expression, Number, Name, Element, Call, Prefix, Cast, Infix, Conditional, Declaration, Assignment, First, FirstDeclares, FirstAssigns, JumpWord, Return, Break, Continue, Statement, Declare, DeclareArray, Assign, If, While, For, Barrier, Jump, Block, Statements, none, one, Kernel, site_of}
use Rattle.types.specs.TypeFaults.{UnknownName, NameTwice, LoadInCompoundIndex, ArrayInBlock, BarrierFlags, JumpOutsideLoop, then, when, found}
use Rattle.types.specs.Scope.{Devices, Meaning, Scope, empty_scope, meaning_of, leave_block, may_name_kernel, declare_variable, declare_array}
use Rattle.types.specs.Typing.{TypedTerm, typed, bring, type_of}
use Rattle.types.specs.Elaboration.{Elaborated, elaborated, single, join, assigned, first_load, without_load, site_or, target_array, target_slot, assign_to, elaborate_assignment, elaborate_declaration, elaborate_first, one_flag, barrier_of, Around, InKernel, InLoop, is_in_kernel, inside, innermost_loop, jump_to, elaborate_statement, elaborate_all, declare_parameters, elaborate_inside, elaborate}
use Rattle.texts.specs.Spelling.{SpellsExpression, SpellsIndex, SpellsDeclaration, SpellsAssignment, SpellsFirst, SpellsStatement, SpellsStatements}
use Rattle.work_item.specs.Proper.{is_proper_term, is_proper_statement, are_proper}
use Rattle.shown_kernels.proofs.Holding.{Holds, then-holds, then-any, when-holds, held, both}
use Rattle.shown_kernels.proofs.Terms.{IsProper, bring-proper, infix-proper, type-proper}

abbrev IsFit : core.Statement → Type 0
IsFit s = is_proper_statement s ≡ true

abbrev AreFit : Elaborated → Type 0
AreFit e = are_proper e.statements ≡ true

-- one test of two, the second replaced
second-by : (b c d : Bool) → (c ≡ true → d ≡ true) → (b && c) ≡ true → (b && d) ≡ true
second-by true c d k h = k h
second-by false c d k h = h

join-fit : (ss others : core.Statements) → are_proper ss ≡ true → are_proper others ≡ true → are_proper (join ss others) ≡ true
join-fit core.none others h k = k
join-fit (core.one s ss) others h k = second-by (is_proper_statement s) (are_proper ss) (are_proper (join ss others)) (λ r. join-fit ss others r k) h

single-fit : (s : core.Statement) → IsFit s → are_proper (single s) ≡ true
single-fit s h = both (is_proper_statement s) true h refl

assigned-proper : (sign : AssignSign) (site : Site) (e : Expression) (old new : TypedTerm) → IsProper old → IsProper new → Holds IsProper (assigned sign site e old new)
assigned-proper Plain site e old new h k = k
assigned-proper (With op) site e old new h k = infix-proper (Arithmetic op) site e old new h k
assigned-proper WithLeftShift site e old new h k = infix-proper LeftShift site e old new h k
assigned-proper WithRightShift site e old new h k = infix-proper RightShift site e old new h k

assign-fit : (scope : Scope) (a : Assignment) (m : Meaning) (index : Option Expression) → SpellsIndex index → SpellsExpression a.value → Holds IsFit (assign_to scope a m index)
assign-fit scope a m None h k =
    then-any IsFit (target_slot a.site m) _ (λ x.
    then-holds IsProper IsFit (type_of scope.devices scope.visible a.value) _ (type-proper scope.devices scope.visible a.value k) (λ v p.
    then-holds IsProper IsFit (assigned a.sign a.sign_site a.value (typed x.1 (core.Variable x.0)) v) _ (assigned-proper a.sign a.sign_site a.value (typed x.1 (core.Variable x.0)) v refl p) (λ w q.
    bring-proper x.1 a.site w q)))
assign-fit scope a m (Some index) h k =
    then-any IsFit (target_array a.site m) _ (λ x.
    then-holds IsProper IsFit (type_of scope.devices scope.visible index) _ (type-proper scope.devices scope.visible index h) (λ i r.
    then-holds IsProper IsFit (when (without_load a.sign (first_load index)) LoadInCompoundIndex (site_or (first_load index) a.site) i) _
    (when-holds IsProper (without_load a.sign (first_load index)) LoadInCompoundIndex (site_or (first_load index) a.site) i r) (λ j t.
    then-holds IsProper IsFit (type_of scope.devices scope.visible a.value) _ (type-proper scope.devices scope.visible a.value k) (λ v p.
    then-holds IsProper IsFit (assigned a.sign a.sign_site a.value (typed x.1 (core.Load x.0 a.site j.term)) v) _ (assigned-proper a.sign a.sign_site a.value (typed x.1 (core.Load x.0 a.site j.term)) v t p) (λ w q.
    both (is_proper_term j.term) (is_proper_term (bring x.1 a.site w)) t (bring-proper x.1 a.site w q))))))

assignment-fit : (scope : Scope) (a : Assignment) → SpellsAssignment a → Holds IsFit (elaborate_assignment scope a)
unfolding elaborate_assignment
assignment-fit scope a h = then-any IsFit (found (meaning_of scope.visible a.name) UnknownName a.site) _ (λ m. assign-fit scope a m a.index h.1 h.2)

declaration-fit : (scope : Scope) (d : Declaration) → SpellsDeclaration d → Holds AreFit (elaborate_declaration scope d)
unfolding elaborate_declaration
declaration-fit scope d h =
    then-holds IsProper AreFit (type_of scope.devices scope.visible d.value) _ (type-proper scope.devices scope.visible d.value h.1) (λ v p.
    then-any AreFit (declare_variable scope d.name_site d.name d.kind) _ (λ inner.
    single-fit (core.Set d.number (length scope.slots) (bring d.kind d.name_site v)) (bring-proper d.kind d.name_site v p)))

single-assignment : (scope : Scope) (a : Assignment) → SpellsAssignment a → Holds AreFit (then (elaborate_assignment scope a) (λ s. Ok (elaborated (single s) scope)))
single-assignment scope a h = then-holds IsFit AreFit (elaborate_assignment scope a) _ (assignment-fit scope a h) (λ s p. single-fit s p)

first-fit : (scope : Scope) (f : First) → SpellsFirst f → Holds AreFit (elaborate_first scope f)
first-fit scope (FirstDeclares d) h = declaration-fit scope d h
first-fit scope (FirstAssigns a) h = single-assignment scope a h

flags-fit : (n : ℕ) (flags : Expression) → Holds IsFit (then (one_flag flags) (λ local. Ok (core.Barrier n local (not local))))
flags-fit n flags = then-any IsFit (one_flag flags) _ (λ local. refl)

barrier-fit : (n : ℕ) (flags : Expression) → Holds IsFit (barrier_of n flags)
barrier-fit n (Infix site (Arithmetic BitOr) left right) =
    then-any IsFit (one_flag left) _ (λ a. then-any IsFit (one_flag right) _ (λ b.
    when-holds IsFit ((a && not b) || (not a && b)) BarrierFlags (site_of right) (core.Barrier n true true) refl))
barrier-fit n (Infix site (Arithmetic Add) left right) = flags-fit n (Infix site (Arithmetic Add) left right)
barrier-fit n (Infix site (Arithmetic Subtract) left right) = flags-fit n (Infix site (Arithmetic Subtract) left right)
barrier-fit n (Infix site (Arithmetic Multiply) left right) = flags-fit n (Infix site (Arithmetic Multiply) left right)
barrier-fit n (Infix site (Arithmetic Divide) left right) = flags-fit n (Infix site (Arithmetic Divide) left right)
barrier-fit n (Infix site (Arithmetic Remainder) left right) = flags-fit n (Infix site (Arithmetic Remainder) left right)
barrier-fit n (Infix site (Arithmetic BitAnd) left right) = flags-fit n (Infix site (Arithmetic BitAnd) left right)
barrier-fit n (Infix site (Arithmetic BitXor) left right) = flags-fit n (Infix site (Arithmetic BitXor) left right)
barrier-fit n (Infix site LeftShift left right) = flags-fit n (Infix site LeftShift left right)
barrier-fit n (Infix site RightShift left right) = flags-fit n (Infix site RightShift left right)
barrier-fit n (Infix site (Comparison r) left right) = flags-fit n (Infix site (Comparison r) left right)
barrier-fit n (Infix site LogicalAnd left right) = flags-fit n (Infix site LogicalAnd left right)
barrier-fit n (Infix site LogicalOr left right) = flags-fit n (Infix site LogicalOr left right)
barrier-fit n (Number site kind v) = flags-fit n (Number site kind v)
barrier-fit n (Name site x) = flags-fit n (Name site x)
barrier-fit n (Element site x index) = flags-fit n (Element site x index)
barrier-fit n (Call site x arguments) = flags-fit n (Call site x arguments)
barrier-fit n (Prefix site sign e) = flags-fit n (Prefix site sign e)
barrier-fit n (Cast site kind e) = flags-fit n (Cast site kind e)
barrier-fit n (Conditional site test a b) = flags-fit n (Conditional site test a b)

jump-fit : (n : ℕ) (site : Site) (around : Around) (jump : JumpWord) → Holds IsFit (jump_to n site around jump)
jump-fit n site around Return = refl
jump-fit n site around Break = then-any IsFit (found (innermost_loop around) JumpOutsideLoop site) _ (λ loop. refl)
jump-fit n site around Continue = then-any IsFit (found (innermost_loop around) JumpOutsideLoop site) _ (λ loop. refl)

mutual
  unfolding elaborate_statement elaborate_all

  statement-fit : (around : Around) (scope : Scope) (s : Statement) → SpellsStatement s → Holds AreFit (elaborate_statement around scope s)
  statement-fit around scope (Declare d) h = declaration-fit scope d h
  statement-fit around scope (DeclareArray n site kind name_site x size) h =
      then-any AreFit (when (is_in_kernel around) ArrayInBlock site scope) _ (λ outer. then-any AreFit (declare_array outer name_site x kind size) _ (λ inner. refl))
  statement-fit around scope (Assign a) h = single-assignment scope a h
  statement-fit around scope (If n site test taken skipped) h =
      then-holds IsProper AreFit (type_of scope.devices scope.visible test) _ (type-proper scope.devices scope.visible test h.0) (λ t p.
      then-holds AreFit AreFit (elaborate_all (inside around) scope taken) _ (all-fit (inside around) scope taken h.1) (λ a q.
      then-holds AreFit AreFit (elaborate_all (inside around) (leave_block scope a.scope) skipped) _ (all-fit (inside around) (leave_block scope a.scope) skipped h.2) (λ b r.
      single-fit (core.If n t.term a.statements b.statements) (both (is_proper_term t.term) (are_proper a.statements && are_proper b.statements) p (both (are_proper a.statements) (are_proper b.statements) q r)))))
  statement-fit around scope (While n site test body) h =
      then-holds IsProper AreFit (type_of scope.devices scope.visible test) _ (type-proper scope.devices scope.visible test h.0) (λ t p.
      then-holds AreFit AreFit (elaborate_all (InLoop n) scope body) _ (all-fit (InLoop n) scope body h.1) (λ b q.
      single-fit (core.Loop n t.term b.statements core.none) (both (is_proper_term t.term) (are_proper b.statements && true) p (both (are_proper b.statements) true q refl))))
  statement-fit around scope (For n site first test update body) h =
      then-holds AreFit AreFit (elaborate_first scope first) _ (first-fit scope first h.0) (λ f o.
      then-holds IsProper AreFit (type_of f.scope.devices f.scope.visible test) _ (type-proper f.scope.devices f.scope.visible test h.1) (λ t p.
      then-holds IsFit AreFit (elaborate_assignment f.scope update) _ (assignment-fit f.scope update h.2) (λ u r.
      then-holds AreFit AreFit (elaborate_all (InLoop n) f.scope body) _ (all-fit (InLoop n) f.scope body h.3) (λ b q.
      join-fit f.statements (single (core.Loop n t.term b.statements (single u))) o
      (single-fit (core.Loop n t.term b.statements (single u)) (both (is_proper_term t.term) (are_proper b.statements && are_proper (single u)) p (both (are_proper b.statements) (are_proper (single u)) q (single-fit u r))))))))
  statement-fit around scope (Barrier n site flags) h = then-holds IsFit AreFit (barrier_of n flags) _ (barrier-fit n flags) (λ s p. single-fit s p)
  statement-fit around scope (Jump n site jump) h = then-holds IsFit AreFit (jump_to n site around jump) _ (jump-fit n site around jump) (λ s p. single-fit s p)
  statement-fit around scope (Block n site body) h = then-holds AreFit AreFit (elaborate_all (inside around) scope body) _ (all-fit (inside around) scope body h) (λ b q. q)

  all-fit : (around : Around) (scope : Scope) (ss : Statements) → SpellsStatements ss → Holds AreFit (elaborate_all around scope ss)
  all-fit around scope none h = refl
  all-fit around scope (one s ss) h =
      then-holds AreFit AreFit (elaborate_statement around scope s) _ (statement-fit around scope s h.0) (λ a p.
      then-holds AreFit AreFit (elaborate_all around a.scope ss) _ (all-fit around a.scope ss h.1) (λ b q. join-fit a.statements b.statements p q))

abbrev IsFitKernel : launch.Kernel → Type 0
IsFitKernel k = are_proper k.body ≡ true

elaborated-fit : (d : Devices) (tree : Kernel) → SpellsStatements tree.body → Holds IsFitKernel (elaborate d tree)
unfolding elaborate elaborate_inside
elaborated-fit d tree h =
    then-any IsFitKernel (when (may_name_kernel tree.name) NameTwice tree.name_site (empty_scope d)) _ (λ outside. then-any IsFitKernel (declare_parameters (empty_scope d) tree.parameters) _ (λ outer.
    then-holds AreFit IsFitKernel (elaborate_all InKernel outer tree.body) _ (all-fit InKernel outer tree.body h) (λ b q. q)))

pub elaborated-proper : (d : Devices) (tree : Kernel) (k : launch.Kernel) → SpellsStatements tree.body → elaborate d tree ≡ Ok k → are_proper k.body ≡ true
elaborated-proper d tree k h e = held IsFitKernel (elaborate d tree) k e (elaborated-fit d tree h)
