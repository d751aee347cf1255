-- What is elaborated of statements that are numbered in the order of the source is ordered.
use Rattle.std.proofs.Common.{◌≡◌, ℕ, ◌+◌, ◌≤◌, ◌<◌, List, [], ◌∷◌, Bool, true, ◌&&◌, ◌||◌, not, refl, ap, sym, ◌∙◌, subst, length, arith}
use Rattle.std.specs.Prelude.{Option, Some, None, Ok}
use Rattle.semantics.specs.Word.{Add, Subtract, Multiply, Divide, Remainder, BitAnd, BitOr, BitXor}
use Rattle.semantics.specs.Core as core
use Rattle.semantics.specs.Core.{Site}
use Rattle.semantics.specs.Launch as launch
use Rattle.texts.specs.Surface.{Arithmetic, LeftShift, RightShift, Comparison, LogicalAnd, LogicalOr, Expression, Number, Name, Element, Call, Prefix, Cast, Infix, Conditional, Declaration, Assignment, First, FirstDeclares, FirstAssigns, JumpWord, Return, Break, Continue, Statement, Declare, DeclareArray, Assign, If, While, For, Barrier, Jump, Block, Statements, none, one, Kernel, site_of}
use Rattle.texts.specs.KernelLimits.{statements_in, statements_of}
use Rattle.types.specs.TypeFaults.{UnknownName, NameTwice, LoadInCompoundIndex, ArrayInBlock, BarrierFlags, then, when, found}
use Rattle.types.specs.Scope.{Devices, Meaning, Scope, empty_scope, meaning_of, leave_block, may_name_kernel, declare_variable, declare_array}
use Rattle.texts.specs.Spelling.{IsNumbered, AreNumbered, first_number}
use Rattle.types.specs.Typing.{typed, bring, type_of}
use Rattle.types.specs.Elaboration.{Elaborated, elaborated, single, join, assigned, first_load, without_load, site_or, target_array, target_slot, assign_to, elaborate_assignment, elaborate_declaration, elaborate_first, one_flag, barrier_of, Around, InKernel, InBlock, InLoop, is_in_kernel, inside, innermost_loop, jump_to, elaborate_statement, elaborate_all, declare_parameters, elaborate_inside, elaborate}
use Rattle.lanes.specs.Order.{AllNumbered}
use Rattle.sound_cores.specs.Told.{AreTold}
use Rattle.shown_kernels.proofs.Holding.{Holds, then-holds, then-any, when-holds, held}
use Rattle.shown_kernels.proofs.Mapping.{mapped}
use Rattle.shown_kernels.proofs.Ordering.{Ordered, innermost, wider, nothing-ordered, follows}
use Rattle.shown_kernels.proofs.Composing.{IsStep, AreStep, step-ordered, barrier-ordered, return-ordered, break-ordered, continue-ordered, if-ordered, while-ordered, for-ordered}

abbrev AreFrom : (loops : List ℕ) (low high : ℕ) → Elaborated → Type 0
AreFrom loops low high e = Ordered loops low high e.statements

abbrev AreOneStep : ℕ → Elaborated → Type 0
AreOneStep n e = AreStep n e.statements

assign-steps : (scope : Scope) (a : Assignment) (m : Meaning) (index : Option Expression) → Holds (IsStep a.number) (assign_to scope a m index)
assign-steps scope a m None =
    then-any (IsStep a.number) (target_slot a.site m) _ (λ x. then-any (IsStep a.number) (type_of scope.devices scope.visible a.value) _ (λ v.
    then-any (IsStep a.number) (assigned a.sign a.sign_site a.value (typed x.1 (core.Variable x.0)) v) _ (λ w. (refl, tt))))
assign-steps scope a m (Some index) =
    then-any (IsStep a.number) (target_array a.site m) _ (λ x. then-any (IsStep a.number) (type_of scope.devices scope.visible index) _ (λ i.
    then-any (IsStep a.number) (when (without_load a.sign (first_load index)) LoadInCompoundIndex (site_or (first_load index) a.site) i) _ (λ j.
    then-any (IsStep a.number) (type_of scope.devices scope.visible a.value) _ (λ v.
    then-any (IsStep a.number) (assigned a.sign a.sign_site a.value (typed x.1 (core.Load x.0 a.site j.term)) v) _ (λ w. (refl, tt))))))

assignment-steps : (scope : Scope) (a : Assignment) → Holds (IsStep a.number) (elaborate_assignment scope a)
unfolding elaborate_assignment
assignment-steps scope a = then-any (IsStep a.number) (found (meaning_of scope.visible a.name) UnknownName a.site) _ (λ m. assign-steps scope a m a.index)

declaration-steps : (scope : Scope) (d : Declaration) → Holds (AreOneStep d.number) (elaborate_declaration scope d)
unfolding elaborate_declaration
declaration-steps scope d =
    then-any (AreOneStep d.number) (type_of scope.devices scope.visible d.value) _ (λ v. then-any (AreOneStep d.number) (declare_variable scope d.name_site d.name d.kind) _ (λ inner.
    (core.Set d.number (length scope.slots) (bring d.kind d.name_site v), refl, (refl, tt))))

single-steps : (scope : Scope) (a : Assignment) → Holds (AreOneStep a.number) (then (elaborate_assignment scope a) (λ s. Ok (elaborated (single s) scope)))
single-steps scope a = then-holds (IsStep a.number) (AreOneStep a.number) (elaborate_assignment scope a) _ (assignment-steps scope a) (λ s p. (s, refl, p))

first-steps : (scope : Scope) (f : First) → Holds (AreOneStep (first_number f)) (elaborate_first scope f)
first-steps scope (FirstDeclares d) = declaration-steps scope d
first-steps scope (FirstAssigns a) = single-steps scope a

-- whatever the flags
flags-hold : (P : core.Statement → Type 0) (n : ℕ) → ((l g : Bool) → P (core.Barrier n l g)) → (flags : Expression) → Holds P (then (one_flag flags) (λ local. Ok (core.Barrier n local (not local))))
flags-hold P n k flags = then-any P (one_flag flags) _ (λ local. k local (not local))

pub barrier-holds : (P : core.Statement → Type 0) (n : ℕ) → ((l g : Bool) → P (core.Barrier n l g)) → (flags : Expression) → Holds P (barrier_of n flags)
barrier-holds P n k (Infix site (Arithmetic BitOr) left right) =
    then-any P (one_flag left) _ (λ a. then-any P (one_flag right) _ (λ b.
    when-holds P ((a && not b) || (not a && b)) BarrierFlags (site_of right) (core.Barrier n true true) (k true true)))
barrier-holds P n k (Infix site (Arithmetic Add) left right) = flags-hold P n k (Infix site (Arithmetic Add) left right)
barrier-holds P n k (Infix site (Arithmetic Subtract) left right) = flags-hold P n k (Infix site (Arithmetic Subtract) left right)
barrier-holds P n k (Infix site (Arithmetic Multiply) left right) = flags-hold P n k (Infix site (Arithmetic Multiply) left right)
barrier-holds P n k (Infix site (Arithmetic Divide) left right) = flags-hold P n k (Infix site (Arithmetic Divide) left right)
barrier-holds P n k (Infix site (Arithmetic Remainder) left right) = flags-hold P n k (Infix site (Arithmetic Remainder) left right)
barrier-holds P n k (Infix site (Arithmetic BitAnd) left right) = flags-hold P n k (Infix site (Arithmetic BitAnd) left right)
barrier-holds P n k (Infix site (Arithmetic BitXor) left right) = flags-hold P n k (Infix site (Arithmetic BitXor) left right)
barrier-holds P n k (Infix site LeftShift left right) = flags-hold P n k (Infix site LeftShift left right)
barrier-holds P n k (Infix site RightShift left right) = flags-hold P n k (Infix site RightShift left right)
barrier-holds P n k (Infix site (Comparison r) left right) = flags-hold P n k (Infix site (Comparison r) left right)
barrier-holds P n k (Infix site LogicalAnd left right) = flags-hold P n k (Infix site LogicalAnd left right)
barrier-holds P n k (Infix site LogicalOr left right) = flags-hold P n k (Infix site LogicalOr left right)
barrier-holds P n k (Number site kind v) = flags-hold P n k (Number site kind v)
barrier-holds P n k (Name site x) = flags-hold P n k (Name site x)
barrier-holds P n k (Element site x index) = flags-hold P n k (Element site x index)
barrier-holds P n k (Call site x arguments) = flags-hold P n k (Call site x arguments)
barrier-holds P n k (Prefix site sign e) = flags-hold P n k (Prefix site sign e)
barrier-holds P n k (Cast site kind e) = flags-hold P n k (Cast site kind e)
barrier-holds P n k (Conditional site test a b) = flags-hold P n k (Conditional site test a b)

step-from : (loops : List ℕ) (low high n m : ℕ) (c : Elaborated) → m ≡ n → low ≤ n → n < high → AreStep m c.statements → AreFrom loops low high c
step-from loops low high n m c e a b h = subst (Ordered loops low high) (sym h.1) (step-ordered loops low high m h.0 h.2 (omega (arith, e, a)) (omega (arith, e, b)))

-- the innermost of these loops is the one that statements there stand in
abbrev IsInnermost : Around → List ℕ → Type 0
IsInnermost around loops = innermost_loop around ≡ innermost loops

inside-same : (around : Around) → innermost_loop (inside around) ≡ innermost_loop around
inside-same InKernel = refl
inside-same InBlock = refl
inside-same (InLoop n) = refl

jump-ordered : (loops : List ℕ) (around : Around) (low high n : ℕ) (site : Site) (jump : JumpWord) → IsInnermost around loops → low ≤ n → n < high → Holds (λ s. Ordered loops low high (single s)) (jump_to n site around jump)
jump-ordered loops around low high n site Return e a b = return-ordered loops low high n a b
jump-ordered loops InKernel low high n site Break e a b = tt
jump-ordered loops InBlock low high n site Break e a b = tt
jump-ordered loops (InLoop k) low high n site Break e a b = break-ordered loops low high n k e a b
jump-ordered loops InKernel low high n site Continue e a b = tt
jump-ordered loops InBlock low high n site Continue e a b = tt
jump-ordered loops (InLoop k) low high n site Continue e a b = continue-ordered loops low high n k e a b

mutual
  unfolding elaborate_statement elaborate_all

  statement-ordered : (loops : List ℕ) (around : Around) → IsInnermost around loops → (scope : Scope) (n : ℕ) (s : Statement) → IsNumbered n s → Holds (AreFrom loops n (n + statements_in s)) (elaborate_statement around scope s)
  statement-ordered loops around e scope n (Declare d) h =
      mapped (AreOneStep d.number) (AreFrom loops n (n + 1)) (elaborate_declaration scope d) (λ c. step-from loops n (n + 1) n d.number c h (omega arith) (omega arith)) (declaration-steps scope d)
  statement-ordered loops around e scope n (DeclareArray m site kind name_site x size) h =
      then-any (AreFrom loops n (n + 1)) (when (is_in_kernel around) ArrayInBlock site scope) _ (λ outer. then-any (AreFrom loops n (n + 1)) (declare_array outer name_site x kind size) _ (λ inner. nothing-ordered loops n (n + 1)))
  statement-ordered loops around e scope n (Assign a) h =
      then-holds (IsStep a.number) (AreFrom loops n (n + 1)) (elaborate_assignment scope a) _ (assignment-steps scope a) (λ s p.
      step-ordered loops n (n + 1) a.number s p (omega (arith, h)) (omega (arith, h)))
  statement-ordered loops around e scope n (If m site test taken skipped) h =
      let high : ℕ = n + (1 + (statements_of taken + statements_of skipped)) in
      then-any (AreFrom loops n high) (type_of scope.devices scope.visible test) _ (λ t.
      then-holds (AreFrom loops (n + 1) (n + 1 + statements_of taken)) (AreFrom loops n high) (elaborate_all (inside around) scope taken) _ (all-ordered loops (inside around) (inside-same around ∙ e) scope (n + 1) taken h.1) (λ a q.
      then-holds (AreFrom loops (n + 1 + statements_of taken) (n + 1 + statements_of taken + statements_of skipped)) (AreFrom loops n high) (elaborate_all (inside around) (leave_block scope a.scope) skipped) _
      (all-ordered loops (inside around) (inside-same around ∙ e) (leave_block scope a.scope) (n + 1 + statements_of taken) skipped h.2) (λ b r.
      if-ordered loops n m (n + 1 + statements_of taken) (n + 1 + statements_of taken + statements_of skipped) high t.term a.statements b.statements h.0 (omega arith) (omega arith) (omega arith) q r)))
  statement-ordered loops around e scope n (While m site test body) h =
      let high : ℕ = n + (1 + statements_of body) in
      then-any (AreFrom loops n high) (type_of scope.devices scope.visible test) _ (λ t.
      then-holds (AreFrom (n ∷ loops) (n + 1) (n + 1 + statements_of body)) (AreFrom loops n high) (elaborate_all (InLoop m) scope body) _ (all-ordered (n ∷ loops) (InLoop m) (ap Some h.0) scope (n + 1) body h.1) (λ b q.
      while-ordered loops n m (n + 1 + statements_of body) high t.term b.statements h.0 (omega arith) (omega arith) q))
  statement-ordered loops around e scope n (For m site first test update body) h =
      let high : ℕ = n + (3 + statements_of body) in
      then-holds (AreOneStep (first_number first)) (AreFrom loops n high) (elaborate_first scope first) _ (first-steps scope first) (λ f o.
      then-any (AreFrom loops n high) (type_of f.scope.devices f.scope.visible test) _ (λ t.
      then-holds (IsStep update.number) (AreFrom loops n high) (elaborate_assignment f.scope update) _ (assignment-steps f.scope update) (λ u r.
      then-holds (AreFrom (n ∷ loops) (n + 3) (n + 3 + statements_of body)) (AreFrom loops n high) (elaborate_all (InLoop m) f.scope body) _ (all-ordered (n ∷ loops) (InLoop m) (ap Some h.0) f.scope (n + 3) body h.3) (λ b q.
      for-ordered loops n m (first_number first) update.number (n + 3 + statements_of body) high f.statements t.term b.statements u h.0 h.1 h.2 (omega arith) (omega arith) o r q))))
  statement-ordered loops around e scope n (Barrier m site flags) h =
      then-holds (λ s. Ordered loops n (n + 1) (single s)) (AreFrom loops n (n + 1)) (barrier_of m flags) _
      (barrier-holds (λ s. Ordered loops n (n + 1) (single s)) m (λ l g. barrier-ordered loops n (n + 1) m l g (omega (arith, h)) (omega (arith, h))) flags) (λ s p. p)
  statement-ordered loops around e scope n (Jump m site jump) h =
      then-holds (λ s. Ordered loops n (n + 1) (single s)) (AreFrom loops n (n + 1)) (jump_to m site around jump) _
      (jump-ordered loops around n (n + 1) m site jump e (omega (arith, h)) (omega (arith, h))) (λ s p. p)
  statement-ordered loops around e scope n (Block m site body) h =
      then-holds (AreFrom loops (n + 1) (n + 1 + statements_of body)) (AreFrom loops n (n + (1 + statements_of body))) (elaborate_all (inside around) scope body) _ (all-ordered loops (inside around) (inside-same around ∙ e) scope (n + 1) body h.1) (λ b q.
      wider loops (n + 1) (n + 1 + statements_of body) n (n + (1 + statements_of body)) b.statements (omega arith) (omega arith) q)

  all-ordered : (loops : List ℕ) (around : Around) → IsInnermost around loops → (scope : Scope) (n : ℕ) (ss : Statements) → AreNumbered n ss → Holds (AreFrom loops n (n + statements_of ss)) (elaborate_all around scope ss)
  all-ordered loops around e scope n none h = nothing-ordered loops n (n + 0)
  all-ordered loops around e scope n (one s ss) h =
      let high : ℕ = n + (statements_in s + statements_of ss) in
      then-holds (AreFrom loops n (n + statements_in s)) (AreFrom loops n high) (elaborate_statement around scope s) _ (statement-ordered loops around e scope n s h.0) (λ a p.
      then-holds (AreFrom loops (n + statements_in s) (n + statements_in s + statements_of ss)) (AreFrom loops n high) (elaborate_all around a.scope ss) _ (all-ordered loops around e a.scope (n + statements_in s) ss h.1) (λ b q.
      wider loops n (n + statements_in s + statements_of ss) n high (join a.statements b.statements) (omega arith) (omega arith)
      (follows loops n (n + statements_in s) (n + statements_in s + statements_of ss) a.statements b.statements (omega arith) (omega arith) p q)))

abbrev IsFrom : (low high : ℕ) → launch.Kernel → Type 0
IsFrom low high k = Ordered [] low high k.body

kernel-ordered : (d : Devices) (tree : Kernel) → AreNumbered 1 tree.body → Holds (IsFrom 1 (1 + statements_of tree.body)) (elaborate d tree)
unfolding elaborate elaborate_inside
kernel-ordered d tree h =
    then-any (IsFrom 1 (1 + statements_of tree.body)) (when (may_name_kernel tree.name) NameTwice tree.name_site (empty_scope d)) _ (λ outside. then-any (IsFrom 1 (1 + statements_of tree.body)) (declare_parameters (empty_scope d) tree.parameters) _ (λ outer.
    then-holds (AreFrom [] 1 (1 + statements_of tree.body)) (IsFrom 1 (1 + statements_of tree.body)) (elaborate_all InKernel outer tree.body) _ (all-ordered [] InKernel refl outer 1 tree.body h) (λ b q. q)))

pub elaborated-ordered : (d : Devices) (tree : Kernel) (k : launch.Kernel) → AreNumbered 1 tree.body → elaborate d tree ≡ Ok k → Ordered [] 1 (1 + statements_of tree.body) k.body
elaborated-ordered d tree k h e = held (IsFrom 1 (1 + statements_of tree.body)) (elaborate d tree) k e (kernel-ordered d tree h)

pub elaborated-told : (d : Devices) (tree : Kernel) (k : launch.Kernel) → AreNumbered 1 tree.body → elaborate d tree ≡ Ok k → AreTold k.body
elaborated-told d tree k h e = let o = elaborated-ordered d tree k h e in record { once = o.once; placed = o.placed }

pub elaborated-rises : (d : Devices) (tree : Kernel) (k : launch.Kernel) → AreNumbered 1 tree.body → elaborate d tree ≡ Ok k → AllNumbered [] 1 (1 + statements_of tree.body) k.body
elaborated-rises d tree k h e = (elaborated-ordered d tree k h e).rises
