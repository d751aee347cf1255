-- What is elaborated of statements names what is declared.
use Rattle.std.proofs.Common.{◌≡◌, ◌+◌, ℕ, List, Bool, true, false, arith, refl, ◌∙◌, length}
use Rattle.std.proofs.Common.{length-drop}
use Rattle.std.specs.Prelude.{Ok, drop, ◌-◌}
use Rattle.semantics.specs.Word.{Kind}
use Rattle.semantics.specs.Core as core
use Rattle.semantics.specs.Core.{Site}
use Rattle.semantics.specs.Launch as launch
use Rattle.texts.specs.Surface.{JumpWord, Return, Break, Continue, Statement, Declare, DeclareArray, Assign, If, While, For, Barrier, Jump, Block, Statements, none, one, Kernel}
use Rattle.types.specs.TypeFaults.{NameTwice, ArrayInBlock, JumpOutsideLoop, then, when, found}
use Rattle.types.specs.Scope.{Devices, Scope, empty_scope, leave_block, may_name_kernel, declare_array}
use Rattle.types.specs.Typing.{type_of}
use Rattle.types.specs.Elaboration.{Elaborated, elaborated, single, join, elaborate_assignment, elaborate_first, barrier_of, Around, InKernel, InLoop, is_in_kernel, inside, innermost_loop, jump_to, elaborate_statement, elaborate_all, declare_parameters, elaborate_inside, elaborate}
use Rattle.sound_cores.specs.Declarations.{Declared, declared_by, Within, AllWithin}
use Rattle.shown_kernels.proofs.Holding.{Holds, then-holds, then-any, held}
use Rattle.shown_kernels.proofs.Numbering.{barrier-holds}
use Rattle.shown_kernels.proofs.Growing.{Grows, grows-on, term-grows, statement-grows, all-grow, join-within}
use Rattle.shown_kernels.proofs.Scoping.{declared_in, AreSeen, are-there-grow, NextArray, array-declared, parameters-declared}
use Rattle.shown_kernels.proofs.TypedTerms.{IsIn, type-in}
use Rattle.shown_kernels.proofs.Assigning.{Behind, assignment-within, declaration-within, here, single-within, first-within}

-- names of a block go at its end
left-there : (scope : Scope) (inner : Scope) → AreSeen scope → Grows (declared_in scope) (declared_in inner) → AreSeen (leave_block scope inner)
left-there scope inner s g = are-there-grow (declared_in scope) (declared_in inner) g scope.visible s

left : (scope : Scope) (inner : Scope) (ss : core.Statements) → AreSeen scope → Grows (declared_in scope) (declared_in inner) → length inner.buffers ≡ length scope.buffers → AllWithin (declared_in inner) ss
    → Behind scope (elaborated ss (leave_block scope inner))
left scope inner ss s g e h = record { grows = g; there = left-there scope inner s g; buffers = e; within = h }

array-within : (scope : Scope) → AreSeen scope → (kind : Kind) (name_site : Site) (x : List ℕ) (size : ℕ) (top : Bool) (site : Site)
    → Holds (Behind scope) (then (when top ArrayInBlock site scope) (λ outer. then (declare_array outer name_site x kind size) (λ inner. Ok (elaborated core.none inner))))
array-within scope h kind name_site x size true site =
    then-holds (NextArray scope) (Behind scope) (declare_array scope name_site x kind size) _ (array-declared scope name_site x kind size h) (λ inner n.
    record { grows = n.larger.grows; there = n.larger.there; buffers = n.buffers; within = tt })
array-within scope h kind name_site x size false site = tt

jump-within : (d : Declared) (n : ℕ) (site : Site) (around : Around) (jump : JumpWord) → Holds (Within d) (jump_to n site around jump)
jump-within d n site around Return = tt
jump-within d n site around Break = then-any (Within d) (found (innermost_loop around) JumpOutsideLoop site) _ (λ loop. tt)
jump-within d n site around Continue = then-any (Within d) (found (innermost_loop around) JumpOutsideLoop site) _ (λ loop. tt)

mutual
  unfolding elaborate_statement elaborate_all

  statement-within : (around : Around) (scope : Scope) → AreSeen scope → (s : Statement) → Holds (Behind scope) (elaborate_statement around scope s)
  statement-within around scope h (Declare d) = declaration-within scope h d
  statement-within around scope h (DeclareArray n site kind name_site x size) =
      array-within scope h kind name_site x size (is_in_kernel around) site
  statement-within around scope h (Assign a) = single-within scope h a
  statement-within around scope h (If n site test taken skipped) =
      then-holds (IsIn (declared_in scope)) (Behind scope) (type_of scope.devices scope.visible test) _ (type-in scope.devices (declared_in scope) scope.visible h test) (λ t p.
      then-holds (Behind scope) (Behind scope) (elaborate_all (inside around) scope taken) _ (all-within (inside around) scope h taken) (λ a q.
      then-holds (Behind (leave_block scope a.scope)) (Behind scope) (elaborate_all (inside around) (leave_block scope a.scope) skipped) _
      (all-within (inside around) (leave_block scope a.scope) (left-there scope a.scope h q.grows) skipped) (λ b r.
      let g : Grows (declared_in scope) (declared_in b.scope) = grows-on (declared_in scope) (declared_in a.scope) (declared_in b.scope) q.grows r.grows in
      left scope b.scope (single (core.If n t.term a.statements b.statements)) h g (r.buffers ∙ q.buffers)
      ((term-grows (declared_in scope) (declared_in b.scope) g t.term p, all-grow (declared_in a.scope) (declared_in b.scope) r.grows a.statements q.within, r.within), tt))))
  statement-within around scope h (While n site test body) =
      then-holds (IsIn (declared_in scope)) (Behind scope) (type_of scope.devices scope.visible test) _ (type-in scope.devices (declared_in scope) scope.visible h test) (λ t p.
      then-holds (Behind scope) (Behind scope) (elaborate_all (InLoop n) scope body) _ (all-within (InLoop n) scope h body) (λ b q.
      left scope b.scope (single (core.Loop n t.term b.statements core.none)) h q.grows q.buffers
      ((term-grows (declared_in scope) (declared_in b.scope) q.grows t.term p, q.within, tt), tt)))
  statement-within around scope h (For n site first test update body) =
      then-holds (Behind scope) (Behind scope) (elaborate_first scope first) _ (first-within scope h first) (λ f o.
      then-holds (IsIn (declared_in f.scope)) (Behind scope) (type_of f.scope.devices f.scope.visible test) _ (type-in f.scope.devices (declared_in f.scope) f.scope.visible o.there test) (λ t p.
      then-holds (Within (declared_in f.scope)) (Behind scope) (elaborate_assignment f.scope update) _ (assignment-within f.scope o.there update) (λ u r.
      then-holds (Behind f.scope) (Behind scope) (elaborate_all (InLoop n) f.scope body) _ (all-within (InLoop n) f.scope o.there body) (λ b q.
      let g : Grows (declared_in scope) (declared_in b.scope) = grows-on (declared_in scope) (declared_in f.scope) (declared_in b.scope) o.grows q.grows in
      left scope b.scope (join f.statements (single (core.Loop n t.term b.statements (single u)))) h g (q.buffers ∙ o.buffers)
      (join-within (declared_in b.scope) f.statements (single (core.Loop n t.term b.statements (single u))) (all-grow (declared_in f.scope) (declared_in b.scope) q.grows f.statements o.within)
      ((term-grows (declared_in f.scope) (declared_in b.scope) q.grows t.term p, q.within, (statement-grows (declared_in f.scope) (declared_in b.scope) q.grows u r, tt)), tt))))))
  statement-within around scope h (Barrier n site flags) =
      then-holds (Within (declared_in scope)) (Behind scope) (barrier_of n flags) _ (barrier-holds (Within (declared_in scope)) n (λ l g. tt) flags) (λ s p. here scope h (single s) (p, tt))
  statement-within around scope h (Jump n site jump) =
      then-holds (Within (declared_in scope)) (Behind scope) (jump_to n site around jump) _ (jump-within (declared_in scope) n site around jump) (λ s p. here scope h (single s) (p, tt))
  statement-within around scope h (Block n site body) =
      then-holds (Behind scope) (Behind scope) (elaborate_all (inside around) scope body) _ (all-within (inside around) scope h body) (λ b q. left scope b.scope b.statements h q.grows q.buffers q.within)

  all-within : (around : Around) (scope : Scope) → AreSeen scope → (ss : Statements) → Holds (Behind scope) (elaborate_all around scope ss)
  all-within around scope h none = here scope h core.none tt
  all-within around scope h (one s ss) =
      then-holds (Behind scope) (Behind scope) (elaborate_statement around scope s) _ (statement-within around scope h s) (λ a p.
      then-holds (Behind a.scope) (Behind scope) (elaborate_all around a.scope ss) _ (all-within around a.scope p.there ss) (λ b q.
      record {
        grows = grows-on (declared_in scope) (declared_in a.scope) (declared_in b.scope) p.grows q.grows;
        there = q.there;
        buffers = q.buffers ∙ p.buffers;
        within = join-within (declared_in b.scope) a.statements b.statements (all-grow (declared_in a.scope) (declared_in b.scope) q.grows a.statements p.within) q.within;
      }))

abbrev IsWithin : launch.Kernel → Type 0
IsWithin k = AllWithin (declared_by k) k.body

-- what the body declares stands behind the parameters
grown : (outer : Scope) (b : Elaborated) → Behind outer b → (a c : ℕ) → a ≡ length outer.slots + length (drop (length outer.slots) b.scope.slots) → c ≡ length outer.buffers
    → Grows (declared_in b.scope) (record { slots = a; buffers = c; arrays = length b.scope.arrays })
grown outer b h a c e f =
    let k : length (drop (length outer.slots) b.scope.slots) ≡ length b.scope.slots - length outer.slots = length-drop (length outer.slots) b.scope.slots in
    record { slots = omega (arith, e, k); buffers = omega (arith, f, h.buffers); arrays = omega arith }

kernel-within : (d : Devices) (tree : Kernel) → Holds IsWithin (elaborate d tree)
unfolding elaborate elaborate_inside
kernel-within d tree =
    then-any IsWithin (when (may_name_kernel tree.name) NameTwice tree.name_site (empty_scope d)) _ (λ outside. then-holds AreSeen IsWithin (declare_parameters (empty_scope d) tree.parameters) _ (parameters-declared (empty_scope d) tree.parameters tt) (λ outer s.
    then-holds (Behind outer) IsWithin (elaborate_all InKernel outer tree.body) _ (all-within InKernel outer s tree.body) (λ b h.
    all-grow (declared_in b.scope) _ (grown outer b h (length outer.slots + length (drop (length outer.slots) b.scope.slots)) (length outer.buffers) refl refl) b.statements h.within)))

pub elaborated-within : (d : Devices) (tree : Kernel) (k : launch.Kernel) → elaborate d tree ≡ Ok k → AllWithin (declared_by k) k.body
elaborated-within d tree k e = held IsWithin (elaborate d tree) k e (kernel-within d tree)
