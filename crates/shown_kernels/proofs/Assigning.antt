-- What is elaborated of assignments and declarations names what is declared.
use Rattle.std.proofs.Common.{◌≡◌, ◌<◌, ℕ, refl, length}
use Rattle.std.specs.Prelude.{Option, Some, None, Ok}
use Rattle.semantics.specs.Word.{Kind}
use Rattle.semantics.specs.Core as core
use Rattle.semantics.specs.Core.{Site}
use Rattle.texts.specs.Surface.{Arithmetic, LeftShift, RightShift, AssignSign, Plain, With, WithLeftShift, WithRightShift, Expression, Declaration, Assignment, First, FirstDeclares, FirstAssigns}
use Rattle.types.specs.TypeFaults.{UnknownName, LoadInCompoundIndex, WriteToConst, then, when, found}
use Rattle.types.specs.Scope.{Meaning, VariableAt, ArrayAt, Scope, meaning_of, declare_variable}
use Rattle.types.specs.Typing.{TypedTerm, typed, bring, type_of}
use Rattle.types.specs.Elaboration.{Elaborated, elaborated, single, assigned, first_load, without_load, site_or, target_array, target_slot, assign_to, elaborate_assignment, elaborate_declaration, elaborate_first}
use Rattle.sound_cores.specs.Declarations.{Declared, Within, AllWithin}
use Rattle.shown_kernels.proofs.Holding.{Holds, then-holds, when-holds}
use Rattle.shown_kernels.proofs.Growing.{Grows, grows-same, term-grows}
use Rattle.shown_kernels.proofs.Scoping.{declared_in, IsThere, AreSeen, found-there, NextSlot, variable-declared}
use Rattle.shown_kernels.proofs.TypedTerms.{IsIn, IsArrayOf, bring-in, infix-in, type-in}

-- what stands behind a scope: it has what the scope has, as many buffers, and the statements are of it
pub record Behind (scope : Scope) (e : Elaborated) : Type 0 where
  pub grows : Grows (declared_in scope) (declared_in e.scope)
  pub there : AreSeen e.scope
  pub buffers : length e.scope.buffers ≡ length scope.buffers
  pub within : AllWithin (declared_in e.scope) e.statements

assigned-in : (d : Declared) (sign : AssignSign) (site : Site) (e : Expression) (old new : TypedTerm) → IsIn d old → IsIn d new → Holds (IsIn d) (assigned sign site e old new)
assigned-in d Plain site e old new h k = k
assigned-in d (With op) site e old new h k = infix-in d (Arithmetic op) site e old new h k
assigned-in d WithLeftShift site e old new h k = infix-in d LeftShift site e old new h k
assigned-in d WithRightShift site e old new h k = infix-in d RightShift site e old new h k

abbrev IsSlotOf : Declared → ℕ × Kind → Type 0
IsSlotOf d x = x.0 < d.slots

slot-there : (d : Declared) (site : Site) (m : Meaning) → IsThere d m → Holds (IsSlotOf d) (target_slot site m)
slot-there d site (VariableAt slot kind) h = h
slot-there d site (ArrayAt array kind writable) h = tt

array-there : (d : Declared) (site : Site) (m : Meaning) → IsThere d m → Holds (IsArrayOf d) (target_array site m)
array-there d site (VariableAt slot kind) h = tt
array-there d site (ArrayAt array kind writable) h = when-holds (IsArrayOf d) writable WriteToConst site (array, kind) h

assign-within : (scope : Scope) → AreSeen scope → (a : Assignment) (m : Meaning) → IsThere (declared_in scope) m → (index : Option Expression) → Holds (Within (declared_in scope)) (assign_to scope a m index)
assign-within scope s a m h None =
    let d : Declared = declared_in scope in
    then-holds (IsSlotOf d) (Within d) (target_slot a.site m) _ (slot-there d a.site m h) (λ x o.
    then-holds (IsIn d) (Within d) (type_of scope.devices scope.visible a.value) _ (type-in scope.devices d scope.visible s a.value) (λ v p.
    then-holds (IsIn d) (Within d) (assigned a.sign a.sign_site a.value (typed x.1 (core.Variable x.0)) v) _ (assigned-in d a.sign a.sign_site a.value (typed x.1 (core.Variable x.0)) v o p) (λ w q.
    (o, bring-in d x.1 a.site w q))))
assign-within scope s a m h (Some index) =
    let d : Declared = declared_in scope in
    then-holds (IsArrayOf d) (Within d) (target_array a.site m) _ (array-there d a.site m h) (λ x o.
    then-holds (IsIn d) (Within d) (type_of scope.devices scope.visible index) _ (type-in scope.devices d scope.visible s index) (λ i r.
    then-holds (IsIn d) (Within d) (when (without_load a.sign (first_load index)) LoadInCompoundIndex (site_or (first_load index) a.site) i) _
    (when-holds (IsIn d) (without_load a.sign (first_load index)) LoadInCompoundIndex (site_or (first_load index) a.site) i r) (λ j t.
    then-holds (IsIn d) (Within d) (type_of scope.devices scope.visible a.value) _ (type-in scope.devices d scope.visible s a.value) (λ v p.
    then-holds (IsIn d) (Within d) (assigned a.sign a.sign_site a.value (typed x.1 (core.Load x.0 a.site j.term)) v) _ (assigned-in d a.sign a.sign_site a.value (typed x.1 (core.Load x.0 a.site j.term)) v (o, t) p) (λ w q.
    (o, t, bring-in d x.1 a.site w q))))))

pub assignment-within : (scope : Scope) → AreSeen scope → (a : Assignment) → Holds (Within (declared_in scope)) (elaborate_assignment scope a)
unfolding elaborate_assignment
assignment-within scope s a =
    then-holds (IsThere (declared_in scope)) (Within (declared_in scope)) (found (meaning_of scope.visible a.name) UnknownName a.site) _ (found-there (declared_in scope) scope.visible a.site a.name s)
    (λ m h. assign-within scope s a m h a.index)

pub declaration-within : (scope : Scope) → AreSeen scope → (d : Declaration) → Holds (Behind scope) (elaborate_declaration scope d)
unfolding elaborate_declaration
declaration-within scope s d =
    then-holds (IsIn (declared_in scope)) (Behind scope) (type_of scope.devices scope.visible d.value) _ (type-in scope.devices (declared_in scope) scope.visible s d.value) (λ v p.
    then-holds (NextSlot scope) (Behind scope) (declare_variable scope d.name_site d.name d.kind) _ (variable-declared scope d.name_site d.name d.kind s) (λ inner n.
    record {
      grows = n.larger.grows;
      there = n.larger.there;
      buffers = n.buffers;
      within = ((n.slot, term-grows (declared_in scope) (declared_in inner) n.larger.grows (bring d.kind d.name_site v) (bring-in (declared_in scope) d.kind d.name_site v p)), tt);
    }))

-- statements that declare nothing
pub here : (scope : Scope) → AreSeen scope → (ss : core.Statements) → AllWithin (declared_in scope) ss → Behind scope (elaborated ss scope)
here scope s ss h = record { grows = grows-same (declared_in scope); there = s; buffers = refl; within = h }

pub single-within : (scope : Scope) → AreSeen scope → (a : Assignment) → Holds (Behind scope) (then (elaborate_assignment scope a) (λ s. Ok (elaborated (single s) scope)))
single-within scope s a = then-holds (Within (declared_in scope)) (Behind scope) (elaborate_assignment scope a) _ (assignment-within scope s a) (λ t p. here scope s (single t) (p, tt))

pub first-within : (scope : Scope) → AreSeen scope → (f : First) → Holds (Behind scope) (elaborate_first scope f)
first-within scope s (FirstDeclares d) = declaration-within scope s d
first-within scope s (FirstAssigns a) = single-within scope s a
