-- The functions that stand before a kernel in its file, each written out once, in order: it may call those in front of it (C99 6.9.1;
-- OpenCL 1.2, 6.9 i). Its parameters have the first slots, then come those of what it returns.
use Rattle.std.specs.Prelude.{ℕ, ◌-◌, List, [], ◌∷◌, ◌++◌, length, map, Bool, true, false, cond, not, ◌||◌, ◌&&◌, nat_eq, Option, None, Some, Ok}
use Rattle.semantics.specs.Word.{Kind}
use Rattle.semantics.specs.Core as core
use Rattle.semantics.specs.Core.{Site, Array}
use Rattle.semantics.specs.Launch.{Three}
use Rattle.opencl_tree.specs.Types.{Space, Global, Local, Constant, Private, Qualifiers}
use Rattle.opencl_tree.specs.Tree.{Statements}
use Rattle.opencl_files.specs.FileTree.{Parameter, Header}
use Rattle.opencl_terms.specs.Types.{Scalar, ValueType, kind_of, stored_kind}
use Rattle.opencl_values.specs.Faults.{Checked, WrongType, LeftOut, Pointer, PrivateArray, refused, then, when}
use Rattle.opencl_values.specs.Scope.{Binding, ArrayOf, PointerOf}
use Rattle.opencl_values.specs.Names.{type_of_base, type_without_stars}
use Rattle.opencl_core.specs.Templates.{Taken, TakesValue, TakesArray, Returned, Text, Template, Returning, OfKernel, OfFunction, as_helper, text_waits}
use Rattle.opencl_core.specs.Rooms.{Room, next_slot, next_slots, all_made_up, declared, variable_declared, ended}
use Rattle.opencl_core.specs.Assigning.{is_void}
use Rattle.opencl_core.specs.Declaring.{element_of_type, pointer_named}
use Rattle.opencl_core.specs.Heads.{Named, named_by, next_buffer}
use Rattle.opencl_core.specs.Tails.{write_tail}
use Rattle.opencl_core.specs.Outsides.{empty_room}

-- a parameter that is a value
abbrev pub take_value : Named → (is_constant : Bool) → Room → Checked (Taken × Room)
take_value p constant r =
    then (next_slots p.site p.type.width r) (λ slot. then (variable_declared p.site p.name p.type constant r) (λ d.
    Ok (TakesValue p.type slot, d)))

-- one that is a pointer is an array of the text's own
abbrev pub own_array : (number : ℕ) → Array
own_array n = record { space = core.Global; number = n }

abbrev pub with_buffer : Scalar → Room → Room
with_buffer s r = record r { buffers = r.buffers ++ stored_kind s ∷ [] }

abbrev pub take_whole : (space : core.Space) → Named → (is_constant : Bool) → (number : ℕ) → Room → Checked (Taken × Room)
take_whole space p constant n r =
    then (declared p.site p.name (ArrayOf (own_array n) p.type [] constant) r) (λ d. Ok (TakesArray space p.type constant None, d))

-- an offset into it is in a slot
abbrev pub take_moved : (space : core.Space) → Named → (is_constant : Bool) → (number : ℕ) → Room → Checked (Taken × Room)
take_moved space p constant n r =
    then (next_slot p.site r) (λ slot. then (pointer_named p.site p.name (PointerOf (own_array n) p.type constant None None slot) r) (λ d.
    Ok (TakesArray space p.type constant (Some slot), d)))

abbrev pub take_number : (is_moved : Bool) → (space : core.Space) → Named → (is_constant : Bool) → (number : ℕ) → Room → Checked (Taken × Room)
take_number is_moved space p constant n r = cond is_moved (take_moved space p constant n r) (take_whole space p constant n r)

abbrev pub take_array : (is_moved : Bool) → (space : core.Space) → Named → (is_constant : Bool) → Room → Checked (Taken × Room)
take_array is_moved space p constant r =
    then (element_of_type p.site p.type) (λ s. then (next_buffer p.site r) (λ n. then (take_number is_moved space p constant n r) (λ x.
    Ok (x.0, with_buffer s x.1))))

abbrev pub take_pointer : (is_moved : Bool) → Named → Qualifiers → Option Space → Room → Checked (Taken × Room)
take_pointer is_moved p q (Some Global) r = take_array is_moved core.Global p q.constant r
take_pointer is_moved p q (Some Constant) r = take_array is_moved core.Global p true r
take_pointer is_moved p q (Some Local) r = take_array is_moved core.Local p q.constant r
take_pointer is_moved p q (Some Private) r = refused (LeftOut Pointer) p.site
take_pointer is_moved p q None r = refused (LeftOut Pointer) p.site

abbrev pub take_plain : Named → Qualifiers → Option Space → Room → Checked (Taken × Room)
take_plain p q None r = take_value p q.constant r
take_plain p q (Some Private) r = take_value p q.constant r
take_plain p q (Some s) r = refused WrongType p.site

abbrev pub take_named : (is_moved : Bool) → Named → Qualifiers → List Qualifiers → Room → Checked (Taken × Room)
take_named is_moved p q stars r =
    cond (nat_eq (length stars) 0) (take_plain p q q.space r)
    (cond (nat_eq (length stars) 1) (take_pointer is_moved p q q.space r) (refused (LeftOut Pointer) p.site))

abbrev pub take_parameter : (is_moved : Bool) → Parameter → Room → Checked (Taken × Room)
take_parameter is_moved p r = then (named_by p r) (λ n. take_named is_moved n p.qualifiers p.stars r)

abbrev pub take_parameters : (is_moved : Bool) → List Parameter → (so : List Taken) → Room → Checked (List Taken × Room)
take_parameters is_moved [] so r = Ok (so, r)
take_parameters is_moved (p ∷ ps) so r = then (take_parameter is_moved p r) (λ x. take_parameters is_moved ps (so ++ x.0 ∷ []) x.1)

-- the slots of what a function returns
abbrev pub returning_in : Site → ValueType → (slot : ℕ) → Room → Room
returning_in at t slot r =
    record (all_made_up at (kind_of r.ids t.scalar) t.width r) { returns = OfFunction (Some (record { type = t; slot = slot })) }

abbrev pub with_slots_for : Header → Room → Checked Room
with_slots_for h r =
    then (type_of_base r.visible h.base h.site) (λ b. then (type_without_stars h.site h.stars b) (λ t.
    then (next_slots h.site t.width r) (λ slot. Ok (returning_in h.site t slot r))))

abbrev pub with_returns : Header → Room → Checked Room
with_returns h r = cond (is_void h.base h.stars) (Ok r) (with_slots_for h r)

abbrev pub result_in : Returning → Option Returned
result_in OfKernel = None
result_in (OfFunction x) = x

abbrev pub text_in : List Taken → Room → Text
text_in ps r = record {
  parameters = ps;
  result = result_in r.returns;
  slots = r.slots;
  count = r.next - 1;
  body = r.written;
  standings = r.names.statements;
  variables = map (ended (r.next - 1)) r.names.variables;
}

abbrev pub has_arrays : Room → Bool
has_arrays r = not (nat_eq (length r.arrays) 0)

-- a function has no arrays of its own as yet
abbrev pub finished_text : Site → List Taken → Room → Checked Text
finished_text at ps r = when (not (has_arrays r)) (LeftOut PrivateArray) at (text_in ps r)

-- what functions stand in: the kind of ids and sizes, the sizes of a work-group, and the names of the file
pub record Surroundings : Type 0 where
  pub ids : Kind
  pub sizes : Three ℕ
  pub outside : List Binding

abbrev pub helper_room : Surroundings → List Template → Room
helper_room s ts = record (empty_room s.ids s.sizes s.outside) { helpers = map as_helper ts; templates = ts; returns = OfFunction None }

abbrev pub text_of : (is_moved : Bool) → Surroundings → List Template → Header → Statements → Checked Text
text_of is_moved s ts h body =
    then (take_parameters is_moved h.parameters [] (helper_room s ts)) (λ p. then (with_returns h p.1) (λ q. then (write_tail body q) (λ w.
    finished_text h.site p.0 w)))

-- whether a function may store to what a parameter points to
abbrev pub may_store_to : Parameter → Bool
may_store_to p = not (nat_eq (length p.stars) 0) && not p.qualifiers.constant

abbrev pub any_stored_to : List Parameter → Bool
any_stored_to [] = false
any_stored_to (p ∷ ps) = may_store_to p || any_stored_to ps

abbrev pub template : Header → (whole moved : Checked Text) → Template
template h x y = record { name = h.name; stores = any_stored_to h.parameters || (text_waits x || text_waits y); whole = x; moved = y }

abbrev pub template_of : Surroundings → List Template → Header → Statements → Template
template_of s ts h body = template h (text_of false s ts h body) (text_of true s ts h body)

abbrev pub templates_behind : Surroundings → List Template → List (Header × Statements) → List Template
templates_behind s ts [] = ts
templates_behind s ts (f ∷ fs) = templates_behind s (ts ++ template_of s ts f.0 f.1 ∷ []) fs

abbrev pub templates_of : Surroundings → List (Header × Statements) → List Template
templates_of s fs = templates_behind s [] fs
