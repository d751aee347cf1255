-- Calls of functions of the file: the arguments go into slots of their own, then stands the function's text (C99 6.5.2.2).
use Rattle.std.specs.Prelude.{ℕ, ◌+◌, ◌-◌, List, [], ◌∷◌, ◌++◌, length, map, Bool, true, false, cond, not, ◌&&◌, ◌||◌, nat_le, Option, None, Some, is_some, Ok, Err}
use Rattle.semantics.specs.Core as core
use Rattle.semantics.specs.Core.{Site}
use Rattle.kernel_names.specs.NameMap.{Variable, Standing}
use Rattle.opencl_tree.specs.Tree.{Expression, Name, Expressions, nothing, also}
use Rattle.opencl_terms.specs.Types.{ValueType}
use Rattle.core_moves.specs.Moving.{Target, Move, whole, moved_behind}
use Rattle.opencl_effects.specs.Effects.{is_helper}
use Rattle.opencl_effects.specs.Marks.{OfCall}
use Rattle.opencl_values.specs.Faults.{Checked, WrongType, TooMany, LeftOut, Pointer, Outside, refused, then, when, found}
use Rattle.opencl_values.specs.Scope.{Meaning, ArrayOf, UnreadOf, meaning_of}
use Rattle.opencl_values.specs.Wholes.{places, is_same_type}
use Rattle.opencl_values.specs.Vectors.{converted_to}
use Rattle.opencl_values.specs.Values.{value_of}
use Rattle.opencl_core.specs.BuiltIns.{is_built_in}
use Rattle.opencl_core.specs.Sites.{begin_of}
use Rattle.opencl_core.specs.Templates.{Taken, TakesValue, TakesArray, Returned, Text, Template, template_named}
use Rattle.opencl_core.specs.Rooms.{Room, known, set, with_drawn, most_slots, most_statements}
use Rattle.opencl_core.specs.Components.{is_same_space, set_picked}
use Rattle.opencl_core.specs.Pointing.{Pointed, pointed_in, offset_of}
use Rattle.opencl_core.specs.Flags.{is_hidden}

-- an array that a parameter may be bound to: of the parameter's space, with the same elements; no private array, and none whose elements
-- are seen as ones of another type
abbrev pub may_bind : (space : core.Space) → (element : ValueType) → Pointed → Bool
may_bind space t p = is_same_space space p.array.space && (is_same_type t p.element && not (is_some p.row || is_some p.over))

-- a constant array is bound to a parameter that stores nothing (C99 6.5.16.1, 6.5.2.2p2)
abbrev pub bound_to : Site → (space : core.Space) → (element : ValueType) → (is_constant : Bool) → Pointed → Checked Pointed
bound_to at space t constant p =
    then (when (may_bind space t p) (LeftOut Pointer) at p) (λ q. when (not q.is_constant || constant) WrongType at q)

-- the offset of what an argument points to goes into its slot
abbrev pub set_offset : Site → (base : ℕ) → (slot : Option ℕ) → (offset : Option core.Term) → Room → Checked Room
set_offset at base (Some slot) o r = set (base + slot) (offset_of o) at r
set_offset at base None None r = Ok r
set_offset at base None (Some o) r = refused (LeftOut Pointer) at

abbrev pub pointer_argument : Site → (base : ℕ) → Taken → Pointed → (so : List Target) → Room → Checked (List Target × Room)
pointer_argument at base (TakesArray space t constant slot) p so r =
    then (bound_to at space t constant p) (λ q. then (set_offset at base slot q.offset r) (λ w. Ok (so ++ whole q.array ∷ [], w)))
pointer_argument at base (TakesValue t slot) p so r = refused WrongType at

-- an argument is converted to the type of its parameter (6.5.2.2p7)
abbrev pub value_argument : Site → (base : ℕ) → ValueType → (slot : ℕ) → Expression → Room → Checked Room
value_argument at base t slot e r =
    then (value_of (known r) e) (λ v. then (converted_to r.ids at t v) (λ w. set_picked at (base + slot) w 0 (places t.width) r))

abbrev pub argument : Site → (base : ℕ) → Taken → Expression → (so : List Target) → Room → Checked (List Target × Room)
argument at base (TakesValue t slot) e so r = then (value_argument at base t slot e r) (λ w. Ok (so, w))
argument at base (TakesArray space t constant slot) e so r =
    then (pointed_in (begin_of e) e r) (λ p. pointer_argument (begin_of e) base (TakesArray space t constant slot) p so r)

-- the arguments, of which there have to be as many as parameters
abbrev pub arguments : Site → (base : ℕ) → List Taken → Expressions → (so : List Target) → Room → Checked (List Target × Room)
arguments at base [] nothing so r = Ok (so, r)
arguments at base [] (also e es) so r = refused WrongType at
arguments at base (p ∷ ps) nothing so r = refused WrongType at
arguments at base (p ∷ ps) (also e es) so r = then (argument at base p e so r) (λ x. arguments at base ps es x.0 x.1)

-- a text is put behind the statement of a number
abbrev pub moved_standing : (behind : ℕ) → Standing → Standing
moved_standing n s = record s { number = s.number + n; last = s.last + n }

abbrev pub moved_variable : (behind : ℕ) → Variable → Variable
moved_variable n v = record v { first = v.first + n; last = v.last + n }

abbrev pub move_of : (base : ℕ) → List Target → Room → Move
move_of base targets r = record { statements = r.next - 1; slots = base; arrays = targets }

abbrev pub with_text : Text → (base : ℕ) → List Target → Room → Room
with_text x base targets r = record r {
  slots = r.slots ++ x.slots;
  next = r.next + x.count;
  written = moved_behind (move_of base targets r) r.written x.body;
  names = record r.names {
    variables = r.names.variables ++ map (moved_variable (r.next - 1)) x.variables;
    statements = r.names.statements ++ map (moved_standing (r.next - 1)) x.standings;
  };
}

abbrev pub fits_text : Text → Room → Bool
fits_text x r = nat_le (length r.slots + length x.slots) most_slots && nat_le (r.next + x.count) (most_statements + 1)

abbrev pub put_text : Site → Text → (base : ℕ) → List Target → Room → Checked Room
put_text at x base targets r = when (fits_text x r) TooMany at (with_text x base targets r)

-- the value of the call is in the slots of the result
abbrev pub with_result : Site → (base : ℕ) → Option Returned → Room → Room
with_result at base None r = r
with_result at base (Some x) r = with_drawn OfCall at x.type (base + x.slot) r

-- the slot behind all others
abbrev pub base_of : Site → Room → Checked ℕ
base_of at r = when (nat_le (length r.slots) most_slots) TooMany at (length r.slots)

abbrev pub put_call : Site → Expressions → Text → Room → Checked Room
put_call at es x r =
    then (base_of at r) (λ base. then (arguments at base x.parameters es [] r) (λ a. then (put_text at x base a.0 a.1) (λ d.
    Ok (with_result at base x.result d))))

-- the name is that of the function, unless a variable hides it
abbrev pub is_unread : Option Meaning → Bool
is_unread None = true
is_unread (Some UnreadOf) = true
is_unread (Some m) = false

-- whether an argument for a pointer is a whole array: the name of one
abbrev pub is_array : Option Meaning → Bool
is_array (Some (ArrayOf a t lengths constant)) = true
is_array m = false

abbrev pub is_whole : Taken → Expression → Room → Bool
is_whole (TakesArray space t constant slot) (Name at name) r = is_array (meaning_of r.visible name)
is_whole (TakesArray space t constant slot) e r = false
is_whole (TakesValue t slot) e r = true

abbrev pub all_whole : List Taken → Expressions → Room → Bool
all_whole [] es r = true
all_whole (p ∷ ps) nothing r = true
all_whole (p ∷ ps) (also e es) r = is_whole p e r && all_whole ps es r

-- the text for whole arrays, where all are, and else that for offsets
abbrev pub chosen_text : (whole moved : Checked Text) → Expressions → Room → Checked Text
chosen_text (Ok x) moved es r = cond (all_whole x.parameters es r) (Ok x) moved
chosen_text (Err e) moved es r = moved

abbrev pub call_text : Site → (name : List ℕ) → Expressions → Template → Room → Checked Room
call_text at name es t r =
    then (when (is_unread (meaning_of r.visible name)) WrongType at t) (λ u. then (chosen_text u.whole u.moved es r) (λ x. put_call at es x r))

-- a function of the file; which one is called under the name of a built-in one, compilers choose by types
abbrev pub write_call : Site → (name : List ℕ) → Expressions → Room → Checked Room
write_call at name es r =
    cond (is_built_in name) (refused (LeftOut Outside) at)
    (then (found (template_named r.templates name) (LeftOut Outside) at) (λ t. call_text at name es t r))

-- arguments are drawn. What was written out is found by its place, so no other call of a function of the file may stand there
abbrev pub draw_call : Site → (name : List ℕ) → Expressions → Room → Checked Room
draw_call at name es r = cond (is_helper r.helpers name) (write_call at name es r) (when (not (is_hidden r name)) (LeftOut Outside) at r)
