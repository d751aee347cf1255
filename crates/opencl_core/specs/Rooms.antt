-- What is known where writing out has come to, and what was written so far: what names mean, what was declared, and the number of the
-- next core statement. The limits are ours, and count what was written out.
use Rattle.std.specs.Prelude.{ℕ, ◌+◌, ◌-◌, List, [], ◌∷◌, ◌++◌, length, take, drop, map, Bool, cond, not, ◌||◌, nat_le, nat_lt, Ok, is_some, codes}
use Rattle.semantics.specs.Word.{Kind}
use Rattle.semantics.specs.Core as core
use Rattle.semantics.specs.Core.{Site}
use Rattle.semantics.specs.Launch.{LocalArray, Three}
use Rattle.kernel_names.specs.NameMap as maps
use Rattle.kernel_names.specs.NameMap.{NameMap, Variable, Sort, Other, Standing, with_variable}
use Rattle.opencl_terms.specs.Types.{ValueType, kind_of}
use Rattle.opencl_effects.specs.Effects.{Helper}
use Rattle.opencl_effects.specs.Marks as marks
use Rattle.opencl_values.specs.Scope.{Binding, Drawn, Meaning, Names, VariableOf, meaning_of}
use Rattle.opencl_values.specs.Wholes.{places}
use Rattle.opencl_values.specs.Faults.{Checked, NameTwice, TooMany, when, then}
use Rattle.opencl_core.specs.Names.{is_taken}
use Rattle.opencl_core.specs.Templates.{Template, Returning}

-- `ids` is the kind of ids and sizes, `sizes` are those of a work-group. Of the names that are visible the first `around` are declared
-- around the innermost block. `drawn` are the values of expressions with effects that were written out. `helpers` and `templates` are the
-- functions of the file, `returns` is what a `return` does. `slots` are the kinds of all slots, of value parameters and then of variables.
-- `elements` counts those of all local arrays. `written` are the core statements of the part that is being written, and `names` is the map
-- of names, whose statements are those of this part and whose variables are those of this block
pub record Room : Type 0 where
  pub ids : Kind
  pub sizes : Three ℕ
  pub visible : List Binding
  pub drawn : List Drawn
  pub helpers : List Helper
  pub templates : List Template
  pub returns : Returning
  pub around : ℕ
  pub slots : List Kind
  pub arrays : List LocalArray
  pub elements : ℕ
  pub buffers : List Kind
  pub next : ℕ
  pub written : core.Statements
  pub names : NameMap

-- what terms of expressions depend on
abbrev pub known : Room → Names
known r = record { ids = r.ids; visible = r.visible; drawn = r.drawn }

abbrev pub most_statements : ℕ
most_statements = 4096

abbrev pub most_slots : ℕ
most_slots = 512

-- the last number of a name whose block has not ended yet: it is above all numbers
abbrev pub not_ended : ℕ
not_ended = 4097

abbrev pub single : core.Statement → core.Statements
single s = core.one s core.none

abbrev pub join : core.Statements → core.Statements → core.Statements
join core.none others = others
join (core.one s ss) others = core.one s (join ss others)

-- gives the next number to the statement that comes next
abbrev pub counted : Site → Room → Checked Room
counted at r = when (nat_le r.next most_statements) TooMany at (record r { next = r.next + 1 })

abbrev pub standing : (number : ℕ) → Site → Sort → (last : ℕ) → Standing
standing n at sort last = record { number = n; site = at; sort = sort; last = last }

-- puts a statement behind those that are written, with what stands in it: it ends with the last number that was given
abbrev pub put : core.Statement → Site → Sort → (inside : List Standing) → Room → Room
put s at sort inside r = record r {
  written = join r.written (single s);
  names = record r.names { statements = r.names.statements ++ standing (core.number s) at sort (r.next - 1) ∷ inside };
}

-- a statement without others in it
abbrev pub write : (statement : (number : ℕ) → core.Statement) → Site → Sort → Room → Checked Room
write s at sort r = then (counted at r) (λ c. Ok (put (s r.next) at sort [] c))

-- a statement that sets a slot
abbrev pub set : (slot : ℕ) → core.Term → Site → Room → Checked Room
set slot t at r = write (λ n. core.Set n slot t) at Other r

-- a part of a statement: what was written for it, and where that stands
pub record Part : Type 0 where
  pub statements : core.Statements
  pub standings : List Standing

-- in front of a part nothing of it is written; behind it what was written before comes back
abbrev pub apart : Room → Room
apart r = record r { written = core.none; names = record r.names { statements = [] } }

abbrev pub part_of : Room → Part
part_of r = record { statements = r.written; standings = r.names.statements }

abbrev pub rejoined : (before : Part) → Room → Room
rejoined p r = record r { written = p.statements; names = record r.names { statements = p.standings } }

-- names are visible to the end of their block at most
abbrev pub ended : (last : ℕ) → Variable → Variable
ended last v = record v { last = cond (nat_le v.last last) v.last last }

-- what comes back at the end of a block: how many names are around the block in which it stands, and that one's variables
pub record Scope : Type 0 where
  pub around : ℕ
  pub variables : List Variable

abbrev pub scope_of : Room → Scope
scope_of r = record { around = r.around; variables = r.names.variables }

-- a block begins without names of its own; at its end they go (C99 6.2.1p4)
abbrev pub opened : Room → Room
opened r = record r { around = length r.visible; names = record r.names { variables = [] } }

abbrev pub closed : Scope → Room → Room
closed s r = record r {
  visible = take r.around r.visible;
  around = s.around;
  names = record r.names { variables = s.variables ++ map (ended (r.next - 1)) r.names.variables };
}

-- one name is declared once in a block (C99 6.7p3), and hides what has it outside (6.2.1p4)
abbrev pub may_declare : (name : List ℕ) → Room → Bool
may_declare name r = not (is_some (meaning_of (drop r.around r.visible) name) || is_taken name)

abbrev pub bound : (name : List ℕ) → Meaning → Room → Room
bound name m r = record r { visible = r.visible ++ record { name = name; meaning = m } ∷ [] }

abbrev pub declared : Site → (name : List ℕ) → Meaning → Room → Checked Room
declared at name m r = when (may_declare name r) NameTwice at (bound name m r)

-- the slot that comes next
abbrev pub next_slot : Site → Room → Checked ℕ
next_slot at r = when (nat_lt (length r.slots) most_slots) TooMany at (length r.slots)

abbrev pub with_slot : Kind → Room → Room
with_slot k r = record r { slots = r.slots ++ k ∷ [] }

-- a variable in the map of names, by the numbers of the statements in which it is visible
abbrev pub with_range : Site → (name : List ℕ) → (first last : ℕ) → Room → Room
with_range at name first last r = record r { names = with_variable name at first last r.names }

-- the slots that come next, for the components of a vector one behind the other
abbrev pub next_slots : Site → (count : ℕ) → Room → Checked ℕ
next_slots at n r = when (nat_le (length r.slots + n) most_slots) TooMany at (length r.slots)

unfoldable pub component_added : Site → (name : List ℕ) → (first last : ℕ) → Kind → Room → Room
component_added at name first last k r = with_range at name first last (with_slot k r)

abbrev pub components_added : Site → (name : List ℕ) → (first last : ℕ) → Kind → (places : List ℕ) → Room → Room
components_added at name first last k [] r = r
components_added at name first last k (p ∷ ps) r = components_added at name first last k ps (component_added at name first last k r)

-- a private variable, which is visible from the next statement on
abbrev pub visible_from : Site → (name : List ℕ) → ValueType → Room → Room
visible_from at name t r = components_added at name r.next not_ended (kind_of r.ids t.scalar) (places t.width) r

abbrev pub variable_declared : Site → (name : List ℕ) → ValueType → (is_constant : Bool) → Room → Checked Room
variable_declared at name t is_constant r =
    then (next_slots at t.width r) (λ slot. then (declared at name (VariableOf t slot is_constant) r) (λ d. Ok (visible_from at name t d)))

-- a variable that the text does not name: it is visible nowhere
abbrev pub made_up : Site → Kind → Room → Room
made_up at k r = with_range at (codes "_") 1 0 (with_slot k r)

abbrev pub all_made_up : Site → Kind → (count : ℕ) → Room → Room
all_made_up at k n r = components_added at (codes "_") 1 0 k (places n) r

-- what stands at a site has the value that variables keep, from a slot on
abbrev pub with_drawn : marks.Sort → Site → ValueType → (slot : ℕ) → Room → Room
with_drawn sort at t slot r = record r { drawn = r.drawn ++ record { mark = record { sort = sort; site = at }; type = t; slot = slot } ∷ [] }
