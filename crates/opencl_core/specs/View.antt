-- What the code's rooms and heads stand for.
use denote.Ref.{Bor}
use Rattle.std.specs.Prelude.{ℕ, List, map, Option, Some, None, Result, Ok, Err, String, Vec, string_bytes, slice_index}
use Rattle.std.specs.declared.alloc.Global.{Global}
use Rattle.semantics.specs.Launch as launch
use Rattle.semantics.specs.Word as word
use Rattle.core_code.specs.View.{array, site, kernel, local_array, space, statements}
use Rattle.core_code.specs.declared.tree.Site.{Site}
use Rattle.kernel_names.specs.View.{standing, variable, names_seen}
use Rattle.syntax.specs.View.{assign_sign}
use Rattle.words.specs.View.{kind}
use Rattle.opencl_tree.specs.Tree as tree
use Rattle.opencl_tree.specs.View as trees
use Rattle.opencl_tree.specs.View.{base, qualifiers, expression, maybe}
use Rattle.opencl_tree.specs.declared.tree.Expr.{Expr}
use Rattle.opencl_tree.specs.declared.tree.Stmt.{Stmt}
use Rattle.opencl_files.specs.FileTree as files
use Rattle.opencl_files.specs.View.{header}
use Rattle.opencl_files.specs.declared.tree.Header.{Header}
use Rattle.opencl_effects.specs.View.{helpers}
use Rattle.opencl_terms.specs.Answers.{value_type}
use Rattle.opencl_terms.specs.View.{scalar}
use Rattle.opencl_values.specs.Elements as elements
use Rattle.opencl_values.specs.ElementsView.{element, maybe_term}
use Rattle.opencl_values.specs.Faults.{Checked}
use Rattle.opencl_values.specs.View.{all_drawn, bindings, fault, maybe_row, maybe_scalar, single}
use Rattle.opencl_values.specs.declared.error.Fault.{Fault}
use Rattle.opencl_core.specs.Assigning as assigning
use Rattle.opencl_core.specs.Declaring as declaring
use Rattle.opencl_core.specs.Drawing as drawing
use Rattle.opencl_core.specs.Flags as flags
use Rattle.opencl_core.specs.Heads as heads
use Rattle.opencl_core.specs.Helpers as helper_rules
use Rattle.opencl_core.specs.Kernels as kernels
use Rattle.opencl_core.specs.Pointing as pointing_rules
use Rattle.opencl_core.specs.Rooms as rooms
use Rattle.opencl_core.specs.Templates as templates
use Rattle.opencl_core.specs.Writing as writing
use Rattle.opencl_core.specs.declared.assigning.Change.{Change}
use Rattle.opencl_core.specs.declared.assigning.Pointing.{Pointing}
use Rattle.opencl_core.specs.declared.assigning.Target.{Target}
use Rattle.opencl_core.specs.declared.declaring.Lengths.{Lengths}
use Rattle.opencl_core.specs.declared.declaring.Shared.{Shared}
use Rattle.opencl_core.specs.declared.drawing.Arm.{Arm}
use Rattle.opencl_core.specs.declared.flags.Fences.{Fences}
use Rattle.opencl_core.specs.declared.heads.Named.{Named}
use Rattle.opencl_core.specs.declared.heads.LocalCount.{LocalCount}
use Rattle.opencl_core.specs.declared.helpers.Surroundings.{Surroundings}
use Rattle.opencl_core.specs.declared.kernels.Given.{Given}
use Rattle.opencl_core.specs.declared.kernels.Written.{Written}
use Rattle.opencl_core.specs.declared.locals.LocalShape.{LocalShape}
use Rattle.opencl_core.specs.declared.owning.Own.{Own}
use Rattle.opencl_core.specs.declared.pointing.Pointed.{Pointed}
use Rattle.opencl_core.specs.declared.rooms.Part.{Part}
use Rattle.opencl_core.specs.declared.rooms.Room.{Room}
use Rattle.opencl_core.specs.declared.rooms.Scope.{Scope}
use Rattle.opencl_core.specs.declared.templates.Taken.{Taken}
use Rattle.opencl_core.specs.declared.templates.Taken.TheVariants as takens
use Rattle.opencl_core.specs.declared.templates.Returned.{Returned}
use Rattle.opencl_core.specs.declared.templates.Text.{Text}
use Rattle.opencl_core.specs.declared.templates.Template.{Template}
use Rattle.opencl_core.specs.declared.templates.Returning.{Returning}
use Rattle.opencl_core.specs.declared.templates.Returning.TheVariants as returnings
use Rattle.opencl_core.specs.declared.writing.Around.{Around}
use Rattle.opencl_core.specs.declared.writing.Around.TheVariants as arounds

abbrev pub three : List ℕ → launch.Three ℕ
three sizes = record { x = slice_index sizes 0; y = slice_index sizes 1; z = slice_index sizes 2 }

abbrev pub taken : Taken → templates.Taken
taken (takens.Value t slot) = templates.TakesValue (value_type t) slot
taken (takens.Array s t constant offset) = templates.TakesArray (space s) (value_type t) constant offset

abbrev pub returned : Returned → templates.Returned
returned x = record { type = value_type x.of; slot = x.slot }

abbrev pub maybe_returned : Option Returned → Option templates.Returned
maybe_returned None = None
maybe_returned (Some x) = Some (returned x)

abbrev pub text : Text → templates.Text
text x = record {
  parameters = map taken x.parameters.items;
  result = maybe_returned x.result;
  slots = map kind x.slots.items;
  count = x.count;
  body = statements x.body.items;
  standings = map standing x.standings.items;
  variables = map variable x.variables.items;
}

abbrev pub text_or_fault : Result Text (Fault × Site) → Checked templates.Text
text_or_fault (Ok x) = Ok (text x)
text_or_fault (Err e) = Err (fault e.0, site e.1)

abbrev pub template : Template → templates.Template
template t = record { name = string_bytes t.name; stores = t.stores; whole = text_or_fault t.whole; moved = text_or_fault t.moved }

abbrev pub maybe_template : Option (Bor Template) → Option templates.Template
maybe_template None = None
maybe_template (Some t) = Some (template t.now)

abbrev pub function : Header × Vec Stmt Global → files.Header × tree.Statements
function f = (header f.0, trees.statements f.1.items)

abbrev pub returning : Returning → templates.Returning
returning returnings.OfKernel = templates.OfKernel
returning (returnings.OfFunction x) = templates.OfFunction (maybe_returned x)

abbrev pub surroundings : Surroundings → helper_rules.Surroundings
surroundings s = record { ids = kind s.ids; sizes = three s.sizes; outside = bindings s.outside.now }

abbrev pub room : Room → rooms.Room
room r = record {
  ids = kind r.ids;
  sizes = three r.sizes;
  visible = bindings r.visible.items;
  drawn = all_drawn r.drawn.items;
  helpers = helpers r.helpers.items;
  templates = map template r.templates.now;
  returns = returning r.returns;
  around = r.around;
  slots = map kind r.slots.items;
  arrays = map local_array r.arrays.items;
  elements = r.elements;
  buffers = map kind r.buffers.items;
  next = r.next;
  written = statements r.written.items;
  names = names_seen r.names;
}

abbrev pub part : Part → rooms.Part
part p = record { statements = statements p.statements.items; standings = map standing p.standings.items }

abbrev pub arm : Arm → drawing.Arm
arm a = record { part = part a.part; value = single a.value; number = a.number }

abbrev pub scope : Scope → rooms.Scope
scope s = record { around = s.around; variables = map variable s.variables.items }

abbrev pub local : LocalShape → declaring.LocalShape
local a = record { type = value_type a.of; count = a.count; lengths = a.lengths.items; is_constant = a.is_constant }

abbrev pub shared : Shared → declaring.Shared
shared s = record { type = value_type s.of; qualifiers = qualifiers s.qualifiers }

abbrev pub lengths : Lengths → declaring.Lengths
lengths l = record { all = l.all.items; product = l.product }

abbrev pub own : Own → declaring.Own
own o = record { site = site o.site; number = o.number; scalar = scalar o.scalar; is_vector = o.is_vector; length = o.length }

abbrev pub pointed : Pointed → pointing_rules.Pointed
pointed p = record {
  array = array p.array;
  element = value_type p.element;
  is_constant = p.is_constant;
  row = maybe_row p.row;
  offset = maybe_term p.offset;
  over = maybe_scalar p.over;
}

abbrev pub value_given : Option (Bor Expr) → Option tree.Expression
value_given None = None
value_given (Some e) = Some (expression e.now)

abbrev pub change : Change → assigning.Change
change c = record { at = site c.at; sign = assign_sign c.sign; sign_site = site c.sign_site; value = value_given c.value }

abbrev pub pointing : Pointing → assigning.Pointing
pointing p = record { array = array p.array; element = value_type p.element; is_own = p.is_own; over = maybe_scalar p.over; slot = p.slot }

abbrev pub maybe_pointing : Option Pointing → Option assigning.Pointing
maybe_pointing None = None
maybe_pointing (Some p) = Some (pointing p)

abbrev pub target : Target → elements.Element × word.Kind
target t = (element t.element, kind t.kind)

abbrev pub local_count : LocalCount → heads.LocalCount
local_count l = record { name = string_bytes l.name; count = l.count }

abbrev pub named : Named → heads.Named
named p = record { site = site p.site; name = p.name.now; type = value_type p.of }

abbrev pub fences : Fences → flags.Fences
fences f = record { local = f.local; global = f.global }

abbrev pub given : Given → kernels.Given
given g = record { sizes = three g.sizes; buffers = map kind g.buffers.items; arguments = map kind g.arguments.items }

abbrev pub written : Written → kernels.Written
written w = record { core = kernel w.core; names = names_seen w.names }

abbrev pub around : Around → writing.Around
around arounds.Outside = writing.Outside
around (arounds.InLoop number tests_last) = writing.InLoop number tests_last
