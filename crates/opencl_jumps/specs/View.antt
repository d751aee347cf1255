-- What the code's types stand for.
use Rattle.std.specs.Prelude.{Option, Some, None, map}
use Rattle.opencl_tree.specs.Types as types
use Rattle.opencl_tree.specs.View.{statements, maybe, base}
use Rattle.opencl_tree.specs.declared.types.Base.{Base}
use Rattle.opencl_jumps.specs.Exits as exits
use Rattle.opencl_jumps.specs.Switches as switches
use Rattle.opencl_jumps.specs.declared.exits.Exit.{Exit}
use Rattle.opencl_jumps.specs.declared.exits.Exit.TheVariants as variants
use Rattle.opencl_jumps.specs.declared.switches.Group.{Group}
use Rattle.opencl_jumps.specs.declared.switches.Cut.{Cut}

abbrev pub exit : Exit → exits.Exit
exit variants.Breaking = exits.Breaking
exit variants.Continuing = exits.Continuing
exit variants.Returning = exits.Returning

abbrev pub maybe_base : Option Base → Option types.Base
maybe_base None = None
maybe_base (Some b) = Some (base b)

abbrev pub group : Group → switches.Group
group g = record { is_default = g.is_default; test = maybe g.test; body = statements g.body.items }

abbrev pub cut : Cut → switches.Cut
cut c = record {
  front = statements c.front.items;
  is_row = c.is_row;
  group = group c.group;
  groups = map group c.groups.items;
  others = statements c.others.items;
  labels = statements c.labels.items;
}
