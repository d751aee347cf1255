-- What the code's map of names stands for.
use Rattle.std.specs.Prelude.{map, string_bytes}
use Rattle.core_code.specs.View.{site}
use Rattle.syntax.specs.View.{parameter}
use Rattle.kernel_names.specs.NameMap as names
use Rattle.kernel_names.specs.declared.Variable.{Variable}
use Rattle.kernel_names.specs.declared.LocalName.{LocalName}
use Rattle.kernel_names.specs.declared.Sort.{Sort}
use Rattle.kernel_names.specs.declared.Sort.TheVariants as sorts
use Rattle.kernel_names.specs.declared.Standing.{Standing}
use Rattle.kernel_names.specs.declared.NameMap.{NameMap}

abbrev pub variable : Variable → names.Variable
variable v = record { name = string_bytes v.name; site = site v.site; first = v.first; last = v.last }

abbrev pub local_name : LocalName → names.LocalName
local_name a = record { name = string_bytes a.name; site = site a.site }

abbrev pub sort : Sort → names.Sort
sort sorts.Turning = names.Turning
sort sorts.Waiting = names.Waiting
sort sorts.Other = names.Other

abbrev pub standing : Standing → names.Standing
standing s = record { number = s.number; site = site s.site; sort = sort s.sort; last = s.last }

abbrev pub names_seen : NameMap → names.NameMap
names_seen m = record {
  parameters = map parameter m.parameters.items;
  variables = map variable m.variables.items;
  arrays = map local_name m.arrays.items;
  statements = map standing m.statements.items;
}
