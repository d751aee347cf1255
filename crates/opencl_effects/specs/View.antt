-- What the code's helpers and marks stand for.
use Rattle.std.specs.Prelude.{List, map}
use Rattle.core_code.specs.View.{site}
use Rattle.opencl_effects.specs.Effects as rules
use Rattle.opencl_effects.specs.Marks as marks
use Rattle.opencl_effects.specs.declared.effects.Helper.{Helper}
use Rattle.opencl_effects.specs.declared.marks.Sort.{Sort}
use Rattle.opencl_effects.specs.declared.marks.Sort.TheVariants as sorts
use Rattle.opencl_effects.specs.declared.marks.Mark.{Mark}
use Rattle.opencl_effects.specs.declared.marks.Noted.{Noted}

abbrev pub helper : Helper → rules.Helper
helper h = record { name = h.name.now; stores = h.stores }

abbrev pub helpers : List Helper → List rules.Helper
helpers hs = map helper hs

abbrev pub sort : Sort → marks.Sort
sort sorts.OfCall = marks.OfCall
sort sorts.OfStep = marks.OfStep
sort sorts.OfAssign = marks.OfAssign
sort sorts.OfComma = marks.OfComma
sort sorts.OfLogical = marks.OfLogical
sort sorts.OfChoice = marks.OfChoice

abbrev pub mark : Mark → marks.Mark
mark m = record { sort = sort m.sort; site = site m.site }

abbrev pub noted : Noted → marks.Noted
noted n = record { mark = mark n.mark; is_drawn = n.is_drawn }

abbrev pub all_noted : List Noted → List marks.Noted
all_noted ns = map noted ns
