-- What the code's types of labels stand for.
use Rattle.std.specs.Prelude.{Option, None, Some, map}
use Rattle.opencl_core.specs.Choosing as rules
use Rattle.opencl_core.specs.declared.choosing.Label.{Label}
use Rattle.opencl_core.specs.declared.choosing.Met.{Met}

abbrev pub label : Label → rules.Label
label l = record { below = l.below; size = l.size }

abbrev pub maybe_label : Option Label → Option rules.Label
maybe_label None = None
maybe_label (Some l) = Some (label l)

abbrev pub met : Met → rules.Met
met m = record { labels = map label m.labels.items; others = m.others }
