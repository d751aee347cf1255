-- What the code's names of conversions stand for.
use Rattle.std.specs.Prelude.{Option, Some, None}
use Rattle.opencl_values.specs.FunctionsView.{form}
use Rattle.opencl_values.specs.Widened as widened
use Rattle.opencl_values.specs.declared.widened.Counted.{Counted}
use Rattle.opencl_values.specs.declared.widened.Wide.{Wide}

abbrev pub counted : Counted → widened.Counted
counted c = record { width = c.width; digits = c.digits }

abbrev pub wide : Wide → widened.Wide
wide w = record { width = w.width; form = form w.form }
