-- What the code answers of directives, as the definitions have it.
use Rattle.std.specs.Option.{option_map}
use Rattle.opencl_macros.specs.Directives as directives
use Rattle.opencl_macros.specs.Seen.{lent, macro, name}
use Rattle.opencl_macros.specs.declared.directives.Directive.{Directive}
use Rattle.opencl_macros.specs.declared.directives.Directive.TheVariants as lines

abbrev pub directive : Directive → directives.Directive
directive lines.Nothing = directives.Nothing
directive lines.Faulty = directives.Faulty
directive lines.Else = directives.Else
directive lines.Ends = directives.Ends
directive (lines.Defines n m) = directives.Defines n.now (macro m)
directive (lines.Forgets n) = directives.Forgets n.now
directive (lines.If ts) = directives.If (lent ts)
directive (lines.ElseIf ts) = directives.ElseIf (lent ts)
directive (lines.IfDefined n wanted) = directives.IfDefined (option_map name n) wanted
