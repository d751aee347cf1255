-- What the code has of declarations, as the definitions have it.
use Rattle.std.specs.Prelude.{ℕ, List, map, Option, None, Some, Vec}
use Rattle.std.specs.declared.alloc.Global.{Global}
use Rattle.core_code.specs.View.{site}
use Rattle.opencl_tree.specs.Tree as tree
use Rattle.opencl_tree.specs.View.{qualifiers, maybe, initials, declarator, declaration}
use Rattle.opencl_tree.specs.declared.tree.Expr.{Expr}
use Rattle.opencl_tree.specs.declared.tree.Initial.{Initial}
use Rattle.opencl_tree.specs.declared.tree.Declarator.{Declarator}
use Rattle.opencl_tree.specs.declared.tree.Declaration.{Declaration}
use Rattle.opencl_parser.specs.TypeNames as names
use Rattle.opencl_parser.specs.Declarations as declarations
use Rattle.opencl_parser.specs.View.{known}
use Rattle.opencl_parser.specs.declared.declarations.Shape.{Shape}
use Rattle.opencl_parser.specs.declared.type_words.Known.{Known}

abbrev pub maybe_known : Option Known → Option names.Known
maybe_known None = None
maybe_known (Some k) = Some (known k)

abbrev pub dimensions_seen : Vec (Option Expr) Global → List (Option tree.Expression)
dimensions_seen ds = map maybe ds.items

abbrev pub shape : Shape → declarations.Shape
shape s = record { stars = map qualifiers s.stars.items; site = site s.site; name = s.name.now; dimensions = map maybe s.dimensions.items }

abbrev pub initials_seen : Vec Initial Global → tree.Initials
initials_seen is = initials is.items

abbrev pub declarators_seen : Vec Declarator Global → List tree.Declarator
declarators_seen ds = map declarator ds.items

abbrev pub defined : Declaration × Known → tree.Declaration × names.Known
defined d = (declaration d.0, known d.1)
