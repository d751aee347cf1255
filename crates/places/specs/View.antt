-- What the code's points and places stand for.
use Rattle.std.specs.Prelude.{ℕ, List, [], ◌∷◌, Option, Some, None, Vec}
use Rattle.std.specs.declared.alloc.Global.{Global}
use Rattle.core_code.specs.View.{statement, statements}
use Rattle.arrivals.specs.Points as meaning
use Rattle.arrivals.specs.Points.{Left, turning, join}
use Rattle.arrivals.specs.Trees.{Turns}
use Rattle.arrivals.specs.Places as meant
use Rattle.places.specs.declared.point.Rest.{Rest}
use Rattle.places.specs.declared.point.Rest.TheVariants.{Fresh, Turning}
use Rattle.places.specs.declared.point.Point.{Point}
use Rattle.places.specs.declared.place.Place.{Place}
use Rattle.places.specs.declared.lists.Lists.{Lists}
use Rattle.places.specs.declared.lists.Lists.TheVariants as variants

-- in front of what is around
abbrev pub opened : Rest → List Left → List Left
opened (Fresh ss) around = join (statements ss.now) around
opened (Turning s) around = turning (statement s.now) ∷ around

-- within one another, the outermost first
abbrev pub stacked : List Rest → List Left → List Left
stacked [] around = around
stacked (r ∷ rs) around = stacked rs (opened r around)

abbrev pub left : List Rest → List Left
left rs = stacked rs []

abbrev pub point : Point → meaning.Point
point p = record { statement = statement p.statement.now; rest = left p.rest.items }

abbrev pub maybe_point : Option Point → Option meaning.Point
maybe_point None = None
maybe_point (Some p) = Some (point p)

abbrev pub turns : Option (Vec ℕ Global) → Turns
turns None = None
turns (Some v) = Some v.items

abbrev pub place : Place → meant.Place
place p = record { anchor = maybe_point p.anchor; head = maybe_point p.head; turns = turns p.turns }

abbrev pub lists : Lists → meant.Lists
lists variants.NoList = meant.NoList
lists (variants.OneList v) = meant.OneList v.items
lists variants.TwoLists = meant.TwoLists
