-- The definitions' places by the points of a kernel, for the contracts of the code.
use Rattle.std.specs.Prelude.{List, [], ◌∷◌, ◌++◌, Option, Some, cond}
use Rattle.arrivals.specs.Points.{Left, Point}
use Rattle.arrivals.specs.Places.{Place, own_place, heads_among, reached, is_barrier}

-- those of an anchor behind which that is left
abbrev pub placed : Option Point → List Left → List Point → List Place
placed a rest all = own_place a ∷ heads_among a (reached rest) all

-- those of the barriers among these points
abbrev pub placed_barriers : (all points : List Point) → List Place
placed_barriers all [] = []
placed_barriers all (p ∷ ps) = cond (is_barrier p.statement) (placed (Some p) p.rest all ++ placed_barriers all ps) (placed_barriers all ps)
