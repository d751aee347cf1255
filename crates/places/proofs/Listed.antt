-- Places by the points of a kernel.
use Rattle.std.proofs.Common.{◌≡◌, Bool, true, false, cond, List, [], ◌∷◌, ◌++◌, Option, Some, None, refl, ap}
use Rattle.semantics.specs.Core.{Statements, number}
use Rattle.arrivals.specs.Points.{Point, points, join}
use Rattle.arrivals.specs.Places.{Reach, Lists, NoList, OneList, TwoLists, lists_of, Place, is_head, is_barrier, head_by, heads_among, places_from, from_barriers, places}
use Rattle.places.specs.Listing.{placed, placed_barriers}

head-more : (a : Option Point) (h : Point) (l : Lists) (rest : List Place) → head_by a h l rest ≡ head_by a h l [] ++ rest
head-more a h NoList rest = refl
head-more a h (OneList l) rest = refl
head-more a h TwoLists rest = refl

-- one point more
pub heads_more : (a : Option Point) (rs : List Reach) (p : Point) (ps : List Point) → heads_among a rs (p ∷ ps) ≡ heads_among a rs (p ∷ []) ++ heads_among a rs ps
heads_more a rs p ps = at (is_head p.statement)
  where
    at : (x : Bool) → cond x (head_by a p (lists_of (number p.statement) rs) (heads_among a rs ps)) (heads_among a rs ps) ≡ cond x (head_by a p (lists_of (number p.statement) rs) []) [] ++ heads_among a rs ps
    at true = head-more a p (lists_of (number p.statement) rs) (heads_among a rs ps)
    at false = refl

barriers_placed : (body : Statements) (ps : List Point) → from_barriers body ps ≡ placed_barriers (points body []) ps
barriers_placed body [] = refl
barriers_placed body (p ∷ ps) = at (is_barrier p.statement) (barriers_placed body ps)
  where
    at : (x : Bool) → from_barriers body ps ≡ placed_barriers (points body []) ps →
        cond x (places_from body (Some p) ++ from_barriers body ps) (from_barriers body ps) ≡ cond x (placed (Some p) p.rest (points body []) ++ placed_barriers (points body []) ps) (placed_barriers (points body []) ps)
    at true h = ap (λ l. places_from body (Some p) ++ l) h
    at false h = h

pub places_placed : (body : Statements) → places body ≡ placed None (join body []) (points body []) ++ placed_barriers (points body []) (points body [])
places_placed body = ap (λ l. places_from body None ++ l) (barriers_placed body (points body []))
