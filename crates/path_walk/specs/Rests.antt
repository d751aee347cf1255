-- What is left at a place, from its innermost list to its outermost one.
use Rattle.std.specs.Prelude.{◌≡◌, List, []}
use Rattle.arrivals.specs.Points.{Left}
use Rattle.arrivals.specs.Symbolic.{courses}
use Rattle.arrivals.specs.Trees.{Turns}
use Rattle.facts.specs.declared.error.WalkError.{WalkError}
use Rattle.obligations.specs.Walking.{Placed, course}
use Rattle.places.specs.View.{opened}
use Rattle.places.specs.declared.point.Rest.{Rest}
use Rattle.path_steps.specs.Paths.{Found, Followed}
use Rattle.path_steps.specs.Halts.{Ended}
use Rattle.path_steps.specs.Refusals.{Refused}
use Rattle.path_steps.specs.declared.halt.Halt.{Halt}
use Rattle.path_walk.specs.declared.flow.Flow.{Flow}
use Rattle.path_walk.specs.Flows.{flows}

-- all that is found where what stood before that was left that way
abbrev pub found_along : {E : Type 0} → Placed E → List Left → Flow → (from : Followed E) → Turns → Found E
found_along p more f l t = flows f (courses (course p) more) t l

-- one list of what is left, whatever is around it
abbrev pub PassesOne : {E : Type 0} → Placed E → Rest → Flow → (from : Followed E) → Turns → Flow → (to : Followed E) → Turns → Type 0
PassesOne p r f l t f' m t' = (around : List Left) → found_along p (opened r around) f l t ≡ found_along p around f' m t'

abbrev pub NotOne : {E : Type 0} → Placed E → Rest → Flow → (from : Followed E) → Turns → Halt → (to : Followed E) → Type 0
NotOne p r f l t h m = (around : List Left) → Ended m.found h (found_along p (opened r around) f l t)

-- all of it
abbrev pub PassesLeft : {E : Type 0} → Placed E → List Left → Flow → (from : Followed E) → Turns → Flow → (to : Followed E) → Turns → Type 0
PassesLeft p more f l t f' m t' = found_along p more f l t ≡ found_along p [] f' m t'

abbrev pub NotLeft : {E : Type 0} → Placed E → List Left → Flow → (from : Followed E) → Turns → Halt → (to : Followed E) → Type 0
NotLeft p more f l t h m = Ended m.found h (found_along p more f l t)

-- to the item's end
abbrev pub ComesAlong : {E : Type 0} → Placed E → List Left → Flow → (from : Followed E) → Turns → (to : Followed E) → Type 0
ComesAlong p more f l t m = m.found ≡ found_along p more f l t

abbrev pub IsRefusedAlong : {E : Type 0} → Placed E → List Left → Flow → (from : Followed E) → Turns → WalkError → Type 0
IsRefusedAlong p more f l t e = Refused e (found_along p more f l t)
