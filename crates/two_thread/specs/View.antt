-- What the code's values stand for.
use Rattle.std.specs.Prelude.{◌≡◌, ◌<◌, ℕ, List, ◌++◌, map, length, get_or}
use Rattle.semantics.specs.Core as core
use Rattle.core_code.specs.View.{space}
use Rattle.walk_trees.specs.Trees.{Access, Ended}
use Rattle.walk_trees.specs.Pairs as specs
use Rattle.path_steps.specs.Paths.{Claimed}
use Rattle.obligations.specs.Listing.{Of}
use Rattle.obligations.specs.Crossings as crossings
use Rattle.two_thread.specs.Paths.{claims_seen, accesses_seen, ends_seen, all_claims, all_accesses, all_ends, no_claim, no_access, no_end}
use Rattle.two_thread.specs.declared.on_path.OnPath.{OnPath}
use Rattle.two_thread.specs.declared.met.Met.{Met}
use Rattle.two_thread.specs.declared.walked.Tagged.{Tagged}
use Rattle.two_thread.specs.declared.crossings.Scope.{Scope}
use Rattle.two_thread.specs.declared.crossings.Scope.TheVariants as scopes
use Rattle.two_thread.specs.declared.crossings.Order.{Order}
use Rattle.two_thread.specs.declared.crossings.Order.TheVariants as orders
use Rattle.two_thread.specs.declared.crossings.Crossing.{Crossing}
use Rattle.two_thread.specs.declared.crossings.Sought.{Sought}

abbrev pub met_claims : {E : Type 0} → Met E → List Claimed
met_claims m = all_claims m.paths.items

abbrev pub met_accesses : {E : Type 0} → Met E → List (Of (Access E))
met_accesses m = all_accesses m.paths.items

abbrev pub met_ends : {E : Type 0} → Met E → List (Of (Ended E))
met_ends m = all_ends m.paths.items

abbrev pub nth_claim : {E : Type 0} → Met E → ℕ → Claimed
nth_claim m i = get_or (met_claims m) i no_claim

abbrev pub nth_access : {E : Type 0} → List (Of (Access E)) → ℕ → Of (Access E)
nth_access us n = get_or us n no_access

abbrev pub nth_end : {E : Type 0} → List (Of (Ended E)) → ℕ → Of (Ended E)
nth_end us n = get_or us n no_end

abbrev pub met_access : {E : Type 0} → Met E → ℕ → Of (Access E)
met_access m i = nth_access (met_accesses m) i

abbrev pub met_end : {E : Type 0} → Met E → ℕ → Of (Ended E)
met_end m i = nth_end (met_ends m) i

-- a claim, an access, an end of this number stands at that place
abbrev pub IsPlaceOfClaim : {E : Type 0} → Met E → ℕ → OnPath → Type 0
IsPlaceOfClaim m i place = (place.path < length m.paths.items) × ((t : Tagged _) → t ≡ get_or m.paths.items place.path t → (place.item < length t.path.claims.items) × (get_or (claims_seen t) place.item no_claim ≡ nth_claim m i))

abbrev pub IsPlaceOf : {E : Type 0} → Met E → ℕ → OnPath → Type 0
IsPlaceOf m i place = (place.path < length m.paths.items) × ((t : Tagged _) → t ≡ get_or m.paths.items place.path t → (place.item < length t.path.accesses.items) × (get_or (accesses_seen t) place.item no_access ≡ met_access m i))

abbrev pub IsPlaceOfEnd : {E : Type 0} → Met E → ℕ → OnPath → Type 0
IsPlaceOfEnd m i place = (place.path < length m.paths.items) × ((t : Tagged _) → t ≡ get_or m.paths.items place.path t → (place.item < length t.path.ends.items) × (get_or (ends_seen t) place.item no_end ≡ met_end m i))

abbrev pub scope : Scope → specs.Scope
scope scopes.Within = specs.Within
scope scopes.Across = specs.Across

abbrev pub order : Order → specs.Order
order orders.Below = specs.Below
order orders.Above = specs.Above

abbrev pub crossing : {E : Type 0} → List (Of (Access E)) → Crossing → crossings.Crossing E
crossing us p = record { first = nth_access us p.first; second = nth_access us p.second; scope = scope p.scope; dimension = p.dimension; order = order p.order; alike = p.alike }

-- what was found grows by these at the end
abbrev pub Adds : {E : Type 0} → List (Of (Access E)) → (old new : List Crossing) → List (crossings.Crossing E) → Type 0
Adds us old new more = map (crossing us) new ≡ map (crossing us) old ++ more

abbrev pub sought_array : Sought → core.Array
sought_array s = crossings.array (space s.space) s.number
