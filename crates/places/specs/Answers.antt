-- What is told of a kernel's body: its places, or the first loop that may miss its barrier.
use Rattle.std.specs.Prelude.{◌≡◌, List, map, Some, None}
use Rattle.semantics.specs.Core.{Statements}
use Rattle.arrivals.specs.Loops.{unmet}
use Rattle.arrivals.specs.Places.{places}
use Rattle.places.specs.View.{place}
use Rattle.places.specs.declared.place.Place.{Place}
use Rattle.places.specs.declared.error.PlaceError.{PlaceError}
use Rattle.places.specs.declared.error.PlaceError.TheVariants.{Missed, Memory}

abbrev pub ArePlaces : Statements → List Place → Type 0
ArePlaces body ps = (map place ps ≡ places body) × (unmet body ≡ None)

-- want of memory says nothing
abbrev pub IsRefused : Statements → PlaceError → Type 0
IsRefused body (Missed n) = unmet body ≡ Some n
IsRefused body Memory = Unit {0}
