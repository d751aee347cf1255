-- The paths of all places, one after the other, each with its place's anchor.
use Rattle.std.specs.Prelude.{ℕ, List, [], ◌∷◌, ◌++◌, map, Bool, Option}
use Rattle.path_steps.specs.declared.path.Path.{Path}
use Rattle.obligations.specs.Listing.{is_some}
use Rattle.two_thread.specs.declared.walked.Walked.{Walked}
use Rattle.two_thread.specs.declared.walked.Tagged.{Tagged}

abbrev pub tag : {E : Type 0} → (anchor : Option ℕ) (is_head : Bool) → Path E → Tagged E
tag a h p = record { anchor = a; is_head = h; path = p }

abbrev pub spread : {E : Type 0} → List (Walked E) → List (Tagged E)
spread [] = []
spread (w ∷ ws) = map (tag w.anchor (is_some w.head)) w.paths.items ++ spread ws
