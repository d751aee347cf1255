-- One path of a place, walked from choices on.
use Rattle.std.specs.Prelude.{◌≡◌, ◌≤◌, ℕ, ◌+◌, List, map, length, true}
use Rattle.walk_trees.specs.Fitting.{all_fit}
use Rattle.path_steps.specs.Paths.{Choice, collect}
use Rattle.path_steps.specs.Turns.{next_choices}
use Rattle.path_steps.specs.View.{followed, choice}
use Rattle.obligations.specs.Listing.{Planted, is_some}
use Rattle.walk.specs.Paths.{begun}
use Rattle.walk.specs.View.{maybe_choices}
use Rattle.walk.specs.declared.one_path.OnePath.{OnePath}

-- it is the path along these choices, with its place; so many paths came to an end with it; the next choices are those behind it
pub record IsOn {E : Type 0} (p : Planted E) (cs : List Choice) (ends : ℕ) (w : OnePath E) : Type 0 where
  pub found : (followed w.path.path).found ≡ collect (begun p.facts p.claims cs) p.tree
  pub anchor : w.path.anchor ≡ p.anchor
  pub head : w.path.is_head ≡ is_some p.head
  pub known : all_fit p.facts ≡ true
  pub ended : w.ends ≡ ends + length w.path.path.ends.items
  pub few : w.ends ≤ 256
  pub next : maybe_choices w.next ≡ next_choices (map choice w.path.path.taken.items) w.path.path.count
