-- The trees of places, as the code's walk has them.
use Rattle.std.specs.Prelude.{ℕ, List, [], ◌∷◌}
use Rattle.semantics.specs.Launch.{Kernel}
use Rattle.domain.specs.declared.Domain.{Ghosts}
use Rattle.arrivals.specs.Places.{Place}
use Rattle.arrivals.specs.Symbolic.{sketch}
use Rattle.walk_trees.specs.Trees.{after}
use Rattle.walk_trees.specs.Walks.{Setting}
use Rattle.obligations.specs.Notes.{Notes, number_at}
use Rattle.obligations.specs.Listing.{Planted}
use Rattle.obligations.specs.Roots.{root_facts, root_state}
use Rattle.obligations.specs.Walking.{Placed, course}

-- with so many claims before it
abbrev pub planted_at : {E : Type 0} → Ghosts E → Placed E → ℕ → Place → Planted E
planted_at g w claims p = record {
  anchor = w.anchor;
  head = w.head;
  facts = root_facts w.kernel w.notes w.anchor w.head;
  claims = claims;
  tree = sketch (course w) w.kernel.body p (root_state g w.setting.known w.kernel w.notes claims w.anchor w.head);
}

abbrev pub planted_by : {E : Type 0} → Ghosts E → Setting E → Kernel → Notes → ℕ → Place → Planted E
planted_by g s k n claims p = planted_at g (record { setting = s; kernel = k; notes = n; anchor = number_at p.anchor; head = number_at p.head }) claims p

-- place by place
abbrev pub all_by : {E : Type 0} → Ghosts E → Setting E → Kernel → Notes → ℕ → List Place → List (Planted E)
all_by g s k n claims [] = []
all_by g s k n claims (p ∷ ps) = planted_by g s k n claims p ∷ all_by g s k n (after claims (planted_by g s k n claims p).tree) ps
