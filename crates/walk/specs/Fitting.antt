-- Whether the own forms of what there is to show are of i64, by its numbers: of a claim all its forms are among those of its place's tree;
-- of a pair of ends they are what its goal says, and what denies it; of a pair of accesses both differences of their indexes.
use Rattle.std.specs.Prelude.{List, ◌++◌, map, Bool, true}
use Rattle.semantics.specs.Launch.{Kernel}
use Rattle.semantics.specs.Conditions.{Conditions}
use Rattle.domain.specs.declared.Domain.{Ghosts}
use Rattle.facts.specs.Launching.{launch_facts, known}
use Rattle.walk_trees.specs.Trees.{Obligation}
use Rattle.obligations.specs.Notes.{Notes}
use Rattle.obligations.specs.Listing.{all_trees, claims_of, accesses_of, ends_in}
use Rattle.obligations.specs.Meetings.{meetings}
use Rattle.obligations.specs.Crossings.{crossings}
use Rattle.obligations.specs.Fitting.{is_fit_goal, crossing_fits}

abbrev pub own_fits : {E : Type 0} → Ghosts E → Kernel → Conditions → Notes → List Bool
own_fits g k c n =
    map (λ (o : Obligation). true) (claims_of c (all_trees g k c n))
    ++ (map (λ (o : Obligation). is_fit_goal o.goal) (meetings g (known g k.sizes c) (launch_facts c) n (ends_in (all_trees g k c n)))
    ++ map crossing_fits (crossings k c (accesses_of (all_trees g k c n))))
