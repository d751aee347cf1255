-- All that is to be shown of a kernel under conditions, with what is said of its places and loops, in the order of its numbers: the
-- claims of one item, place by place; pairs of ends; pairs of accesses.
use Rattle.std.specs.Prelude.{List, ◌++◌, map}
use Rattle.semantics.specs.Launch.{Kernel}
use Rattle.semantics.specs.Conditions.{Conditions}
use Rattle.domain.specs.declared.Domain.{Ghosts}
use Rattle.facts.specs.Launching.{launch_facts, known}
use Rattle.walk_trees.specs.Trees.{Obligation}
use Rattle.obligations.specs.Notes.{Notes}
use Rattle.obligations.specs.Listing.{all_trees, claims_of, accesses_of, ends_in}
use Rattle.obligations.specs.Meetings.{meetings}
use Rattle.obligations.specs.Crossings.{crossings, crossing_obligation}

abbrev pub obligations : {E : Type 0} → Ghosts E → Kernel → Conditions → Notes → List Obligation
obligations g k c n =
    claims_of c (all_trees g k c n)
    ++ (meetings g (known g k.sizes c) (launch_facts c) n (ends_in (all_trees g k c n))
    ++ map (crossing_obligation g (known g k.sizes c) (launch_facts c) n) (crossings k c (accesses_of (all_trees g k c n))))
