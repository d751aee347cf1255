-- All paths of a place in turn.
use Rattle.std.proofs.Common.{◌≡◌, ◌≤◌, ℕ, List, [], map, Vec, Global, ap, ◌∙◌}
use Rattle.std.specs.Prelude.{Option, Some, None}
use Rattle.domain.specs.declared.Domain.{Ghosts}
use Rattle.arrivals.specs.Places.{Place}
use Rattle.core_code.specs.View.{kernel}
use Rattle.walk_trees.specs.Trees.{after}
use Rattle.path_steps.specs.View.{setting, choice}
use Rattle.path_steps.specs.declared.path.Choice as code
use Rattle.path_steps.specs.declared.path.Path.{Path}
use Rattle.path_steps.proofs.Listing.{tree_accesses, tree_ends}
use Rattle.walk.specs.View.{maybe_choices}
use Rattle.walk.proofs.Onward.{at_first}
use Rattle.walk.proofs.Last.{claims_found, accesses_found, ends_found, few_found, after_found, fits_found}
use Rattle.arrival_claims.specs.View.{placed}
use Rattle.arrival_claims.specs.declared.placing.Placing.{Placing}
use Rattle.obligations.specs.View.{seen}
use Rattle.obligations.specs.Notes.{number_at}
use Rattle.obligations.specs.Listing.{Planted}
use Rattle.walk.specs.Planting.{planted_at, planted_by}
use Rattle.walk.specs.Unfound.{statement_by, statement_of}
use Rattle.walk.specs.Walks.{Goes, AreOf}

-- before the first path
pub starts : {E : Type 0} (p : Planted E) (count : ℕ) (found : List (Path E)) (cs : List code.Choice) → found ≡ [] → cs ≡ [] → Goes p found 0 count (Some (map choice cs))
starts p count found cs e d = record { walked = at_first p.facts p.claims count p.tree found cs e d; known = λ o. absurd cc }

-- behind the last one
module _ {E : Type 0} (p : Planted E) (found : List (Path E)) (so_many count : ℕ) (next : Option (Vec code.Choice Global)) (e : next ≡ None) (w : Goes p found so_many count (maybe_choices next)) where
  pub all_of : so_many ≤ 256 → AreOf found p
  all_of h = record {
    claims = claims_found p.facts p.claims p.tree found so_many count next e w.walked;
    accesses = accesses_found p.facts p.claims p.tree found so_many count next e w.walked ∙ tree_accesses p.facts p.claims p.tree;
    ends = ends_found p.facts p.claims p.tree found so_many count next e w.walked ∙ tree_ends p.facts p.claims p.tree;
    few = few_found p.facts p.claims p.tree found so_many count next e w.walked h;
    known = w.known (ap maybe_choices e);
    fit = fits_found p.facts p.claims p.tree found so_many count next e w.walked;
  }

  pub counts_all : count ≡ after p.claims p.tree
  counts_all = after_found p.facts p.claims p.tree found so_many count next e w.walked

module _ {E : Type 0} (g : Ghosts E) (w : Placing E) (n : ℕ) (at : Place) where
  -- the place is told by its own numbers
  pub statement_at : (s : Option ℕ) → s ≡ statement_by w.anchor w.head → s ≡ statement_of (planted_at g (placed g w) n at)
  unfolding placed
  statement_at s e = e

  -- the place as the code has it
  pub placed_is : w.anchor ≡ number_at at.anchor → w.head ≡ number_at at.head → planted_at g (placed g w) n at ≡ planted_by g (setting g w.setting.now) (kernel w.core.now) (seen w.notes.now w.setting.now.entries.items) n at
  unfolding placed
  placed_is a h = λ i. planted_at g (record { setting = setting g w.setting.now; kernel = kernel w.core.now; notes = seen w.notes.now w.setting.now.entries.items; anchor = a i; head = h i }) n at
