-- One path of a place is walked where its tree begins.
use Rattle.std.proofs.Common.{◌≡◌, ℕ, List, true, refl, sym, ap, subst, ◌∙◌}
use Rattle.std.specs.Prelude.{Bool, Result, Ok, Err, IfOk, OnOk, IfErr, MatchResult}
use Rattle.domain.specs.declared.Domain.{Ghosts}
use Rattle.arrivals.specs.Places.{Place}
use Rattle.arrivals.specs.Symbolic.{sketch}
use Rattle.core_code.specs.View.{kernel}
use Rattle.linear.specs.Forms.{forms}
use Rattle.facts.specs.View.{known_seen}
use Rattle.facts.specs.declared.error.WalkError.{WalkError}
use Rattle.walk_trees.specs.Fitting.{all_fit}
use Rattle.path_steps.specs.Paths.{Choice, Found, Followed, collect}
use Rattle.path_steps.specs.Refusals.{Refused}
use Rattle.path_steps.specs.View.{followed}
use Rattle.path_steps.specs.declared.path.Path.{Path}
use Rattle.walk.specs.Paths.{begun}
use Rattle.arrival_claims.specs.View.{placed}
use Rattle.arrival_claims.specs.declared.placing.Placing.{Placing}
use Rattle.obligations.specs.View.{seen}
use Rattle.obligations.specs.Listing.{Planted}
use Rattle.obligations.specs.Roots.{root_facts}
use Rattle.obligations.specs.Walking.{course}
use Rattle.path_walk.specs.Rooted.{rooted, IsUnrooted}
use Rattle.walk.specs.Planting.{planted_at}
use Rattle.walk.specs.Walks.{IsCut}
use Rattle.walk.proofs.Stuck.{forms_fit, unrooted, refused}

-- of an answer alone, and of an error alone
pub found_of : {E : Type 0} (r : Result (Path E) WalkError) (m n : Found E) (Q : WalkError → Type 0) → m ≡ n → MatchResult r (λ p. (followed p).found ≡ m) Q → IfOk r (λ p. (followed p).found ≡ n)
found_of (Ok p) m n Q d e = e ∙ d
found_of (Err x) m n Q d e = tt

pub cut_of : {E : Type 0} (r : Result (Path E) WalkError) (p : Planted E) (cs : List Choice) (P : Path E → Type 0) (m : Found E) → m ≡ collect (begun p.facts p.claims cs) p.tree → MatchResult r P (λ e. Refused e m) → IfErr r (IsCut p cs)
cut_of (Ok q) p cs P m d h = tt
cut_of (Err e) p cs P m d h = refused p cs e (subst (Refused e) d h)

pub on_ok : {T E : Type 0} (r : Result T E) (X : Type 0) → X → OnOk r X
on_ok (Ok t) X x = x
on_ok (Err e) X x = tt

facts_seen : {E : Type 0} (p : Path E) → (followed p).found.facts ≡ forms p.facts.items
unfolding followed
facts_seen p = refl

module _ {E : Type 0} (g : Ghosts E) (w : Placing E) (n : ℕ) (at : Place) where
  -- the place as the walk has it
  abbrev own : Planted E
  own = planted_at g (placed g w) n at

  pub unrooted_at : (cs : List Choice) (e : WalkError) → ((entries : List Bool) → IsUnrooted (root_facts (kernel w.core.now) (seen w.notes.now entries) w.anchor w.head) e) → IsCut own cs e
  unfolding placed
  unrooted_at cs e h = unrooted own cs e (h w.setting.now.entries.items)

  module _ (path : Path E) (cs : List Choice) (h : (entries : List Bool) → followed path ≡ rooted g (known_seen w.setting.now.known) (kernel w.core.now) (seen w.notes.now entries) n w.anchor w.head cs) where
    begins : followed path ≡ rooted g (placed g w).setting.known (placed g w).kernel (placed g w).notes n (placed g w).anchor (placed g w).head cs
    unfolding placed
    begins = h w.setting.now.entries.items

    pub known_fit : all_fit own.facts ≡ true
    known_fit = ap (λ (m : Followed E). all_fit m.found.facts) (sym begins) ∙ ap all_fit (facts_seen path) ∙ forms_fit path.facts.items

    pub same_found : collect (followed path).found (sketch (course (placed g w)) (kernel w.core.now).body at (followed path).state) ≡ collect (begun own.facts n cs) own.tree
    unfolding placed
    same_found = ap (λ (m : Followed E). collect m.found (sketch (course (placed g w)) (kernel w.core.now).body at m.state)) begins
