-- What is found of all places is all that is to be shown of a kernel.
use Rattle.std.proofs.Common.{◌≡◌, ◌<◌, ℕ, List, [], ◌∷◌, ◌++◌, map, length, Bool, true, false, arith, refl, sym, ap, subst, ◌∙◌}
use Rattle.std.specs.Prelude.{slice_index_or}
use Rattle.std.proofs.lemmas.List.{length-append}
use Rattle.semantics.specs.Conditions.{Conditions}
use Rattle.semantics.specs.Launch.{Kernel}
use Rattle.domain.specs.declared.Domain.{Ghosts}
use Rattle.arrivals.specs.Places as arrivals
use Rattle.words.specs.View.{kind}
use Rattle.core_code.specs.View.{kernel, local_array}
use Rattle.core_code.specs.declared.tree.Core.{Core}
use Rattle.facts.specs.Launching.{launch_facts, known, buffer_bounds}
use Rattle.facts.specs.Symbols.{Fact}
use Rattle.facts.specs.View.{known_seen, three, buffer_bound}
use Rattle.facts.specs.declared.error.WalkError.{WalkError}
use Rattle.facts.specs.declared.error.WalkError.TheVariants as walks
use Rattle.walk_trees.specs.Statements.{setting}
use Rattle.walk_trees.specs.Trees.{Obligation, after}
use Rattle.path_steps.specs.View as views
use Rattle.path_steps.specs.declared.setting.Setting as code
use Rattle.obligations.specs.View.{seen}
use Rattle.obligations.specs.declared.notes.Notes as code_notes
use Rattle.obligations.specs.Crossings.{crossings, crossing_obligation}
use Rattle.obligations.specs.Fitting.{is_fit_goal, crossing_fits, trees_fit}
use Rattle.obligations.specs.Listing as listing
use Rattle.obligations.specs.Listing.{Planted, planted, planted_from, all_trees, ends_in}
use Rattle.obligations.specs.Meetings.{meetings}
use Rattle.obligations.specs.Notes.{Notes}
use Rattle.obligations.specs.Owning.{all_own_accesses, all_own_ends}
use Rattle.obligations.specs.Shown.{obligations}
use Rattle.obligations.specs.Walking.{tree_of}
use Rattle.two_thread.specs.Goals.{owed}
use Rattle.two_thread.specs.Fitting.{claims_fit}
use Rattle.two_thread.specs.Listed.{all_listed, all_fits}
use Rattle.two_thread.specs.Paths.{claims_of, accesses_of, ends_of}
use Rattle.two_thread.specs.Refusals.{AreUngathered}
use Rattle.two_thread.specs.declared.walked.Walked.{Walked}
use Rattle.places.specs.View as places
use Rattle.places.specs.declared.place.Place as code_place
use Rattle.walk.specs.Fitting.{own_fits}
use Rattle.walk.specs.Planting.{all_by}
use Rattle.walk.specs.Unfound.{HaveFewPaths, IsUnfound}
use Rattle.walk.specs.Walks.{Walks, IsAnyStuck}
use Rattle.walk.specs.declared.error.FindError.{FindError}
use Rattle.walk.specs.declared.error.FindError.TheVariants as errors
use Rattle.walk.proofs.Trees.{claims_are, accesses_are, ends_are, fits_are, few_are, all_true}

all_by_is : {E : Type 0} (g : Ghosts E) (k : Kernel) (c : Conditions) (n : Notes) (m : ℕ) (ps : List arrivals.Place) → all_by g (setting g k c n.is_wide n.joins n.has_entry) k n m ps ≡ planted_from g k c n m ps
all_by_is g k c n m [] = refl
all_by_is g k c n m (p ∷ ps) = ap (λ l. planted g k c n m p ∷ l) (all_by_is g k c n (after m (tree_of g k c n m p)) ps)

-- the code's setting
module _ {E : Type 0} (g : Ghosts E) (core : Core) (c : Conditions) (said : code_notes.Notes) (entries : List Bool) (s : code.Setting E)
    (has_wide : s.is_wide ≡ said.is_wide) (has_joins : s.joins ≡ said.joins) (has_known : known_seen s.known ≡ known g (kernel core).sizes c) (has_sizes : s.sizes ≡ core.sizes) (has_buffers : map kind s.buffers.items ≡ (kernel core).buffers) (has_arrays : map local_array s.arrays.items ≡ (kernel core).arrays) (has_contents : map buffer_bound s.contents.items ≡ buffer_bounds c) (has_entries : s.entries.items ≡ entries)
    (all : List code_place.Place) (are : map places.place all ≡ arrivals.places (kernel core).body) where
  abbrev k : Kernel
  k = kernel core

  abbrev n : Notes
  n = seen said entries

  abbrev found : List (Planted E)
  found = all_by g (views.setting g s) k (seen said s.entries.items) 0 (map places.place all)

  -- of any places, with so many claims before them
  pub from_are : (m : ℕ) (ps : List arrivals.Place) → all_by g (views.setting g s) k (seen said s.entries.items) m ps ≡ planted_from g k c n m ps
  from_are m ps =
      (λ i. all_by g (record { is_wide = has_wide i; joins = has_joins i; domain = g; known = has_known i; sizes = ap three has_sizes i; buffers = has_buffers i; arrays = has_arrays i; contents = has_contents i; has_entry = λ m. slice_index_or (has_entries i) m false }) k (seen said (has_entries i)) m ps)
      ∙ all_by_is g k c n m ps

  pub trees_are : found ≡ all_trees g k c n
  trees_are = from_are 0 (map places.place all) ∙ ap (planted_from g k c n 0) are

  stuck_at : (x : FindError) → IsAnyStuck (all_trees g k c n) x → IsUnfound g k c n x
  stuck_at (errors.ManyPaths t) u = u
  stuck_at (errors.Walk walks.TooMany) u =
      let a = length-append (listing.claims_of c (all_trees g k c n)) (meetings g (known g k.sizes c) (launch_facts c) n (ends_in (all_trees g k c n)) ++ map (crossing_obligation g (known g k.sizes c) (launch_facts c) n) (crossings k c (listing.accesses_of (all_trees g k c n)))) in
      omega (arith, u c, a)
  stuck_at (errors.Walk walks.TooLarge) u = u
  stuck_at (errors.Walk walks.Memory) u = tt

  pub stuck_all : (x : FindError) → IsAnyStuck found x → IsUnfound g k c n x
  stuck_all x u = stuck_at x (subst (λ ts. IsAnyStuck ts x) trees_are u)

  -- what was found of all places
  module _ (ws : List (Walked E)) (h : Walks ws found []) where
    whole : Walks ws (all_trees g k c n) []
    whole = subst (λ ts. Walks ws ts []) trees_are h

    pub few_all : HaveFewPaths (all_trees g k c n)
    few_all = few_are ws (all_trees g k c n) whole

    pub trees_fitting : claims_fit (claims_of ws) ≡ trees_fit (all_trees g k c n)
    trees_fitting = fits_are ws (all_trees g k c n) whole

    pub own_accesses : all_own_accesses (listing.accesses_of (all_trees g k c n)) ≡ true → all_own_accesses (accesses_of ws) ≡ true
    own_accesses q = ap all_own_accesses (accesses_are ws (all_trees g k c n) whole) ∙ q

    pub own_ends : all_own_ends (ends_in (all_trees g k c n)) ≡ true → all_own_ends (ends_of ws) ≡ true
    own_ends q = ap all_own_ends (ends_are ws (all_trees g k c n) whole) ∙ q

    module _ (launch : List Fact) (is_launch : launch ≡ launch_facts c) where
      all_found : all_listed g (known_seen s.known) launch n k c (claims_of ws) (ends_of ws) (accesses_of ws) ≡ obligations g k c n
      all_found =
          (λ i. map (owed (is_launch i)) (claims_of ws) ++ (meetings g (has_known i) (is_launch i) n (ends_are ws (all_trees g k c n) whole i) ++ map (crossing_obligation g (has_known i) (is_launch i) n) (crossings k c (accesses_are ws (all_trees g k c n) whole i))))
          ∙ ap (λ l. l ++ (meetings g (known g k.sizes c) (launch_facts c) n (ends_in (all_trees g k c n)) ++ map (crossing_obligation g (known g k.sizes c) (launch_facts c) n) (crossings k c (listing.accesses_of (all_trees g k c n))))) (claims_are c ws (all_trees g k c n) whole)

      pub found_is : (os : List Obligation) → os ≡ all_listed g (known_seen s.known) launch n k c (claims_of ws) (ends_of ws) (accesses_of ws) → os ≡ obligations g k c n
      found_is os e = e ∙ all_found

      pub own_fitting : all_fits g (known_seen s.known) launch n k c (claims_of ws) (ends_of ws) (accesses_of ws) ≡ own_fits g k c n
      own_fitting =
          (λ i. all_true (owed (launch_facts c)) (claims_of ws) i ++ (map (λ (o : Obligation). is_fit_goal o.goal) (meetings g (has_known i) (is_launch i) n (ends_are ws (all_trees g k c n) whole i)) ++ map crossing_fits (crossings k c (accesses_are ws (all_trees g k c n) whole i))))
          ∙ ap (λ l. map (λ (o : Obligation). true) l ++ (map (λ (o : Obligation). is_fit_goal o.goal) (meetings g (known g k.sizes c) (launch_facts c) n (ends_in (all_trees g k c n))) ++ map crossing_fits (crossings k c (listing.accesses_of (all_trees g k c n))))) (claims_are c ws (all_trees g k c n) whole)

      pub own_found : (fits : List Bool) → fits ≡ all_fits g (known_seen s.known) launch n k c (claims_of ws) (ends_of ws) (accesses_of ws) → fits ≡ own_fits g k c n
      own_found fits e = e ∙ own_fitting

      -- what is refused of all that was found
      pub ungathered : (x : WalkError) → AreUngathered (all_listed g (known_seen s.known) launch n k c (claims_of ws) (ends_of ws) (accesses_of ws)) (claims_fit (claims_of ws)) x → IsUnfound g k c n (errors.Walk x)
      ungathered walks.TooMany u = subst (λ l. 65536 < length l) all_found u
      ungathered walks.TooLarge u = sym trees_fitting ∙ u
      ungathered walks.Memory u = tt
