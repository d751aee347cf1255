-- What is said of all paths behind the last one.
use Rattle.std.proofs.Common.{◌≡◌, ◌≤◌, ℕ, List, [], length, Vec, Global, append-nil, true, arith, refl, sym, ap, subst, ◌∙◌}
use Rattle.std.specs.Prelude.{Option, None}
use Rattle.facts.specs.Symbols.{Fact}
use Rattle.walk_trees.specs.Fitting.{tree_fits}
use Rattle.walk_trees.specs.Trees.{Tree, leaves, after}
use Rattle.path_steps.specs.Turns.{from, listed_claims, listed_accesses, listed_ends}
use Rattle.path_steps.specs.declared.path.Choice as code
use Rattle.path_steps.specs.declared.path.Path.{Path}
use Rattle.path_steps.proofs.Listing.{tree_ends, ends_counted}
use Rattle.walk.specs.Paths.{all_claims, all_accesses, all_ends}
use Rattle.walk.specs.View.{maybe_choices}
use Rattle.walk.specs.Walked.{Walked}

module _ {E : Type 0} (facts : List Fact) (n : ℕ) (t : Tree E) (found : List (Path E)) (so_many count : ℕ) (next : Option (Vec code.Choice Global)) (e : next ≡ None) (w : Walked facts n t found so_many count (maybe_choices next)) where
  at_last : Walked facts n t found so_many count None
  at_last = subst (λ x. Walked facts n t found so_many count (maybe_choices x)) e w

  pub claims_found : all_claims found ≡ from listed_claims facts [] n t
  claims_found = sym (append-nil (all_claims found)) ∙ at_last.claims

  pub accesses_found : all_accesses found ≡ from listed_accesses facts [] n t
  accesses_found = sym (append-nil (all_accesses found)) ∙ at_last.accesses

  pub ends_found : all_ends found ≡ from listed_ends facts [] n t
  ends_found = sym (append-nil (all_ends found)) ∙ at_last.ends

  pub few_found : so_many ≤ 256 → leaves n t ≤ 256
  few_found h =
      let e = ap length (ends_found ∙ tree_ends facts n t) in
      let l = ends_counted facts n t in
      let u = w.counted in
      omega (arith, h, e, l, u)

  pub after_found : count ≡ after n t
  after_found = at_last.last refl

  pub fits_found : tree_fits n t ≡ true
  fits_found = sym at_last.fit
