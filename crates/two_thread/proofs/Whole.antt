-- All that is to be shown, by what was met at all places and by the notes.
use Rattle.std.proofs.Common.{◌≡◌, ℕ, ◌<◌, Bool, true, List, ◌++◌, length, map, sym, ap, subst, ◌∙◌}
use Rattle.semantics.specs.Launch.{Kernel}
use Rattle.semantics.specs.Conditions.{Conditions}
use Rattle.domain.specs.declared.Domain.{Ghosts}
use Rattle.facts.specs.Symbols.{Fact}
use Rattle.facts.specs.Elements.{Known}
use Rattle.facts.specs.declared.error.WalkError.{WalkError}
use Rattle.facts.specs.declared.error.WalkError.TheVariants as walks
use Rattle.walk_trees.specs.Trees.{Obligation}
use Rattle.path_steps.specs.Paths.{Claimed}
use Rattle.obligations.specs.Notes.{Notes}
use Rattle.obligations.specs.Crossings.{crossings}
use Rattle.obligations.specs.Fitting.{is_fit_goal, crossing_fits}
use Rattle.two_thread.specs.Goals.{owed}
use Rattle.two_thread.specs.Listed.{all_listed, all_fits}
use Rattle.two_thread.specs.Paths.{all_claims, all_ends, all_accesses, claims_of, ends_of, accesses_of}
use Rattle.two_thread.specs.Refusals.{AreUngathered}
use Rattle.two_thread.specs.Spread.{spread}
use Rattle.two_thread.specs.declared.walked.Walked.{Walked}
use Rattle.two_thread.specs.declared.walked.Tagged.{Tagged}
use Rattle.two_thread.proofs.Same.{meetings_same, crossings_same}
use Rattle.two_thread.proofs.Spreading.{claims_are, ends_are, accesses_are}

module _ {E : Type 0} (n m : Notes) (h : (b : ℕ) → n.same b ≡ m.same b) (g : Ghosts E) (k : Known E) (launch : List Fact) (kernel : Kernel) (c : Conditions) (ps : List (Tagged E)) (ws : List (Walked E)) (d : ps ≡ spread ws) where
  pub listed_same : all_listed g k launch n kernel c (all_claims ps) (all_ends ps) (all_accesses ps) ≡ all_listed g k launch m kernel c (claims_of ws) (ends_of ws) (accesses_of ws)
  listed_same =
      (λ i. map (owed launch) (all_claims ps) ++ (meetings_same n m h g k launch (all_ends ps) i ++ crossings_same n m h g k launch (crossings kernel c (all_accesses ps)) i))
      ∙ ap (λ qs. all_listed g k launch m kernel c (all_claims qs) (all_ends qs) (all_accesses qs)) d
      ∙ (λ i. all_listed g k launch m kernel c (claims_are ws i) (ends_are ws i) (accesses_are ws i))

  pub fits_same : all_fits g k launch n kernel c (all_claims ps) (all_ends ps) (all_accesses ps) ≡ all_fits g k launch m kernel c (claims_of ws) (ends_of ws) (accesses_of ws)
  fits_same =
      ap (λ os. map (λ (c : Claimed). true) (all_claims ps) ++ (map (λ (o : Obligation). is_fit_goal o.goal) os ++ map crossing_fits (crossings kernel c (all_accesses ps)))) (meetings_same n m h g k launch (all_ends ps))
      ∙ ap (λ qs. all_fits g k launch m kernel c (all_claims qs) (all_ends qs) (all_accesses qs)) d
      ∙ (λ i. all_fits g k launch m kernel c (claims_are ws i) (ends_are ws i) (accesses_are ws i))

pub moved : (os ps : List Obligation) (a b : Bool) (e : WalkError) → os ≡ ps → a ≡ b → AreUngathered os a e → AreUngathered ps b e
moved os ps a b walks.TooMany p q u = subst (λ (l : List Obligation). 65536 < length l) p u
moved os ps a b walks.TooLarge p q u = sym q ∙ u
moved os ps a b walks.Memory p q u = tt
