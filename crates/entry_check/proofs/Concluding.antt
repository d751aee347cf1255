-- What the check of a kernel's terrain tells.
use Rattle.std.proofs.Common.{◌≡◌, ◌≤◌, ◌⊎◌, ℕ, List, [], ◌++◌, map, length, Bool, true, false, refl, sym, ap, subst, ◌∙◌, inl, inr}
use Rattle.std.specs.Prelude.{Result, Ok, Err, IfOk, IfErr}
use Rattle.std.specs.List.{All}
use Rattle.domain.specs.declared.Domain.{Ghosts}
use Rattle.certificate_text.specs.Certificate.{Entry}
use Rattle.facts.specs.Elements.{Known}
use Rattle.facts.specs.Launching.{launch_facts, known}
use Rattle.facts.specs.Symbols.{Fact}
use Rattle.facts.specs.declared.error.WalkError.TheVariants as walks
use Rattle.walk_trees.specs.Trees.{Access, Ended}
use Rattle.walk_trees.specs.Shown.{IsShownWithProducts}
use Rattle.path_steps.specs.Paths.{Claimed}
use Rattle.obligations.specs.Crossings.{crossing_obligation, crossings}
use Rattle.obligations.specs.Fitting.{crossing_fits, trees_fit}
use Rattle.obligations.specs.Listing.{Of, accesses_of, all_trees, claims_of, ends_in}
use Rattle.obligations.specs.Notes.{Notes}
use Rattle.obligations.specs.Shown.{obligations}
use Rattle.two_thread.specs.Fitting.{claims_fit}
use Rattle.two_thread.specs.Goals.{owed}
use Rattle.two_thread.specs.Meetings.{all_meetings, meeting_fits, meeting_obligation}
use Rattle.walk.specs.Cursors.{IsUnfoundIn, conditions_of, kernel_of, notes_of, trees_of, walks_fit}
use Rattle.walk.specs.Fitting.{own_fits}
use Rattle.walk.specs.Unfound.{HaveFewPaths, IsUnfound}
use Rattle.walk.specs.declared.error.FindError.{FindError}
use Rattle.walk.specs.declared.error.FindError.TheVariants as finds
use Rattle.walk.specs.declared.terrain.Terrain.{Terrain}
use Rattle.entry_check.specs.Entries.{Stating}
use Rattle.entry_check.specs.Hand.{claim_fits}
use Rattle.entry_check.specs.Lacking.{AreListed, PassesOf, TellsOwing, owing, owing_fits, said, with_entries}
use Rattle.entry_check.specs.Numbers.{show_of}
use Rattle.entry_check.specs.Tallies.{Begins, Comes, Fails, HasStopped, IsCut, IsEnd, Takes}
use Rattle.entry_check.specs.declared.error.ShowError.{ShowError}
use Rattle.entry_check.specs.declared.error.ShowError.TheVariants as errors
use Rattle.entry_check.specs.declared.tally.Tally.{Tally}
use Rattle.entry_check.proofs.Assembling.{all_are, fails_first, fails_second, fails_third, fits_are, last, trees_are_fit}
use Rattle.entry_check.proofs.Owing.{told_unfound}

module _ {E : Type 0} (g : Ghosts E) (t : Terrain E) (es : List Entry) (n : Notes) (m : Stating) (noted : notes_of t ≡ with_entries es n) where
  -- what a walk or the count refuses
  pub told : (e : FindError) → IsUnfoundIn g t e ⊎ IsCut (owing g (kernel_of t) (conditions_of t) n es) e → TellsOwing g (kernel_of t) (conditions_of t) m n es (show_of e)
  told e (inl u) = told_unfound g (kernel_of t) (conditions_of t) m es n e (subst (λ y. IsUnfound g (kernel_of t) (conditions_of t) y e) noted u)
  told (finds.ManyPaths s) (inr u) = absurd u
  told (finds.Walk walks.TooMany) (inr u) = u
  told (finds.Walk walks.TooLarge) (inr u) = absurd u
  told (finds.Walk walks.Memory) (inr u) = tt

  module _ (cs : List Claimed) (fit : Bool) (fit_is : fit ≡ claims_fit cs) (claims_are : map (owed (launch_facts (conditions_of t))) cs ≡ claims_of (conditions_of t) (trees_of g t)) (few : HaveFewPaths (trees_of g t)) (walked : walks_fit (trees_of g t) ≡ true) where
    fits : trees_fit (all_trees g (kernel_of t) (conditions_of t) (with_entries es n)) ≡ fit
    fits = ap (λ y. trees_fit (all_trees g (kernel_of t) (conditions_of t) y)) (sym noted) ∙ sym (trees_are_fit (conditions_of t) (trees_of g t) cs claims_are walked) ∙ sym fit_is

    module _ (most : length (owing g (kernel_of t) (conditions_of t) n es) ≤ 65536) where
      listed : fit ≡ true → AreListed g (kernel_of t) (conditions_of t) n es
      listed h = (subst (λ y. HaveFewPaths (all_trees g (kernel_of t) (conditions_of t) y)) noted few, most, fits ∙ h)

      stop : (e : ShowError) → HasStopped (said n m) es fit (owing g (kernel_of t) (conditions_of t) n es) (owing_fits g (kernel_of t) (conditions_of t) n es) e → TellsOwing g (kernel_of t) (conditions_of t) m n es e
      stop (errors.NotShown i) u = (listed u.0, u.1)
      stop (errors.ManyPaths s) u = absurd u
      stop (errors.Walk walks.TooMany) u = absurd u
      stop (errors.Walk walks.TooLarge) u = large fit refl u
        where
          large : (b : Bool) → fit ≡ b → HasStopped (said n m) es fit (owing g (kernel_of t) (conditions_of t) n es) (owing_fits g (kernel_of t) (conditions_of t) n es) (errors.Walk walks.TooLarge) → TellsOwing g (kernel_of t) (conditions_of t) m n es (errors.Walk walks.TooLarge)
          large true h (inl v) = inl (fits ∙ v)
          large true h (inr v) = inr (listed h, v)
          large false h v = inl (fits ∙ h)
      stop (errors.Walk walks.Memory) u = tt
      stop errors.OverBudget u = absurd u
      stop errors.Memory u = tt

      pub end_shown : (r : Result Unit ShowError) → IsEnd (said n m) es fit (owing g (kernel_of t) (conditions_of t) n es) (owing_fits g (kernel_of t) (conditions_of t) n es) r → IfOk r (λ _. All IsShownWithProducts (owing g (kernel_of t) (conditions_of t) n es))
      end_shown (Ok x) h = h.1
      end_shown (Err e) h = tt

      pub end_passed : (r : Result Unit ShowError) → IsEnd (said n m) es fit (owing g (kernel_of t) (conditions_of t) n es) (owing_fits g (kernel_of t) (conditions_of t) n es) r → IfOk r (λ _. PassesOf g (kernel_of t) (conditions_of t) m n es)
      end_passed (Ok x) h = (h.2, listed h.0)
      end_passed (Err e) h = tt

      pub end_lacks : (r : Result Unit ShowError) → IsEnd (said n m) es fit (owing g (kernel_of t) (conditions_of t) n es) (owing_fits g (kernel_of t) (conditions_of t) n es) r → IfErr r (TellsOwing g (kernel_of t) (conditions_of t) m n es)
      end_lacks (Ok x) h = tt
      end_lacks (Err e) h = stop e h

  -- by what is taken
  module _ (known_is : Known E) (launch : List Fact) (alike : Notes) (same : (b : ℕ) → alike.same b ≡ (notes_of t).same b) (is_known : known_is ≡ known g (kernel_of t).sizes (conditions_of t)) (is_launch : launch ≡ launch_facts (conditions_of t))
      (cs : List Claimed) (ends : List (Of (Ended E))) (us : List (Of (Access E))) (claims_are : map (owed (launch_facts (conditions_of t))) cs ≡ claims_of (conditions_of t) (trees_of g t)) (ends_are : ends ≡ ends_in (trees_of g t)) (accesses_are : us ≡ accesses_of (trees_of g t)) (fit : Bool) (t0 : Tally) (b : Begins es fit t0) where
    all : owing g (kernel_of t) (conditions_of t) n es ≡ map (owed launch) cs ++ (map (meeting_obligation g known_is launch alike) (all_meetings alike ends) ++ map (crossing_obligation g known_is launch alike) (crossings (kernel_of t) (conditions_of t) us))
    all = ap (obligations g (kernel_of t) (conditions_of t)) (sym noted) ∙ all_are g (kernel_of t) (conditions_of t) alike (notes_of t) known_is launch same is_known is_launch cs ends us claims_are ends_are accesses_are

    own : owing_fits g (kernel_of t) (conditions_of t) n es ≡ map claim_fits cs ++ (map meeting_fits (all_meetings alike ends) ++ map crossing_fits (crossings (kernel_of t) (conditions_of t) us))
    own = ap (own_fits g (kernel_of t) (conditions_of t)) (sym noted) ∙ fits_are g (kernel_of t) (conditions_of t) alike (notes_of t) known_is launch same is_known is_launch cs ends us claims_are ends_are accesses_are

    pub told_first : (e : FindError) → Fails g t (said n m) (owed launch) claim_fits cs t0 e → TellsOwing g (kernel_of t) (conditions_of t) m n es (show_of e)
    told_first e f = told e (fails_first (said n m) es fit (owing g (kernel_of t) (conditions_of t) n es) (owing_fits g (kernel_of t) (conditions_of t) n es) (owed launch) claim_fits (meeting_obligation g known_is launch alike) meeting_fits (crossing_obligation g known_is launch alike) crossing_fits cs (all_meetings alike ends) (crossings (kernel_of t) (conditions_of t) us) all own g t t0 b e f)

    module _ (t1 : Tally) (x1 : Takes (said n m) (owed launch) claim_fits cs [] t0 t1) where
      pub told_second : (e : FindError) → Fails g t (said n m) (meeting_obligation g known_is launch alike) meeting_fits (all_meetings alike ends) t1 e → TellsOwing g (kernel_of t) (conditions_of t) m n es (show_of e)
      told_second e f = told e (fails_second (said n m) es fit (owing g (kernel_of t) (conditions_of t) n es) (owing_fits g (kernel_of t) (conditions_of t) n es) (owed launch) claim_fits (meeting_obligation g known_is launch alike) meeting_fits (crossing_obligation g known_is launch alike) crossing_fits cs (all_meetings alike ends) (crossings (kernel_of t) (conditions_of t) us) all own g t t0 b t1 x1 e f)

      module _ (t2 : Tally) (x2 : Takes (said n m) (meeting_obligation g known_is launch alike) meeting_fits (all_meetings alike ends) [] t1 t2) where
        pub told_third : (e : FindError) → Fails g t (said n m) (crossing_obligation g known_is launch alike) crossing_fits (crossings (kernel_of t) (conditions_of t) us) t2 e → TellsOwing g (kernel_of t) (conditions_of t) m n es (show_of e)
        told_third e f = told e (fails_third (said n m) es fit (owing g (kernel_of t) (conditions_of t) n es) (owing_fits g (kernel_of t) (conditions_of t) n es) (owed launch) claim_fits (meeting_obligation g known_is launch alike) meeting_fits (crossing_obligation g known_is launch alike) crossing_fits cs (all_meetings alike ends) (crossings (kernel_of t) (conditions_of t) us) all own g t t0 b t1 x1 t2 x2 e f)

        pub comes : (t3 : Tally) → Takes (said n m) (crossing_obligation g known_is launch alike) crossing_fits (crossings (kernel_of t) (conditions_of t) us) [] t2 t3 → Comes (said n m) es fit (owing g (kernel_of t) (conditions_of t) n es) (owing_fits g (kernel_of t) (conditions_of t) n es) [] [] t3
        comes t3 x3 = last (said n m) es fit (owing g (kernel_of t) (conditions_of t) n es) (owing_fits g (kernel_of t) (conditions_of t) n es) (owed launch) claim_fits (meeting_obligation g known_is launch alike) meeting_fits (crossing_obligation g known_is launch alike) crossing_fits cs (all_meetings alike ends) (crossings (kernel_of t) (conditions_of t) us) all own g t t0 b t1 x1 t2 x2 t3 x3
