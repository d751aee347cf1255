-- What a cursor's step gives, and what its errors say.
use Rattle.std.proofs.Common.{◌≡◌, ◌<◌, ◌≤◌, ℕ, suc, List, [], ◌∷◌, ◌++◌, map, drop, get_or, drop-cons, add-one, length, append-nil, arith, refl, sym, ap, subst, ◌∙◌, Vec, Global}
use Rattle.std.specs.Prelude.{Option, Some, None}
use Rattle.std.proofs.lemmas.List.{length-append, drop_all}
use Rattle.domain.specs.declared.Domain.{Ghosts}
use Rattle.facts.specs.Launching.{launch_facts, known}
use Rattle.facts.specs.declared.error.WalkError.TheVariants as walks
use Rattle.walk_trees.specs.Trees.{after}
use Rattle.path_steps.specs.Paths.{Choice}
use Rattle.path_steps.specs.Turns.{listed_accesses, listed_ends}
use Rattle.path_steps.specs.View.{setting, choice}
use Rattle.path_steps.specs.declared.path.Choice as code_choice
use Rattle.obligations.specs.Crossings.{crossings, crossing_obligation}
use Rattle.obligations.specs.Fitting.{trees_fit}
use Rattle.obligations.specs.Listing.{Planted, accesses_of, claims_of, ends_in}
use Rattle.obligations.specs.Meetings.{meetings}
use Rattle.obligations.specs.Owning.{all_own_accesses, all_own_ends}
use Rattle.two_thread.specs.Paths.{claims_seen, accesses_seen, ends_seen}
use Rattle.places.specs.View.{place}
use Rattle.places.specs.declared.place.Place as code
use Rattle.walk.specs.Cursors.{listed_from, claims_from, count_from, walks_fit, IsWithin, Comes, IsWhole, IsOver, IsUnfoundIn, Gives, Stands, kernel_of, conditions_of, notes_of, trees_of, trees_at, trees_left, choices_left}
use Rattle.walk.specs.Planting.{planted_by, all_by}
use Rattle.walk.specs.Stepped.{IsBehind, IsStep, Steps}
use Rattle.walk.specs.Steps.{IsOn}
use Rattle.walk.specs.Unfound.{HaveFewPaths, IsFirstOfMany}
use Rattle.walk.specs.View.{maybe_choices}
use Rattle.walk.specs.Walks.{IsStuck}
use Rattle.walk.specs.declared.cursor.Paths.{Paths}
use Rattle.walk.specs.declared.cursor.Step.{Step}
use Rattle.walk.specs.declared.error.FindError.{FindError}
use Rattle.walk.specs.declared.error.FindError.TheVariants as errors
use Rattle.walk.specs.declared.one_path.OnePath.{OnePath}
use Rattle.walk.specs.declared.terrain.Terrain.{Terrain}
use Rattle.walk.proofs.Stepping.{on_choices, on_trees, on_claims, on_ends, first_of, accesses_all, ends_all, count_to, many_left, unfit_left, gives_claims, gives_accesses, gives_ends, gives_count, own_path_accesses, own_path_ends, none_after, comes_on}

-- before the first path
pub begins : {E : Type 0} (g : Ghosts E) (t : Terrain E) (cs : List Choice) → cs ≡ [] → IsWhole g t → Comes (trees_of g t) (trees_at g t 0 0) 0 0 cs
begins g t cs e w = subst (λ l. Comes (trees_of g t) (trees_at g t 0 0) 0 0 l) (sym e) (record {
  front = [];
  whole = w.trees;
  few = tt;
  fit = refl;
  counted = λ c. refl;
  within = first_of (trees_at g t 0 0);
  own_accesses = ap all_own_accesses (accesses_all (trees_at g t 0 0) ∙ ap accesses_of (sym w.trees)) ∙ w.own_accesses;
  own_ends = ap all_own_ends (ends_all (trees_at g t 0 0) ∙ ap ends_in (sym w.trees)) ∙ w.own_ends;
})

module _ {E : Type 0} (g : Ghosts E) (t : Terrain E) (before : Paths) where
  -- behind the last place
  pub none_left : Stands g t before → length t.places.now ≤ before.at → IsOver g t before
  none_left s h =
      let e : trees_left g t before ≡ [] = ap (λ (l : List code.Place). all_by g (setting g t.setting) (kernel_of t) (notes_of t) before.claims (map place l)) (drop_all before.at t.places.now h) in
      let w : trees_of g t ≡ s.comes.front = s.comes.whole ∙ ap (λ l. s.comes.front ++ l) e ∙ append-nil s.comes.front in
      record {
        claims = ap (claims_from (choices_left before)) e;
        accesses = ap (listed_from listed_accesses (choices_left before)) e;
        ends = ap (listed_from listed_ends (choices_left before)) e;
        few = subst HaveFewPaths (sym w) s.comes.few;
        fit = ap walks_fit w ∙ s.comes.fit;
      }

  module _ (x : code.Place) (lt : before.at < length t.places.now) (e : x ≡ get_or t.places.now before.at x) where
    abbrev pub here : Planted E
    here = planted_by g (setting g t.setting) (kernel_of t) (notes_of t) before.claims (place x)

    abbrev rest : List (Planted E)
    rest = trees_at g t (after before.claims here.tree) (suc before.at)

    there : trees_left g t before ≡ here ∷ rest
    there =
        ap (λ (l : List code.Place). all_by g (setting g t.setting) (kernel_of t) (notes_of t) before.claims (map place l))
        (drop-cons t.places.now before.at x lt ∙ ap (λ y. y ∷ drop (suc before.at) t.places.now) (sym e))

    comes_here : Stands g t before → Comes (trees_of g t) (here ∷ rest) before.claims before.ends (choices_left before)
    comes_here s = subst (λ l. Comes (trees_of g t) l before.claims before.ends (choices_left before)) there s.comes

    pub within_here : Stands g t before → IsWithin here before.ends (choices_left before)
    within_here s = (comes_here s).within

    -- what an error of a path says of the kernel
    pub stuck_here : Stands g t before → (z : FindError) → IsStuck here z → IsUnfoundIn g t z
    stuck_here s (errors.ManyPaths n) u =
        let c = comes_here s in
        subst (IsFirstOfMany n) (sym c.whole) (many_left c.front here rest n c.few u.0 u.1)
    stuck_here s (errors.Walk walks.TooMany) u =
        let c = comes_here s in
        let cs = conditions_of t in
        let k = kernel_of t in
        let ts = trees_of g t in
        let a = length-append (claims_of cs ts) (meetings g (known g k.sizes cs) (launch_facts cs) (notes_of t) (ends_in ts) ++ map (crossing_obligation g (known g k.sizes cs) (launch_facts cs) (notes_of t)) (crossings k cs (accesses_of ts))) in
        let b = ap (λ l. length (claims_of cs l)) c.whole in
        let d = count_to cs c.front here rest (c.counted cs) in
        omega (arith, u, a, b, d)
    stuck_here s (errors.Walk walks.TooLarge) u =
        let c = comes_here s in
        ap trees_fit c.whole ∙ unfit_left c.front here rest u
    stuck_here s (errors.Walk walks.Memory) u = tt

    module _ (s : Stands g t before) (w : OnePath E) (on : IsOn here (choices_left before) before.ends w) (step : Step E) (is : IsStep before w step) where
      abbrev behind : Paths
      behind = step.behind

      abbrev going : Option (List Choice)
      going = maybe_choices w.next

      at_trees : (o : Option (Vec code_choice.Choice Global)) → IsBehind before w o behind → maybe_choices o ≡ going → trees_left g t behind ≡ on_trees (maybe_choices o) here rest
      at_trees None b f =
          (λ i. trees_at g t (b.1 i) ((b.0 ∙ add-one before.at) i))
          ∙ ap (λ m. trees_at g t m (suc before.at)) (none_after here rest (choices_left before) before.ends (within_here s) w on (trees_of g t) (comes_here s) (sym f))
      at_trees (Some given) b f = (λ i. trees_at g t (b.1 i) (b.0 i)) ∙ there

      at_choices : (o : Option (Vec code_choice.Choice Global)) → IsBehind before w o behind → choices_left behind ≡ on_choices (maybe_choices o)
      at_choices None b = ap (map choice) b.3
      at_choices (Some given) b = ap (map choice) b.3

      at_claims : (o : Option (Vec code_choice.Choice Global)) → IsBehind before w o behind → behind.claims ≡ on_claims (maybe_choices o) before.claims w.path.path.count
      at_claims None b = b.1
      at_claims (Some given) b = b.1

      at_ends : (o : Option (Vec code_choice.Choice Global)) → IsBehind before w o behind → behind.ends ≡ on_ends (maybe_choices o) w.ends
      at_ends None b = b.2
      at_ends (Some given) b = b.2

      trees_is : trees_left g t behind ≡ on_trees going here rest
      trees_is = at_trees w.next is.behind refl

      choices_is : choices_left behind ≡ on_choices going
      choices_is = at_choices w.next is.behind

      gives : Gives g t before step.path behind
      gives = record {
        claims = ap (claims_from (choices_left before)) there ∙ gives_claims here rest (choices_left before) before.ends (within_here s) w on ∙ (λ i. claims_seen (sym is.path i) ++ claims_from (sym choices_is i) (sym trees_is i));
        accesses = ap (listed_from listed_accesses (choices_left before)) there ∙ gives_accesses here rest (choices_left before) before.ends (within_here s) w on ∙ (λ i. accesses_seen (sym is.path i) ++ listed_from listed_accesses (sym choices_is i) (sym trees_is i));
        ends = ap (listed_from listed_ends (choices_left before)) there ∙ gives_ends here rest (choices_left before) before.ends (within_here s) w on ∙ (λ i. ends_seen (sym is.path i) ++ listed_from listed_ends (sym choices_is i) (sym trees_is i));
        count = ap (count_from (choices_left before)) there ∙ gives_count here rest (choices_left before) before.ends (within_here s) w on ∙ (λ i. suc (count_from (sym choices_is i) (sym trees_is i)));
        own_accesses = ap (λ p. all_own_accesses (accesses_seen p)) is.path ∙ own_path_accesses here rest (choices_left before) before.ends (within_here s) w on (trees_of g t) (comes_here s);
        own_ends = ap (λ p. all_own_ends (ends_seen p)) is.path ∙ own_path_ends here rest (choices_left before) before.ends (within_here s) w on (trees_of g t) (comes_here s);
      }

      stands : Stands g t behind
      stands = record {
        whole = s.whole;
        comes =
            subst (λ (l : List (Planted E) × ℕ × ℕ × List Choice). Comes (trees_of g t) l.0 l.1 l.2 l.3)
            (λ i. (sym trees_is i, sym (at_claims w.next is.behind) i, sym (at_ends w.next is.behind) i, sym choices_is i))
            (comes_on here rest (choices_left before) before.ends (within_here s) w on (trees_of g t) (comes_here s));
      }

      pub stepped : Steps g t before (Some step)
      stepped = (gives, stands, is.starts)
