-- All that is to be shown of a kernel, taken from its paths.
use Rattle.std.proofs.Common.{◌≡◌, ◌⊎◌, ℕ, suc, List, [], ◌∷◌, ◌++◌, map, Bool, true, false, ◌&&◌, append-nil, refl, sym, ap, subst, ◌∙◌, inl, inr}
use Rattle.std.specs.Prelude.{Option, None, Some}
use Rattle.std.proofs.lemmas.Bool.{and_parts}
use Rattle.semantics.specs.Launch.{Kernel}
use Rattle.semantics.specs.Conditions.{Conditions}
use Rattle.domain.specs.declared.Domain.{Ghosts}
use Rattle.certificate_text.specs.Certificate.{Entry}
use Rattle.facts.specs.Elements.{Known}
use Rattle.facts.specs.Launching.{launch_facts, known}
use Rattle.facts.specs.Symbols.{Fact}
use Rattle.walk_trees.specs.Fitting.{all_fit, denials_fit, tree_denials_fit, tree_fits}
use Rattle.walk_trees.specs.Trees.{Claim, Dead, Ended, Access, Fork, Goal, Know, Leaf, Obligation, Touch, Tree, after, claims}
use Rattle.path_steps.specs.Paths.{Claimed}
use Rattle.obligations.specs.Crossings.{crossing_obligation, crossings}
use Rattle.obligations.specs.Fitting.{crossing_fits, is_fit_goal, trees_fit}
use Rattle.obligations.specs.Listing.{Of, Planted, accesses_of, all_trees, claims_of, ends_in}
use Rattle.obligations.specs.Meetings.{meetings}
use Rattle.obligations.specs.Notes.{Notes}
use Rattle.obligations.specs.Shown.{obligations}
use Rattle.two_thread.specs.Fitting.{claims_fit}
use Rattle.two_thread.specs.Goals.{owed}
use Rattle.two_thread.specs.Meetings.{Meeting, about_two, all_meetings, meeting_fits, meeting_obligation, obligation_about}
use Rattle.two_thread.specs.declared.meetings.About.{About}
use Rattle.two_thread.specs.declared.meetings.About.TheVariants as abouts
use Rattle.two_thread.proofs.AllMeetings.{meetings_are}
use Rattle.two_thread.proofs.Same.{crossings_same, meetings_same}
use Rattle.walk.specs.Cursors.{IsUnfoundIn, walks_fit}
use Rattle.walk.specs.Fitting.{own_fits}
use Rattle.walk.specs.declared.error.FindError.{FindError}
use Rattle.walk.specs.declared.terrain.Terrain.{Terrain}
use Rattle.entry_check.specs.Entries.{Said}
use Rattle.entry_check.specs.Hand.{claim_fits}
use Rattle.entry_check.specs.Tallies.{Begins, Comes, Fails, IsCut, Takes}
use Rattle.entry_check.specs.declared.tally.Tally.{Tally}

-- three lists, one after the other
module _ {A B C E : Type 0} (s : Said) (es : List Entry) (fit : Bool) (all : List Obligation) (fits : List Bool) (f : A → Obligation) (p : A → Bool) (h : B → Obligation) (q : B → Bool) (k : C → Obligation) (r : C → Bool) (cs : List A) (ms : List B) (xs : List C)
    (all_is : all ≡ map f cs ++ (map h ms ++ map k xs)) (fits_is : fits ≡ map p cs ++ (map q ms ++ map r xs)) (g : Ghosts E) (t : Terrain E) (t0 : Tally) (b : Begins es fit t0) where
  first : Comes s es fit all fits (map f cs ++ (map h ms ++ map k xs)) (map p cs ++ (map q ms ++ map r xs)) t0
  first = subst (λ l. Comes s es fit all fits l (map p cs ++ (map q ms ++ map r xs)) t0) all_is (subst (λ l. Comes s es fit all fits all l t0) fits_is (b s all fits))

  pub fails_first : (e : FindError) → Fails g t s f p cs t0 e → IsUnfoundIn g t e ⊎ IsCut all e
  fails_first e (inl u) = inl u
  fails_first e (inr c) = inr (c es fit all fits (map h ms ++ map k xs) (map q ms ++ map r xs) first)

  module _ (t1 : Tally) (x1 : Takes s f p cs [] t0 t1) where
    second : Comes s es fit all fits (map h ms ++ map k xs) (map q ms ++ map r xs) t1
    second = x1 es fit all fits (map h ms ++ map k xs) (map q ms ++ map r xs) first

    pub fails_second : (e : FindError) → Fails g t s h q ms t1 e → IsUnfoundIn g t e ⊎ IsCut all e
    fails_second e (inl u) = inl u
    fails_second e (inr c) = inr (c es fit all fits (map k xs) (map r xs) second)

    module _ (t2 : Tally) (x2 : Takes s h q ms [] t1 t2) where
      third : Comes s es fit all fits (map k xs ++ []) (map r xs ++ []) t2
      third = subst (λ l. Comes s es fit all fits l (map r xs ++ []) t2) (sym (append-nil (map k xs))) (subst (λ l. Comes s es fit all fits (map k xs) l t2) (sym (append-nil (map r xs))) (x2 es fit all fits (map k xs) (map r xs) second))

      pub fails_third : (e : FindError) → Fails g t s k r xs t2 e → IsUnfoundIn g t e ⊎ IsCut all e
      fails_third e (inl u) = inl u
      fails_third e (inr c) = inr (c es fit all fits [] [] third)

      pub last : (t3 : Tally) → Takes s k r xs [] t2 t3 → Comes s es fit all fits [] [] t3
      last t3 x3 = x3 es fit all fits [] [] third

-- whether the goals of meetings are of i64
module _ {E : Type 0} (g : Ghosts E) (k : Known E) (launch : List Fact) (n : Notes) where
  about_fits : (u v : Of (Ended E)) (a : About) → meeting_fits (about_two u v a) ≡ is_fit_goal (obligation_about g k launch n u v a).goal
  about_fits u v (abouts.AtLeast x) = refl
  about_fits u v (abouts.AtMost x) = refl
  about_fits u v abouts.Never = refl

  goals_are : (ms : List (Meeting E)) → map meeting_fits ms ≡ map (λ (o : Obligation). is_fit_goal o.goal) (map (meeting_obligation g k launch n) ms)
  goals_are [] = refl
  goals_are (m ∷ ms) = λ i. about_fits m.first m.second m.about i ∷ goals_are ms i

-- of a kernel
module _ {E : Type 0} (g : Ghosts E) (k : Kernel) (c : Conditions) (n x : Notes) (known_is : Known E) (launch : List Fact) (same : (b : ℕ) → n.same b ≡ x.same b) (is_known : known_is ≡ known g k.sizes c) (is_launch : launch ≡ launch_facts c)
    (cs : List Claimed) (ends : List (Of (Ended E))) (us : List (Of (Access E))) (claims_are : map (owed (launch_facts c)) cs ≡ claims_of c (all_trees g k c x)) (ends_are : ends ≡ ends_in (all_trees g k c x)) (accesses_are : us ≡ accesses_of (all_trees g k c x)) where
  met : map (meeting_obligation g known_is launch n) (all_meetings n ends) ≡ meetings g (known g k.sizes c) (launch_facts c) x (ends_in (all_trees g k c x))
  met =
      meetings_are g known_is launch n ends ∙ meetings_same n x same g known_is launch ends
      ∙ (λ i. meetings g (is_known i) (is_launch i) x (ends_are i))

  crossed : map (crossing_obligation g known_is launch n) (crossings k c us) ≡ map (crossing_obligation g (known g k.sizes c) (launch_facts c) x) (crossings k c (accesses_of (all_trees g k c x)))
  crossed =
      crossings_same n x same g known_is launch (crossings k c us)
      ∙ (λ i. map (crossing_obligation g (is_known i) (is_launch i) x) (crossings k c (accesses_are i)))

  pub all_are : obligations g k c x ≡ map (owed launch) cs ++ (map (meeting_obligation g known_is launch n) (all_meetings n ends) ++ map (crossing_obligation g known_is launch n) (crossings k c us))
  all_are = sym (λ i. (ap (λ l. map (owed l) cs) is_launch ∙ claims_are) i ++ (met i ++ crossed i))

  ones : {A B : Type 0} (f : A → B) (as' : List A) → map (λ (a : A). true) as' ≡ map (λ (b : B). true) (map f as')
  ones f [] = refl
  ones f (a ∷ as') = ap (λ (l : List Bool). true ∷ l) (ones f as')

  pub fits_are : own_fits g k c x ≡ map claim_fits cs ++ (map meeting_fits (all_meetings n ends) ++ map crossing_fits (crossings k c us))
  fits_are = sym (λ i.
      (ones (owed (launch_facts c)) cs ∙ ap (map (λ (o : Obligation). true)) claims_are) i
      ++ ((goals_are g known_is launch n (all_meetings n ends) ∙ ap (map (λ (o : Obligation). is_fit_goal o.goal)) met) i
      ++ ap (λ l. map crossing_fits (crossings k c l)) accesses_are i))

-- what denies claims, by what is to be shown of them
abbrev denied_goal : Option Goal → Bool
denied_goal None = true
denied_goal (Some g) = denials_fit g

abbrev denied_all : List Obligation → Bool
denied_all [] = true
denied_all (o ∷ os) = denied_goal o.goal && denied_all os

denied_owed : (launch : List Fact) (cs : List Claimed) → denied_all (map (owed launch) cs) ≡ claims_fit cs
denied_owed launch [] = refl
denied_owed launch (c ∷ cs) = ap (λ b. denials_fit c.goal && b) (denied_owed launch cs)

apart : (a b c : Bool) → (a && (b && c)) ≡ ((a && b) && c)
apart true b c = refl
apart false b c = refl

denied_both : (os ps : List Obligation) → denied_all (os ++ ps) ≡ (denied_all os && denied_all ps)
denied_both [] ps = refl
denied_both (o ∷ os) ps = ap (λ b. denied_goal o.goal && b) (denied_both os ps) ∙ apart (denied_goal o.goal) (denied_all os) (denied_all ps)

denied_tree : {E : Type 0} (launch facts : List Fact) (n : ℕ) (t : Tree E) → denied_all (claims launch facts n t) ≡ tree_denials_fit n t
denied_tree launch facts n (Leaf end) = refl
denied_tree launch facts n Dead = refl
denied_tree launch facts n (Claim o needed settled g rest) = ap (λ b. denials_fit g && b) (denied_tree launch facts (suc n) rest)
denied_tree launch facts n (Know f rest) = denied_tree launch (facts ++ f ∷ []) n rest
denied_tree launch facts n (Touch t i h rest) = denied_tree launch facts n rest
denied_tree launch facts n (Fork a b) =
    denied_both (claims launch facts n a) (claims launch facts (after n a) (b (after n a)))
    ∙ (λ i. denied_tree launch facts n a i && denied_tree launch facts (after n a) (b (after n a)) i)

true_and : (a b : Bool) → a ≡ true → b ≡ (a && b)
true_and true b e = refl
true_and false b e = absurd cc

pub denied_trees : {E : Type 0} (c : Conditions) (ts : List (Planted E)) → walks_fit ts ≡ true → denied_all (claims_of c ts) ≡ trees_fit ts
denied_trees c [] h = refl
denied_trees c (p ∷ ts) h =
    let a = and_parts (all_fit p.facts && tree_fits p.claims p.tree) (walks_fit ts) h in
    denied_both (claims (launch_facts c) p.facts p.claims p.tree) (claims_of c ts)
    ∙ (λ i. (denied_tree (launch_facts c) p.facts p.claims p.tree ∙ true_and (all_fit p.facts && tree_fits p.claims p.tree) (tree_denials_fit p.claims p.tree) a.0 ∙ sym (apart (all_fit p.facts) (tree_fits p.claims p.tree) (tree_denials_fit p.claims p.tree))) i && denied_trees c ts a.1 i)

pub trees_are_fit : {E : Type 0} (c : Conditions) (ts : List (Planted E)) (cs : List Claimed) → map (owed (launch_facts c)) cs ≡ claims_of c ts → walks_fit ts ≡ true → claims_fit cs ≡ trees_fit ts
trees_are_fit c ts cs e h = sym (denied_owed (launch_facts c) cs) ∙ ap denied_all e ∙ denied_trees c ts h
