-- One path more.
use Rattle.std.proofs.Common.{◌≡◌, ◌<◌, ℕ, ◌+◌, List, [], ◌∷◌, ◌++◌, map, length, true, false, append-nil, append_assoc, arith, refl, sym, ap, subst, ◌∙◌}
use Rattle.std.specs.Prelude.{Option, Some}
use Rattle.std.proofs.lemmas.List.{length-append, length-map}
use Rattle.linear.specs.Forms.{forms}
use Rattle.facts.specs.Symbols.{Fact}
use Rattle.walk_trees.specs.Fitting.{tree_fits}
use Rattle.walk_trees.specs.Trees.{Tree, leaves, after}
use Rattle.path_steps.specs.Paths.{Choice, Found, collect}
use Rattle.path_steps.specs.Turns.{along, from, taken_in, count_in, next_choices, rest_of, AreRight, listed_claims, listed_accesses, listed_ends}
use Rattle.path_steps.specs.View.{followed, choice, ended_seen}
use Rattle.path_steps.specs.declared.path.Choice as code
use Rattle.path_steps.specs.declared.path.Path.{Path}
use Rattle.path_steps.proofs.Turning.{none_right, ended, turns}
use Rattle.path_steps.proofs.Collecting.{found_claims, found_accesses, found_ends, found_taken, found_count, too_many, too_large}
use Rattle.path_steps.proofs.Listing.{tree_ends, ends_counted}
use Rattle.walk.specs.Paths.{all_claims, all_accesses, all_ends, begun}
use Rattle.walk.specs.Behind.{paths_left, rest_fits}
use Rattle.walk.specs.Walked.{Walked}
use Rattle.walk.proofs.Behind.{one_fewer, right_next}
use Rattle.walk.proofs.Fits.{tree_same, all_fits, rest_decides}

claims_more : {E : Type 0} (ps : List (Path E)) (p : Path E) → all_claims (ps ++ p ∷ []) ≡ all_claims ps ++ (followed p).found.claims
claims_more [] p = append-nil (followed p).found.claims
claims_more (q ∷ ps) p = ap (λ l. (followed q).found.claims ++ l) (claims_more ps p) ∙ sym (append_assoc (followed q).found.claims (all_claims ps) (followed p).found.claims)

accesses_more : {E : Type 0} (ps : List (Path E)) (p : Path E) → all_accesses (ps ++ p ∷ []) ≡ all_accesses ps ++ (followed p).found.accesses
accesses_more [] p = append-nil (followed p).found.accesses
accesses_more (q ∷ ps) p = ap (λ l. (followed q).found.accesses ++ l) (accesses_more ps p) ∙ sym (append_assoc (followed q).found.accesses (all_accesses ps) (followed p).found.accesses)

ends_more : {E : Type 0} (ps : List (Path E)) (p : Path E) → all_ends (ps ++ p ∷ []) ≡ all_ends ps ++ (followed p).found.ends
ends_more [] p = append-nil (followed p).found.ends
ends_more (q ∷ ps) p = ap (λ l. (followed q).found.ends ++ l) (ends_more ps p) ∙ sym (append_assoc (followed q).found.ends (all_ends ps) (followed p).found.ends)

pub taken_seen : {E : Type 0} (p : Path E) → (followed p).found.taken ≡ map choice p.taken.items
unfolding followed
taken_seen p = refl

pub count_seen : {E : Type 0} (p : Path E) → (followed p).found.count ≡ p.count
unfolding followed
count_seen p = refl

pub ends_length : {E : Type 0} (p : Path E) → length (followed p).found.ends ≡ length p.ends.items
unfolding followed
ends_length p = length-map p.ends.items (ended_seen (forms p.facts.items) p.news.items p.narrowed.items)

pub fit_seen : {E : Type 0} (p : Path E) → (followed p).found.is_fit ≡ true
unfolding followed
fit_seen p = refl

-- the choices that were taken, as the code has them
pub next_from : {E : Type 0} (p : Path E) (x : Option (List Choice)) (taken : List code.Choice) → x ≡ next_choices (map choice taken) p.count → taken ≡ p.taken.items → x ≡ next_choices (map choice p.taken.items) p.count
next_from p x taken e d = e ∙ ap (λ l. next_choices (map choice l) p.count) d

-- as many ends are listed as there are leaves
pub all_counted : {E : Type 0} (facts : List Fact) (n : ℕ) (t : Tree E) → length (from listed_ends facts [] n t) ≡ leaves n t
all_counted facts n t = ap length (tree_ends facts n t) ∙ ends_counted facts n t

module _ {E : Type 0} (facts : List Fact) (n : ℕ) (t : Tree E) where
  module _ (p : Path E) (cs : List Choice) (d : (followed p).found ≡ collect (begun facts n cs) t) where
    pub path_claims : (followed p).found.claims ≡ along listed_claims facts cs n t
    path_claims = ap (λ (m : Found E). m.claims) d ∙ found_claims (begun facts n cs) t

    pub path_accesses : (followed p).found.accesses ≡ along listed_accesses facts cs n t
    path_accesses = ap (λ (m : Found E). m.accesses) d ∙ found_accesses (begun facts n cs) t

    pub path_ends : (followed p).found.ends ≡ along listed_ends facts cs n t
    path_ends = ap (λ (m : Found E). m.ends) d ∙ found_ends (begun facts n cs) t

    pub path_count : p.count ≡ count_in cs n t
    path_count = sym (count_seen p) ∙ ap (λ (m : Found E). m.count) d ∙ found_count (begun facts n cs) t

    pub next_is : (x : Option (List Choice)) → x ≡ next_choices (map choice p.taken.items) p.count → x ≡ next_choices (taken_in cs t) (count_in cs n t)
    next_is x e =
        e ∙ (λ i. next_choices ((sym (taken_seen p) ∙ ap (λ (m : Found E). m.taken) d ∙ found_taken (begun facts n cs) t) i) (path_count i))

    module _ (found : List (Path E)) (so_many before : ℕ) (w : Walked facts n t found so_many before (Some cs)) where
      more_claims : (x : Option (List Choice)) → x ≡ next_choices (taken_in cs t) (count_in cs n t) → all_claims (found ++ p ∷ []) ++ rest_of listed_claims facts n t x ≡ from listed_claims facts [] n t
      more_claims x e =
          (λ i. (claims_more found p ∙ ap (λ l. all_claims found ++ l) path_claims) i ++ rest_of listed_claims facts n t (e i))
          ∙ append_assoc (all_claims found) (along listed_claims facts cs n t) _
          ∙ ap (λ l. all_claims found ++ l) (turns listed_claims facts cs n t w.right)
          ∙ w.claims

      more_accesses : (x : Option (List Choice)) → x ≡ next_choices (taken_in cs t) (count_in cs n t) → all_accesses (found ++ p ∷ []) ++ rest_of listed_accesses facts n t x ≡ from listed_accesses facts [] n t
      more_accesses x e =
          (λ i. (accesses_more found p ∙ ap (λ l. all_accesses found ++ l) path_accesses) i ++ rest_of listed_accesses facts n t (e i))
          ∙ append_assoc (all_accesses found) (along listed_accesses facts cs n t) _
          ∙ ap (λ l. all_accesses found ++ l) (turns listed_accesses facts cs n t w.right)
          ∙ w.accesses

      more_ends : (x : Option (List Choice)) → x ≡ next_choices (taken_in cs t) (count_in cs n t) → all_ends (found ++ p ∷ []) ++ rest_of listed_ends facts n t x ≡ from listed_ends facts [] n t
      more_ends x e =
          (λ i. (ends_more found p ∙ ap (λ l. all_ends found ++ l) path_ends) i ++ rest_of listed_ends facts n t (e i))
          ∙ append_assoc (all_ends found) (along listed_ends facts cs n t) _
          ∙ ap (λ l. all_ends found ++ l) (turns listed_ends facts cs n t w.right)
          ∙ w.ends

      -- one more is counted where it ends
      more_counted : so_many + length p.ends.items ≡ length (all_ends (found ++ p ∷ []))
      more_counted =
          let j = ap length (ends_more found p) in
          let a = length-append (all_ends found) (followed p).found.ends in
          let l = ends_length p in
          omega (arith, j, a, l, w.counted)

      more_fits : (x : Option (List Choice)) → x ≡ next_choices (taken_in cs t) (count_in cs n t) → rest_fits n t x ≡ tree_fits n t
      more_fits x e = ap (rest_fits n t) e ∙ rest_decides (begun facts n cs) t (ap (λ (m : Found E). m.is_fit) (sym d) ∙ fit_seen p) w.right ∙ w.fit

      -- one path more
      pub one_more : (after_it : List (Path E)) (now count : ℕ) (x : Option (List Choice)) → after_it ≡ found ++ p ∷ [] → now ≡ so_many + length p.ends.items → count ≡ p.count → x ≡ next_choices (map choice p.taken.items) p.count → Walked facts n t after_it now count x
      one_more after_it now count x a h c e =
          let f = next_is x e in
          record {
            claims = ap (λ l. all_claims l ++ rest_of listed_claims facts n t x) a ∙ more_claims x f;
            accesses = ap (λ l. all_accesses l ++ rest_of listed_accesses facts n t x) a ∙ more_accesses x f;
            ends = ap (λ l. all_ends l ++ rest_of listed_ends facts n t x) a ∙ more_ends x f;
            counted = h ∙ more_counted ∙ ap (λ l. length (all_ends l)) (sym a);
            right = right_next cs n t x (sym f) w.right;
            fit = more_fits x f;
            last = λ o. c ∙ path_count ∙ ended cs n t (sym f ∙ o) w.right;
          }

      pub fewer_left : (x : Option (List Choice)) → x ≡ next_choices (map choice p.taken.items) p.count → paths_left n t x < paths_left n t (Some cs)
      fewer_left x e =
          let f = ap (paths_left n t) (next_is x e) in
          let o = one_fewer cs n t w.right in
          omega (arith, f, o)

      -- too many paths end
      pub many_end : 256 < so_many + length p.ends.items → 256 < leaves n t
      many_end h =
          let x = next_choices (taken_in cs t) (count_in cs n t) in
          let u = ap length (more_ends x refl) in
          let a = length-append (all_ends (found ++ p ∷ [])) (rest_of listed_ends facts n t x) in
          omega (arith, h, more_counted, u, a, all_counted facts n t)

  -- what is refused of a path is so of the tree
  pub path_long : (cs : List Choice) → AreRight cs n t → (collect (begun facts n cs) t).is_few ≡ false → 65536 < after n t
  path_long cs r h = too_many (begun facts n cs) t h refl r

  pub path_unfit : (cs : List Choice) → AreRight cs n t → (collect (begun facts n cs) t).is_fit ≡ false → tree_fits n t ≡ false
  path_unfit cs r h = sym (tree_same n t) ∙ too_large (begun facts n cs) t h refl r

begin : {E : Type 0} (facts : List Fact) (n count : ℕ) (t : Tree E) → Walked facts n t [] 0 count (Some [])
begin facts n count t = record { claims = refl; accesses = refl; ends = refl; counted = refl; right = none_right n t; fit = all_fits n t; last = λ o. absurd cc }

-- before the first path
pub at_first : {E : Type 0} (facts : List Fact) (n count : ℕ) (t : Tree E) (found : List (Path E)) (cs : List code.Choice) → found ≡ [] → cs ≡ [] → Walked facts n t found 0 count (Some (map choice cs))
at_first facts n count t found cs e d = subst (λ l. Walked facts n t l 0 count (Some (map choice cs))) (sym e) (subst (λ l. Walked facts n t [] 0 count (Some (map choice l))) (sym d) (begin facts n count t))
