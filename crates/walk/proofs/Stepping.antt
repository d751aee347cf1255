-- A step of a cursor in the trees that are left.
use Rattle.std.proofs.Common.{◌≡◌, ◌<◌, ◌≤◌, ℕ, suc, ◌+◌, inl, inr, List, [], ◌∷◌, ◌++◌, map, length, true, false, ◌&&◌, append_assoc, arith, refl, sym, ap, ◌∙◌}
use Rattle.std.specs.Prelude.{Option, Some, None}
use Rattle.std.proofs.lemmas.Bool.{and_from}
use Rattle.std.proofs.lemmas.List.{length-append, map-append}
use Rattle.semantics.specs.Conditions.{Conditions}
use Rattle.facts.specs.Launching.{launch_facts}
use Rattle.facts.proofs.Tests.{and_left, and_right}
use Rattle.walk_trees.specs.Fitting.{all_fit, tree_fits}
use Rattle.walk_trees.specs.Trees.{after, leaves, claims}
use Rattle.path_steps.specs.Paths.{Choice, Found, collect}
use Rattle.path_steps.specs.Turns.{Listed, along, from, rest_of, taken_in, count_in, next_choices, listed_claims, listed_accesses, listed_ends}
use Rattle.path_steps.specs.View.{followed}
use Rattle.path_steps.specs.declared.path.Path.{Path}
use Rattle.path_steps.proofs.Turning.{none_right, ended, turns}
use Rattle.path_steps.proofs.Listing.{tree_claims, tree_accesses, tree_ends}
use Rattle.obligations.specs.Fitting.{planted_fits, trees_fit}
use Rattle.obligations.specs.Listing.{Planted, Of, of_place, is_some, claims_of, accesses_of, ends_in}
use Rattle.obligations.specs.Owning.{all_own_accesses, all_own_ends}
use Rattle.two_thread.specs.Goals.{owed}
use Rattle.two_thread.specs.Paths.{accesses_on, ends_on, claims_seen, accesses_seen, ends_seen}
use Rattle.two_thread.proofs.OwnRows.{accesses-part, ends-part}
use Rattle.walk.specs.Paths.{begun}
use Rattle.walk.specs.Behind.{paths_left, rest_fits}
use Rattle.walk.specs.Cursors.{listed_from, claims_from, count_from, walks_fit, IsWithin, IsAt, Comes}
use Rattle.walk.specs.Steps.{IsOn}
use Rattle.walk.specs.Unfound.{HaveFewPaths, IsFirstOfMany, statement_of}
use Rattle.walk.specs.View.{maybe_choices}
use Rattle.walk.specs.declared.one_path.OnePath.{OnePath}
use Rattle.walk.proofs.Behind.{one_fewer, right_next}
use Rattle.walk.proofs.EveryPlace.{claims_counted}
use Rattle.walk.proofs.Fits.{all_fits, rest_decides}
use Rattle.walk.proofs.Onward.{next_is, path_claims, path_accesses, path_ends, path_count, ends_length, fit_seen, all_counted}

-- where a cursor goes on: at the next choices, or at the next tree
abbrev pub on_choices : Option (List Choice) → List Choice
on_choices None = []
on_choices (Some cs) = cs

abbrev pub on_trees : {E : Type 0} → Option (List Choice) → Planted E → List (Planted E) → List (Planted E)
on_trees None p ps = ps
on_trees (Some cs) p ps = p ∷ ps

abbrev pub on_claims : Option (List Choice) → (here behind : ℕ) → ℕ
on_claims None n m = m
on_claims (Some cs) n m = n

abbrev pub on_ends : Option (List Choice) → ℕ → ℕ
on_ends None n = 0
on_ends (Some cs) n = n

-- before the first path of each tree
pub first_of : {E : Type 0} (ts : List (Planted E)) → IsAt ts 0 []
first_of [] = tt
first_of (p ∷ ps) = record { right = none_right p.claims p.tree; counted = (let h = all_counted p.facts p.claims p.tree in omega (arith, h)); fit = all_fits p.claims p.tree }

-- all that is listed of trees
pub claims_all : {E : Type 0} (c : Conditions) (ts : List (Planted E)) → map (owed (launch_facts c)) (claims_from [] ts) ≡ claims_of c ts
claims_all c [] = refl
claims_all c (p ∷ ps) =
    map-append (owed (launch_facts c)) (from listed_claims p.facts [] p.claims p.tree) (claims_from [] ps)
    ∙ (λ i. tree_claims (launch_facts c) p.facts p.claims p.tree i ++ claims_all c ps i)

pub accesses_all : {E : Type 0} (ts : List (Planted E)) → listed_from listed_accesses [] ts ≡ accesses_of ts
accesses_all [] = refl
accesses_all (p ∷ ps) = λ i. map (of_place p) (tree_accesses p.facts p.claims p.tree i) ++ accesses_all ps i

pub ends_all : {E : Type 0} (ts : List (Planted E)) → listed_from listed_ends [] ts ≡ ends_in ts
ends_all [] = refl
ends_all (p ∷ ps) = λ i. map (of_place p) (tree_ends p.facts p.claims p.tree i) ++ ends_all ps i

-- one tree more in front
few_more : {E : Type 0} (front : List (Planted E)) (p : Planted E) → HaveFewPaths front → leaves p.claims p.tree ≤ 256 → HaveFewPaths (front ++ p ∷ [])
few_more [] p h l = (l, tt)
few_more (q ∷ qs) p h l = (h.0, few_more qs p h.1 l)

fit_more : {E : Type 0} (front : List (Planted E)) (p : Planted E) → walks_fit front ≡ true → (all_fit p.facts && tree_fits p.claims p.tree) ≡ true → walks_fit (front ++ p ∷ []) ≡ true
fit_more [] p h l = and_from (all_fit p.facts && tree_fits p.claims p.tree) true l refl
fit_more (q ∷ qs) p h l = both (all_fit q.facts && tree_fits q.claims q.tree) (walks_fit qs) (walks_fit (qs ++ p ∷ [])) h (λ k. fit_more qs p k l)
  where
    both : (a b c : _) → (a && b) ≡ true → (b ≡ true → c ≡ true) → (a && c) ≡ true
    both true b c h f = f h
    both false b c h f = absurd cc

count_append : {E : Type 0} (c : Conditions) (front rest : List (Planted E)) → length (claims_of c (front ++ rest)) ≡ length (claims_of c front) + length (claims_of c rest)
count_append c [] rest = omega arith
count_append c (q ∷ qs) rest =
    let h = count_append c qs rest in
    let a = length-append (claims (launch_facts c) q.facts q.claims q.tree) (claims_of c (qs ++ rest)) in
    let b = length-append (claims (launch_facts c) q.facts q.claims q.tree) (claims_of c qs) in
    omega (arith, h, a, b)

-- the claims to the end of a tree
pub count_to : {E : Type 0} (c : Conditions) (front : List (Planted E)) (p : Planted E) (rest : List (Planted E)) → length (claims_of c front) ≡ p.claims → length (claims_of c (front ++ p ∷ rest)) ≡ after p.claims p.tree + length (claims_of c rest)
count_to c front p rest h =
    let a = count_append c front (p ∷ rest) in
    let b = length-append (claims (launch_facts c) p.facts p.claims p.tree) (claims_of c rest) in
    let k = claims_counted (launch_facts c) p.facts p.claims p.tree in
    omega (arith, h, a, b, k)

-- of the first tree with many paths, or one that does not fit
pub many_left : {E : Type 0} (front : List (Planted E)) (p : Planted E) (rest : List (Planted E)) (s : _) → HaveFewPaths front → s ≡ statement_of p → 256 < leaves p.claims p.tree → IsFirstOfMany s (front ++ p ∷ rest)
many_left [] p rest s h e l = inl (e, l)
many_left (q ∷ qs) p rest s h e l = inr (h.0, many_left qs p rest s h.1 e l)

pub unfit_left : {E : Type 0} (front : List (Planted E)) (p : Planted E) (rest : List (Planted E)) → planted_fits p ≡ false → trees_fit (front ++ p ∷ rest) ≡ false
unfit_left [] p rest e = and_left (planted_fits p) (trees_fit rest) e
unfit_left (q ∷ qs) p rest e = and_right (planted_fits q) (trees_fit (qs ++ p ∷ rest)) (unfit_left qs p rest e)

-- too many paths end
pub many_within : {E : Type 0} (p : Planted E) (ends : ℕ) (cs : List Choice) (q : Path E) → IsWithin p ends cs → (followed q).found ≡ collect (begun p.facts p.claims cs) p.tree → 256 < ends + length q.ends.items → 256 < leaves p.claims p.tree
many_within p ends cs q h d l =
    let x = next_choices (taken_in cs p.tree) (count_in cs p.claims p.tree) in
    let a = ap length (turns listed_ends p.facts cs p.claims p.tree h.right) in
    let b = length-append (along listed_ends p.facts cs p.claims p.tree) (rest_of listed_ends p.facts p.claims p.tree x) in
    let e = ap length (path_ends p.facts p.claims p.tree q cs d) in
    omega (arith, l, a, b, e, ends_length q, h.counted)

-- a path is walked along these choices
module _ {E : Type 0} (p : Planted E) (ps : List (Planted E)) (cs : List Choice) (ends : ℕ) (h : IsWithin p ends cs) (w : OnePath E) (on : IsOn p cs ends w) where
  abbrev path : Path E
  path = w.path.path

  abbrev pub next : Option (List Choice)
  next = maybe_choices w.next

  abbrev next_there : Option (List Choice)
  next_there = next_choices (taken_in cs p.tree) (count_in cs p.claims p.tree)

  is_next : next ≡ next_there
  is_next = next_is p.facts p.claims p.tree path cs on.found next on.next

  same_place : {A : Type 0} (xs ys : List A) → xs ≡ ys → map {B = Of A} (λ a. record { anchor = w.path.anchor; is_head = w.path.is_head; it = a }) xs ≡ map (λ a. record { anchor = p.anchor; is_head = is_some p.head; it = a }) ys
  same_place xs ys e = λ i. map (λ a. record { anchor = on.anchor i; is_head = on.head i; it = a }) (e i)

  -- what is left is what stands along the path, and what is left behind it
  along_rest : {A : Type 0} (l : Listed E A) (x : Option (List Choice)) → x ≡ next_there → from l p.facts cs p.claims p.tree ≡ along l p.facts cs p.claims p.tree ++ rest_of l p.facts p.claims p.tree x
  along_rest l x e = sym (turns l p.facts cs p.claims p.tree h.right) ∙ ap (λ y. along l p.facts cs p.claims p.tree ++ rest_of l p.facts p.claims p.tree y) (sym e)

  rest_listed : {A : Type 0} (l : Listed E A) (x : Option (List Choice)) → map (of_place p) (rest_of l p.facts p.claims p.tree x) ++ listed_from l [] ps ≡ listed_from l (on_choices x) (on_trees x p ps)
  rest_listed l None = refl
  rest_listed l (Some ds) = refl

  listed_step : {A : Type 0} (l : Listed E A) (x : Option (List Choice)) → x ≡ next_there → listed_from l cs (p ∷ ps) ≡ map (of_place p) (along l p.facts cs p.claims p.tree) ++ listed_from l (on_choices x) (on_trees x p ps)
  listed_step {A} l x e =
      ap (λ (ys : List A). map (of_place p) ys ++ listed_from l [] ps) (along_rest l x e)
      ∙ ap (λ (ys : List (Of A)). ys ++ listed_from l [] ps) (map-append (of_place p) (along l p.facts cs p.claims p.tree) (rest_of l p.facts p.claims p.tree x))
      ∙ append_assoc (map (of_place p) (along l p.facts cs p.claims p.tree)) (map (of_place p) (rest_of l p.facts p.claims p.tree x)) (listed_from l [] ps)
      ∙ ap (λ (ys : List (Of A)). map (of_place p) (along l p.facts cs p.claims p.tree) ++ ys) (rest_listed l x)

  rest_claims : (x : Option (List Choice)) → rest_of listed_claims p.facts p.claims p.tree x ++ claims_from [] ps ≡ claims_from (on_choices x) (on_trees x p ps)
  rest_claims None = refl
  rest_claims (Some ds) = refl

  pub gives_claims : claims_from cs (p ∷ ps) ≡ claims_seen w.path ++ claims_from (on_choices next) (on_trees next p ps)
  gives_claims =
      ap (λ l. l ++ claims_from [] ps) (along_rest listed_claims next is_next)
      ∙ append_assoc (along listed_claims p.facts cs p.claims p.tree) (rest_of listed_claims p.facts p.claims p.tree next) (claims_from [] ps)
      ∙ (λ i. sym (path_claims p.facts p.claims p.tree path cs on.found) i ++ rest_claims next i)

  pub gives_accesses : listed_from listed_accesses cs (p ∷ ps) ≡ accesses_seen w.path ++ listed_from listed_accesses (on_choices next) (on_trees next p ps)
  gives_accesses =
      listed_step listed_accesses next is_next
      ∙ ap (λ l. l ++ listed_from listed_accesses (on_choices next) (on_trees next p ps)) (sym (same_place (accesses_on path) (along listed_accesses p.facts cs p.claims p.tree) (path_accesses p.facts p.claims p.tree path cs on.found)))

  pub gives_ends : listed_from listed_ends cs (p ∷ ps) ≡ ends_seen w.path ++ listed_from listed_ends (on_choices next) (on_trees next p ps)
  gives_ends =
      listed_step listed_ends next is_next
      ∙ ap (λ l. l ++ listed_from listed_ends (on_choices next) (on_trees next p ps)) (sym (same_place (ends_on path) (along listed_ends p.facts cs p.claims p.tree) (path_ends p.facts p.claims p.tree path cs on.found)))

  rest_count : (x : Option (List Choice)) → paths_left p.claims p.tree x + count_from [] ps ≡ count_from (on_choices x) (on_trees x p ps)
  rest_count None = omega arith
  rest_count (Some ds) = refl

  pub gives_count : count_from cs (p ∷ ps) ≡ suc (count_from (on_choices next) (on_trees next p ps))
  gives_count =
      let o = one_fewer cs p.claims p.tree h.right in
      let f = ap (paths_left p.claims p.tree) is_next in
      let r = rest_count next in
      omega (arith, o, f, r)

  counts : (x : Option (List Choice)) → x ≡ next_there → w.ends + length (rest_of listed_ends p.facts p.claims p.tree x) ≡ leaves p.claims p.tree
  counts x e =
      let a = ap length (along_rest listed_ends x e) in
      let b = length-append (along listed_ends p.facts cs p.claims p.tree) (rest_of listed_ends p.facts p.claims p.tree x) in
      let d = ap length (path_ends p.facts p.claims p.tree path cs on.found) in
      omega (arith, a, b, d, ends_length path, on.ended, h.counted)

  fits : (x : Option (List Choice)) → x ≡ next_there → rest_fits p.claims p.tree x ≡ tree_fits p.claims p.tree
  fits x e =
      ap (rest_fits p.claims p.tree) e
      ∙ rest_decides (begun p.facts p.claims cs) p.tree (ap (λ (m : Found E). m.is_fit) (sym on.found) ∙ fit_seen path) h.right ∙ h.fit

  module _ (ts : List (Planted E)) (c : Comes ts (p ∷ ps) p.claims ends cs) where
    own_accesses_parts : (all_own_accesses (accesses_seen w.path) ≡ true) × (all_own_accesses (listed_from listed_accesses (on_choices next) (on_trees next p ps)) ≡ true)
    own_accesses_parts = accesses-part (accesses_seen w.path) (listed_from listed_accesses (on_choices next) (on_trees next p ps)) (ap all_own_accesses (sym gives_accesses) ∙ c.own_accesses)

    own_ends_parts : (all_own_ends (ends_seen w.path) ≡ true) × (all_own_ends (listed_from listed_ends (on_choices next) (on_trees next p ps)) ≡ true)
    own_ends_parts = ends-part (ends_seen w.path) (listed_from listed_ends (on_choices next) (on_trees next p ps)) (ap all_own_ends (sym gives_ends) ∙ c.own_ends)

    pub own_path_accesses : all_own_accesses (accesses_seen w.path) ≡ true
    own_path_accesses = own_accesses_parts.0

    pub own_path_ends : all_own_ends (ends_seen w.path) ≡ true
    own_path_ends = own_ends_parts.0

    pub none_after : next ≡ None → path.count ≡ after p.claims p.tree
    none_after o = path_count p.facts p.claims p.tree path cs on.found ∙ ended cs p.claims p.tree (sym is_next ∙ o) h.right

    come : (x : Option (List Choice)) → x ≡ next → all_own_accesses (listed_from listed_accesses (on_choices x) (on_trees x p ps)) ≡ true → all_own_ends (listed_from listed_ends (on_choices x) (on_trees x p ps)) ≡ true → Comes ts (on_trees x p ps) (on_claims x p.claims path.count) (on_ends x w.ends) (on_choices x)
    come None e a b = record {
      front = c.front ++ p ∷ [];
      whole = c.whole ∙ sym (append_assoc c.front (p ∷ []) ps);
      few = few_more c.front p c.few (let k = counts None (e ∙ is_next) in omega (arith, k, on.few));
      fit = fit_more c.front p c.fit (and_from (all_fit p.facts) (tree_fits p.claims p.tree) on.known (sym (fits None (e ∙ is_next))));
      counted = λ k. (let u = count_to k c.front p [] (c.counted k) in let v = none_after (sym e) in omega (arith, u, v));
      within = first_of ps;
      own_accesses = a;
      own_ends = b;
    }
    come (Some ds) e a b = record {
      front = c.front;
      whole = c.whole;
      few = c.few;
      fit = c.fit;
      counted = c.counted;
      within = record { right = right_next cs p.claims p.tree (Some ds) (sym (e ∙ is_next)) h.right; counted = counts (Some ds) (e ∙ is_next); fit = fits (Some ds) (e ∙ is_next) };
      own_accesses = a;
      own_ends = b;
    }

    pub comes_on : Comes ts (on_trees next p ps) (on_claims next p.claims path.count) (on_ends next w.ends) (on_choices next)
    comes_on = come next refl own_accesses_parts.1 own_ends_parts.1
