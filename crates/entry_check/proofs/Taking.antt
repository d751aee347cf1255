-- What was taken of a list of obligations, put together.
use Rattle.std.proofs.Common.{◌≡◌, ◌<◌, ℕ, ◌+◌, List, [], ◌∷◌, ◌++◌, map, drop, get_or, length, drop-cons, add-one, Bool, append_assoc, refl, sym, ap, subst, ◌∙◌, arith, inl, inr}
use Rattle.std.proofs.lemmas.List.{map-append, length-append, length-map, length-drop}
use Rattle.domain.specs.declared.Domain.{Ghosts}
use Rattle.certificate_text.specs.Certificate.{Entry}
use Rattle.facts.specs.declared.error.WalkError.{WalkError}
use Rattle.facts.specs.declared.error.WalkError.TheVariants as walks
use Rattle.two_thread.specs.Refusals.{IsOver}
use Rattle.walk.specs.declared.error.FindError.{FindError}
use Rattle.walk.specs.declared.error.FindError.TheVariants as finds
use Rattle.walk.specs.declared.terrain.Terrain.{Terrain}
use Rattle.walk_trees.specs.Trees.{Obligation}
use Rattle.entry_check.specs.Entries.{Said}
use Rattle.entry_check.specs.Tallies.{Comes, Cuts, CutsOne, Fails, Takes, TakesOne}
use Rattle.entry_check.specs.declared.tally.Tally.{Tally}

pub map-map : {A B C : Type 0} (f : B → C) (v : A → B) (xs : List A) → map f (map v xs) ≡ map (λ x. f (v x)) xs
map-map f v [] = refl
map-map f v (x ∷ xs) = ap (λ l. f (v x) ∷ l) (map-map f v xs)

in_front : {A B : Type 0} (f : A → B) (us vs : List A) (rest : List B) → map f (us ++ vs) ++ rest ≡ map f us ++ (map f vs ++ rest)
in_front f us vs rest = ap (λ l. l ++ rest) (map-append f us vs) ∙ append_assoc (map f us) (map f vs) rest

module _ {A : Type 0} (s : Said) (f : A → Obligation) (p : A → Bool) where
  pub takes_none : (xs : List A) (a : Tally) → Takes s f p xs xs a a
  takes_none xs a es fit os fs us bs c = c

  pub takes_then : (xs ys zs : List A) (a b d : Tally) → Takes s f p xs ys a b → Takes s f p ys zs b d → Takes s f p xs zs a d
  takes_then xs ys zs a b d h k es fit os fs us bs c = k es fit os fs us bs (h es fit os fs us bs c)

  -- what stands in front is taken
  pub takes_front : (us vs : List A) (a b : Tally) → Takes s f p us [] a b → Takes s f p (us ++ vs) vs a b
  takes_front xs ys a b h es fit os fs us bs c =
      h es fit os fs (map f ys ++ us) (map p ys ++ bs) (subst (λ l. Comes s es fit os fs l (map p xs ++ (map p ys ++ bs)) a) (in_front f xs ys us) (subst (λ l. Comes s es fit os fs (map f (xs ++ ys) ++ us) l a) (in_front p xs ys bs) c))

  pub takes_one : (x : A) (xs : List A) (a b : Tally) → TakesOne s (f x) (p x) a b → Takes s f p (x ∷ xs) xs a b
  takes_one x xs a b h es fit os fs us bs c = h es fit os fs (map f xs ++ us) (map p xs ++ bs) c

  pub takes_same : (xs xs' ys ys' : List A) (a b : Tally) → xs ≡ xs' → ys ≡ ys' → Takes s f p xs ys a b → Takes s f p xs' ys' a b
  takes_same xs xs' ys ys' a b e q h = subst (λ l. Takes s f p l ys' a b) e (subst (λ l. Takes s f p xs l a b) q h)

  -- one step of a loop over what is left
  pub takes_step : (all xs us ys : List A) (a b d : Tally) → Takes s f p all xs a b → xs ≡ us ++ ys → Takes s f p us [] b d → Takes s f p all ys a d
  takes_step all xs us ys a b d h e k = takes_then all xs ys a b d h (subst (λ l. Takes s f p l ys b d) (sym e) (takes_front us ys b d k))

  pub takes_next : (all xs ys : List A) (x : A) (a b d : Tally) → Takes s f p all xs a b → xs ≡ x ∷ ys → TakesOne s (f x) (p x) b d → Takes s f p all ys a d
  takes_next all xs ys x a b d h e k = takes_then all xs ys a b d h (subst (λ l. Takes s f p l ys b d) (sym e) (takes_one x ys b d k))

  pub takes_end : (all xs : List A) (a b : Tally) → xs ≡ [] → Takes s f p all xs a b → Takes s f p all [] a b
  takes_end all xs a b e h = subst (λ l. Takes s f p all l a b) e h

  -- an error where a part is taken is one of the whole
  pub cuts_front : (us vs : List A) (a : Tally) (e : FindError) → Cuts s f p us a e → Cuts s f p (us ++ vs) a e
  cuts_front xs ys a e h es fit os fs us bs c =
      h es fit os fs (map f ys ++ us) (map p ys ++ bs) (subst (λ l. Comes s es fit os fs l (map p xs ++ (map p ys ++ bs)) a) (in_front f xs ys us) (subst (λ l. Comes s es fit os fs (map f (xs ++ ys) ++ us) l a) (in_front p xs ys bs) c))

  pub cuts_then : (xs ys : List A) (a b : Tally) (e : FindError) → Takes s f p xs ys a b → Cuts s f p ys b e → Cuts s f p xs a e
  cuts_then xs ys a b e h k es fit os fs us bs c = k es fit os fs us bs (h es fit os fs us bs c)

  pub cuts_one : (x : A) (xs : List A) (a : Tally) (e : FindError) → CutsOne s (f x) (p x) a e → Cuts s f p (x ∷ xs) a e
  cuts_one x xs a e h es fit os fs us bs c = h es fit os fs (map f xs ++ us) (map p xs ++ bs) c

  pub cuts_step : (all xs us ys : List A) (a b : Tally) (e : FindError) → Takes s f p all xs a b → xs ≡ us ++ ys → Cuts s f p us b e → Cuts s f p all a e
  cuts_step all xs us ys a b e h q k = cuts_then all xs a b e h (subst (λ l. Cuts s f p l b e) (sym q) (cuts_front us ys b e k))

  pub cuts_next : (all xs ys : List A) (x : A) (a b : Tally) (e : FindError) → Takes s f p all xs a b → xs ≡ x ∷ ys → CutsOne s (f x) (p x) b e → Cuts s f p all a e
  cuts_next all xs ys x a b e h q k = cuts_then all xs a b e h (subst (λ l. Cuts s f p l b e) (sym q) (cuts_one x ys b e k))

  -- or the walk of a place does not come to its end
  module _ {E : Type 0} (g : Ghosts E) (t : Terrain E) where
    pub fails_then : (xs ys : List A) (a b : Tally) (e : FindError) → Takes s f p xs ys a b → Fails g t s f p ys b e → Fails g t s f p xs a e
    fails_then xs ys a b e h (inl u) = inl u
    fails_then xs ys a b e h (inr k) = inr (cuts_then xs ys a b e h k)

    pub fails_front : (us vs : List A) (a : Tally) (e : FindError) → Fails g t s f p us a e → Fails g t s f p (us ++ vs) a e
    fails_front us vs a e (inl u) = inl u
    fails_front us vs a e (inr k) = inr (cuts_front us vs a e k)

    pub fails_step : (all xs us ys : List A) (a b : Tally) (e : FindError) → Takes s f p all xs a b → xs ≡ us ++ ys → Fails g t s f p us b e → Fails g t s f p all a e
    fails_step all xs us ys a b e h q k = fails_then all xs a b e h (subst (λ l. Fails g t s f p l b e) (sym q) (fails_front us ys b e k))

-- of things that are seen as others
module _ {A B : Type 0} (s : Said) (f : B → Obligation) (p : B → Bool) (v : A → B) where
  seen_comes : (xs : List A) (ys : List B) (es : List Entry) (fit : Bool) (os : List Obligation) (fs : List Bool) (us : List Obligation) (bs : List Bool) (a : Tally) → map v xs ≡ ys → Comes s es fit os fs (map f ys ++ us) (map p ys ++ bs) a → Comes s es fit os fs (map (λ x. f (v x)) xs ++ us) (map (λ x. p (v x)) xs ++ bs) a
  seen_comes xs ys es fit os fs us bs a e c =
      subst (λ l. Comes s es fit os fs (l ++ us) (map (λ x. p (v x)) xs ++ bs) a) (map-map f v xs)
      (subst (λ l. Comes s es fit os fs (map f (map v xs) ++ us) (l ++ bs) a) (map-map p v xs)
      (subst (λ l. Comes s es fit os fs (map f l ++ us) (map p l ++ bs) a) (sym e) c))

  pub takes_seen : (xs : List A) (ys : List B) (a b : Tally) → map v xs ≡ ys → Takes s (λ x. f (v x)) (λ x. p (v x)) xs [] a b → Takes s f p ys [] a b
  takes_seen xs ys a b e h es fit os fs us bs c = h es fit os fs us bs (seen_comes xs ys es fit os fs us bs a e c)

  pub cuts_seen : (xs : List A) (ys : List B) (a : Tally) (e : FindError) → map v xs ≡ ys → Cuts s (λ x. f (v x)) (λ x. p (v x)) xs a e → Cuts s f p ys a e
  cuts_seen xs ys a e q h es fit os fs us bs c = h es fit os fs us bs (seen_comes xs ys es fit os fs us bs a q c)

-- of what is left, at a number
pub next_at : {A : Type 0} (xs : List A) (i : ℕ) (d : A) → i < length xs → drop i xs ≡ get_or xs i d ∷ drop (i + 1) xs
next_at xs i d h = drop-cons xs i d h ∙ ap (λ k. get_or xs i d ∷ drop k xs) (sym (add-one i))

-- a list of its own over 65,536 cuts all
pub over_cuts : {A : Type 0} (s : Said) (f : A → Obligation) (p : A → Bool) (xs : List A) (a : Tally) → 65536 < length xs → Cuts s f p xs a (finds.Walk walks.TooMany)
over_cuts s f p xs a h es fit os fs us bs c =
    let l = length-append (map f xs) us in
    let m = length-map xs f in
    let n = ap length c.obligations in
    let k = length-drop a.count os in
    omega (arith, h, l, m, n, k)

pub over_cut : {A : Type 0} (s : Said) (f : A → Obligation) (p : A → Bool) (xs : List A) (a : Tally) (e : WalkError) → IsOver 65536 (length xs) e → Cuts s f p xs a (finds.Walk e)
over_cut s f p xs a walks.TooMany h = over_cuts s f p xs a h
over_cut s f p xs a walks.TooLarge h = absurd h
over_cut s f p xs a walks.Memory h = λ es fit os fs us bs c. tt
