-- A head that is reached is a place of its anchor, with the list of loops turned where there is one.
use Rattle.std.proofs.Common.{◌≡◌, ℕ, Bool, true, false, nat_eq, cond, List, [], ◌∷◌, ◌++◌, Option, Some, None, refl, sym, ap₂, ◌∙◌, inl, inr, eq-eqb, eqb-true, subst}
use Rattle.semantics.specs.Core.{Statements, number}
use Rattle.arrivals.specs.Points.{Has, Point}
use Rattle.arrivals.specs.Trees.{Tree, Comes, Takes, Fork, Leaf, Stop, AtBarrier, AtHead, AtEnd, Turns}
use Rattle.arrivals.specs.Places.{Reach, MeetsAt, Meets, reach_at, reaches, same_numbers, Lists, NoList, OneList, TwoLists, with_list, lists_of, Place, is_head, is_barrier, head_by, heads_among, places_from, from_barriers}
use Rattle.arrivals.proofs.Tests.{and_left, and_right}
use Rattle.arrivals.proofs.Joined.{has_left, has_right}

meets-at : (h : Reach) (stop : Stop) (t : Turns) → MeetsAt h stop t → Has h (reach_at stop t)
meets-at h (AtHead n a) None m = cc
meets-at h (AtHead n a) (Some l) m = inl (by l m.1 m.0)
  where
    by : (l : List ℕ) → Some l ≡ Some h.turns → h.loop ≡ n → h ≡ record { loop = n; turns = l }
    by l e f = let e' : l ≡ h.turns = cc in ap₂ (λ a b. record { loop = a; turns = b }) f (sym e')
meets-at h (AtBarrier n) t m = absurd m
meets-at h AtEnd t m = absurd m

pub meets-has : (h : Reach) (t : Tree) → Meets h t → Has h (reaches t)
meets-has h (Comes s rest) m = meets-has h rest m
meets-has h (Takes st rest) m = meets-has h rest m
meets-has h (Fork left right) (inl m) = has_left h (reaches left) (reaches right) (meets-has h left m)
meets-has h (Fork left right) (inr m) = has_right h (reaches left) (reaches right) (meets-has h right m)
meets-has h (Leaf stop t) m = meets-at h stop t m

pub same_numbers-is : (a b : List ℕ) → same_numbers a b ≡ true → a ≡ b
same_numbers-is [] [] h = refl
same_numbers-is [] (m ∷ ms) h = cc
same_numbers-is (n ∷ ns) [] h = cc
same_numbers-is (n ∷ ns) (m ∷ ms) h = ap₂ (λ a b. a ∷ b) (eqb-true n m (and_left (nat_eq n m) (same_numbers ns ms) h)) (same_numbers-is ns ms (and_right (nat_eq n m) (same_numbers ns ms) h))

-- a list is the only one, or there are two
abbrev pub Holds : List ℕ → Lists → Type 0
Holds l NoList = ⊥
Holds l (OneList m) = m ≡ l
Holds l TwoLists = Unit {0}

holds-new : (l : List ℕ) (ls : Lists) → Holds l (with_list l ls)
holds-new l NoList = refl
holds-new l (OneList m) = by (same_numbers l m) refl
  where
    by : (x : Bool) → same_numbers l m ≡ x → Holds l (cond x (OneList m) TwoLists)
    by true e = sym (same_numbers-is l m e)
    by false e = tt
holds-new l TwoLists = tt

holds-more : (l k : List ℕ) (ls : Lists) → Holds l ls → Holds l (with_list k ls)
holds-more l k NoList h = absurd h
holds-more l k (OneList m) h = by (same_numbers k m)
  where
    by : (x : Bool) → Holds l (cond x (OneList m) TwoLists)
    by true = h
    by false = tt
holds-more l k TwoLists h = tt

lists-hold : (h : Reach) (rs : List Reach) → Has h rs → Holds h.turns (lists_of h.loop rs)
lists-hold h [] k = absurd k
lists-hold h (r ∷ rs) (inl e) = subst (λ (r : Reach). Holds h.turns (cond (nat_eq r.loop h.loop) (with_list r.turns (lists_of h.loop rs)) (lists_of h.loop rs))) e (by (nat_eq h.loop h.loop) (eq-eqb h.loop h.loop refl))
  where
    by : (x : Bool) → x ≡ true → Holds h.turns (cond x (with_list h.turns (lists_of h.loop rs)) (lists_of h.loop rs))
    by true e = holds-new h.turns (lists_of h.loop rs)
    by false e = cc
lists-hold h (r ∷ rs) (inr k) = by (nat_eq r.loop h.loop) (lists-hold h rs k)
  where
    by : (x : Bool) → Holds h.turns (lists_of h.loop rs) → Holds h.turns (cond x (with_list r.turns (lists_of h.loop rs)) (lists_of h.loop rs))
    by true g = holds-more h.turns r.turns (lists_of h.loop rs) g
    by false g = g

-- the place of a head that is reached with such a list
pub record HeadPlace (a : Option Point) (p : Point) (l : List ℕ) (of : List Place) : Type 0 where
  pub turns : Turns
  pub is_place : Has (record { anchor = a; head = Some p; turns = turns }) of
  pub only : (m : List ℕ) → turns ≡ Some m → m ≡ l

first-head : (a : Option Point) (p : Point) (l : List ℕ) (ls : Lists) (rest : List Place) → Holds l ls → HeadPlace a p l (head_by a p ls rest)
first-head a p l NoList rest h = absurd h
first-head a p l (OneList m) rest h = record { turns = Some m; is_place = inl refl; only = λ k e. by k m e h }
  where
    by : (k m : List ℕ) → Some m ≡ Some k → m ≡ l → k ≡ l
    by k m e f = let e' : m ≡ k = cc in sym e' ∙ f
first-head a p l TwoLists rest h = record { turns = None; is_place = inl refl; only = λ k e. cc }

behind-head : (a : Option Point) (p q : Point) (l : List ℕ) (ls : Lists) (rest : List Place) → HeadPlace a p l rest → HeadPlace a p l (head_by a q ls rest)
behind-head a p q l NoList rest h = h
behind-head a p q l (OneList m) rest h = record { turns = h.turns; is_place = inr h.is_place; only = h.only }
behind-head a p q l TwoLists rest h = record { turns = h.turns; is_place = inr h.is_place; only = h.only }

pub heads-have : (a : Option Point) (rs : List Reach) (ps : List Point) (p : Point) (l : List ℕ) → Has p ps → is_head p.statement ≡ true → Has (record { loop = number p.statement; turns = l }) rs → HeadPlace a p l (heads_among a rs ps)
heads-have a rs [] p l k h r = absurd k
heads-have a rs (q ∷ ps) p l (inl e) h r = subst (λ (q : Point). HeadPlace a p l (cond (is_head q.statement) (head_by a q (lists_of (number q.statement) rs) (heads_among a rs ps)) (heads_among a rs ps))) e (by (is_head p.statement) h)
  where
    by : (x : Bool) → x ≡ true → HeadPlace a p l (cond x (head_by a p (lists_of (number p.statement) rs) (heads_among a rs ps)) (heads_among a rs ps))
    by true e = first-head a p l (lists_of (number p.statement) rs) (heads_among a rs ps) (lists-hold (record { loop = number p.statement; turns = l }) rs r)
    by false e = cc
heads-have a rs (q ∷ ps) p l (inr k) h r = by (is_head q.statement) (heads-have a rs ps p l k h r)
  where
    by : (x : Bool) → HeadPlace a p l (heads_among a rs ps) → HeadPlace a p l (cond x (head_by a q (lists_of (number q.statement) rs) (heads_among a rs ps)) (heads_among a rs ps))
    by true g = behind-head a p q l (lists_of (number q.statement) rs) (heads_among a rs ps) g
    by false g = g

-- all places of a barrier are places
pub barriers-have : (body : Statements) (ps : List Point) (p : Point) → Has p ps → is_barrier p.statement ≡ true → (q : Place) → Has q (places_from body (Some p)) → Has q (from_barriers body ps)
barriers-have body [] p k h q m = absurd k
barriers-have body (r ∷ ps) p (inl e) h q m = subst (λ (r : Point). Has q (cond (is_barrier r.statement) (places_from body (Some r) ++ from_barriers body ps) (from_barriers body ps))) e (by (is_barrier p.statement) h)
  where
    by : (x : Bool) → x ≡ true → Has q (cond x (places_from body (Some p) ++ from_barriers body ps) (from_barriers body ps))
    by true e = has_left q (places_from body (Some p)) (from_barriers body ps) m
    by false e = cc
barriers-have body (r ∷ ps) p (inr k) h q m = by (is_barrier r.statement) (barriers-have body ps p k h q m)
  where
    by : (x : Bool) → Has q (from_barriers body ps) → Has q (cond x (places_from body (Some r) ++ from_barriers body ps) (from_barriers body ps))
    by true g = has_right q (places_from body (Some r)) (from_barriers body ps) g
    by false g = g
