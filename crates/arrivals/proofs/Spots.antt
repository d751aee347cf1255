-- The points of a tree that an item may come to, with the paths there: leaves, statements in front, and steps.
use Rattle.std.proofs.Common.{◌≡◌, ℕ, List, ◌∷◌, refl, sym, ap, inl, inr, subst}
use Rattle.std.specs.Prelude.{◌⊎◌}
use Rattle.semantics.specs.Setup.{Setup}
use Rattle.semantics.specs.Conditions.{Content}
use Rattle.arrivals.specs.Trees.{Step, Enters, Stop, Turns, Tree, Comes, Takes, Fork, Leaf, End, IsEnd, Front, IsFront}
use Rattle.arrivals.specs.LoopTests.{IsEntering}
use Rattle.arrivals.specs.Points.{Left}
use Rattle.arrivals.specs.Paths as paths
use Rattle.arrivals.specs.Paths.{Follows, Held, Ranking}

pub data Spot : Type 0 where
  Stops : (stop : Stop) (turns : Turns) → Spot
  Before : (statement : Left) → Spot
  Taking : (step : Step) → Spot

abbrev pub IsSpot : Spot → (end path : List Step) → Tree → Type 0
IsSpot x end path (Comes a rest) = ((x ≡ Before a) × (end ≡ path)) ⊎ IsSpot x end path rest
IsSpot x end path (Takes st rest) = ((x ≡ Taking st) × (end ≡ path)) ⊎ IsSpot x end (st ∷ path) rest
IsSpot x end path (Fork left right) = IsSpot x end path left ⊎ IsSpot x end path right
IsSpot x end path (Leaf stop t) = (x ≡ Stops stop t) × (end ≡ path)

-- from the front on: an item goes through the tree to that point
abbrev pub Reaches : Setup → List Content → Ranking → ℕ → Tree → Spot → (from here : Held) → Type 0
Reaches s cs r i (Comes a rest) x from here = ((x ≡ Before a) × (from ≡ here)) ⊎ Reaches s cs r i rest x from here
Reaches s cs r i (Takes st rest) x from here = ((x ≡ Taking st) × (from ≡ here)) ⊎ ((mid : Held) × (paths.Takes s cs r i st from mid × Reaches s cs r i rest x mid here))
Reaches s cs r i (Fork left right) x from here = Reaches s cs r i left x from here ⊎ Reaches s cs r i right x from here
Reaches s cs r i (Leaf stop t) x from here = (x ≡ Stops stop t) × (from ≡ here)

pub spot_of_end : (t : Tree) (u : End) (path : List Step) → IsEnd u path t → IsSpot (Stops u.stop u.turns) u.path path t
spot_of_end (Comes a rest) u path e = inr (spot_of_end rest u path e)
spot_of_end (Takes st rest) u path e = inr (spot_of_end rest u (st ∷ path) e)
spot_of_end (Fork left right) u path (inl e) = inl (spot_of_end left u path e)
spot_of_end (Fork left right) u path (inr e) = inr (spot_of_end right u path e)
spot_of_end (Leaf stop t) u path e = (ap (λ (u : End). Stops u.stop u.turns) e, ap (λ (u : End). u.path) e)

pub spot_of_front : (t : Tree) (f : Front) (path : List Step) → IsFront f path t → IsSpot (Before f.statement) f.path path t
spot_of_front (Comes a rest) f path (inl e) = inl (ap (λ (f : Front). Before f.statement) e, ap (λ (f : Front). f.path) e)
spot_of_front (Comes a rest) f path (inr e) = inr (spot_of_front rest f path e)
spot_of_front (Takes st rest) f path e = inr (spot_of_front rest f (st ∷ path) e)
spot_of_front (Fork left right) f path (inl e) = inl (spot_of_front left f path e)
spot_of_front (Fork left right) f path (inr e) = inr (spot_of_front right f path e)
spot_of_front (Leaf stop t) f path e = absurd e

pub spot_of_entering : (t : Tree) (n : ℕ) (end path : List Step) → IsEntering n end path t → IsSpot (Taking (Enters n)) end path t
spot_of_entering (Comes a rest) n end path e = inr (spot_of_entering rest n end path e)
spot_of_entering (Takes st rest) n end path (inl e) = inl (ap Taking (sym e.0), e.1)
spot_of_entering (Takes st rest) n end path (inr e) = inr (spot_of_entering rest n end (st ∷ path) e)
spot_of_entering (Fork left right) n end path (inl e) = inl (spot_of_entering left n end path e)
spot_of_entering (Fork left right) n end path (inr e) = inr (spot_of_entering right n end path e)
spot_of_entering (Leaf stop t) n end path e = absurd e

-- a path to a point: to where the tree begins, and through it
pub reaches_of : (s : Setup) (cs : List Content) (r : Ranking) (i : ℕ) (t : Tree) (x : Spot) (end path : List Step) (root here : Held) → IsSpot x end path t → Follows s cs r i end root here → (mid : Held) × (Follows s cs r i path root mid × Reaches s cs r i t x mid here)
reaches_of s cs r i (Comes a rest) x end path root here (inl e) f = (here, (subst (λ p. Follows s cs r i p root here) e.1 f, inl (e.0, refl)))
reaches_of s cs r i (Comes a rest) x end path root here (inr e) f = let h = reaches_of s cs r i rest x end path root here e f in (h.0, (h.1.0, inr h.1.1))
reaches_of s cs r i (Takes st rest) x end path root here (inl e) f = (here, (subst (λ p. Follows s cs r i p root here) e.1 f, inl (e.0, refl)))
reaches_of s cs r i (Takes st rest) x end path root here (inr e) f =
    let h = reaches_of s cs r i rest x end (st ∷ path) root here e f in
    (h.1.0.0, (h.1.0.1.0, inr (h.0, (h.1.0.1.1, h.1.1))))
reaches_of s cs r i (Fork left right) x end path root here (inl e) f = let h = reaches_of s cs r i left x end path root here e f in (h.0, (h.1.0, inl h.1.1))
reaches_of s cs r i (Fork left right) x end path root here (inr e) f = let h = reaches_of s cs r i right x end path root here e f in (h.0, (h.1.0, inr h.1.1))
reaches_of s cs r i (Leaf stop t) x end path root here e f = (here, (subst (λ p. Follows s cs r i p root here) e.1 f, (e.0, refl)))
