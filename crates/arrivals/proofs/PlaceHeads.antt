-- The head of a place is a loop without a barrier.
use Rattle.std.proofs.Common.{◌≡◌, Bool, true, false, cond, List, [], ◌∷◌, ◌++◌, Option, Some, None, refl, sym, inl, inr, subst}
use Rattle.std.specs.Prelude.{◌⊎◌}
use Rattle.semantics.specs.Core.{Statements, number}
use Rattle.arrivals.specs.Points.{Has, Point, points}
use Rattle.arrivals.specs.Places.{Reach, Lists, NoList, OneList, TwoLists, lists_of, Place, is_head, is_barrier, head_by, heads_among, places_from, from_barriers, places}
use Rattle.arrivals.proofs.Joined.{has_either}

abbrev pub IsOfHead : Option Point → Type 0
IsOfHead None = Unit {0}
IsOfHead (Some h) = is_head h.statement ≡ true

head_is : (a : Option Point) (h : Point) (ls : Lists) (rest : List Place) (p : Place) → is_head h.statement ≡ true → (Has p rest → IsOfHead p.head) → Has p (head_by a h ls rest) → IsOfHead p.head
head_is a h NoList rest p e f k = f k
head_is a h (OneList l) rest p e f (inl k) = subst (λ (p : Place). IsOfHead p.head) (sym k) e
head_is a h (OneList l) rest p e f (inr k) = f k
head_is a h TwoLists rest p e f (inl k) = subst (λ (p : Place). IsOfHead p.head) (sym k) e
head_is a h TwoLists rest p e f (inr k) = f k

heads_are : (a : Option Point) (rs : List Reach) (ps : List Point) (p : Place) → Has p (heads_among a rs ps) → IsOfHead p.head
heads_are a rs [] p k = absurd k
heads_are a rs (q ∷ ps) p k = by (is_head q.statement) refl (heads_are a rs ps p) k
  where
    by : (x : Bool) → is_head q.statement ≡ x → (Has p (heads_among a rs ps) → IsOfHead p.head) → Has p (cond x (head_by a q (lists_of (number q.statement) rs) (heads_among a rs ps)) (heads_among a rs ps)) → IsOfHead p.head
    by true e f k = head_is a q (lists_of (number q.statement) rs) (heads_among a rs ps) p e f k
    by false e f k = f k

from_one : (body : Statements) (a : Option Point) (p : Place) → Has p (places_from body a) → IsOfHead p.head
from_one body a p (inl e) = subst (λ (p : Place). IsOfHead p.head) (sym e) tt
from_one body a p (inr k) = heads_are a _ (points body []) p k

from_all : (body : Statements) (ps : List Point) (p : Place) → Has p (from_barriers body ps) → IsOfHead p.head
from_all body [] p k = absurd k
from_all body (q ∷ ps) p k = by (is_barrier q.statement) (from_all body ps p) k
  where
    joined : (Has p (from_barriers body ps) → IsOfHead p.head) → Has p (places_from body (Some q)) ⊎ Has p (from_barriers body ps) → IsOfHead p.head
    joined f (inl k) = from_one body (Some q) p k
    joined f (inr k) = f k

    by : (x : Bool) → (Has p (from_barriers body ps) → IsOfHead p.head) → Has p (cond x (places_from body (Some q) ++ from_barriers body ps) (from_barriers body ps)) → IsOfHead p.head
    by true f k = joined f (has_either p (places_from body (Some q)) (from_barriers body ps) k)
    by false f k = f k

pub place-head : (body : Statements) (p : Place) → Has p (places body) → IsOfHead p.head
place-head body p k = by (has_either p (places_from body None) (from_barriers body (points body [])) k)
  where
    by : Has p (places_from body None) ⊎ Has p (from_barriers body (points body [])) → IsOfHead p.head
    by (inl k) = from_one body None p k
    by (inr k) = from_all body (points body []) p k
