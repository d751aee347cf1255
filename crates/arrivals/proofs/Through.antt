-- The heads that are reached from a list left stay those reached when an item goes on.
use Rattle.std.proofs.Common.{◌≡◌, ℕ, Bool, true, false, ◌||◌, nat_eq, refl, ap, ◌∙◌, inl, inr, eq-eqb, subst, List, ◌∷◌}
use Rattle.semantics.specs.Core.{Term, Loop, Statements}
use Rattle.arrivals.specs.Loops.{have_barrier, slip}
use Rattle.arrivals.specs.Points.{join, jump_to, IsFormed, Left, turning}
use Rattle.arrivals.specs.Trees.{Fork, Turns, Later, Ways, in_body, walk_loop, walk_one, walk, ways, walk_left, left}
use Rattle.arrivals.specs.Places.{Reach, Meets}
use Rattle.arrivals.proofs.Tests.{true_false, none_left, none_right}
use Rattle.arrivals.proofs.Turning.{cond-true}
use Rattle.arrivals.proofs.Walking.{walk-join, out-join, back-join}
use Rattle.arrivals.proofs.Reaching.{From, Within, ByGo, ByOut, ByBack, calm}

-- where a head is met that is reached from a loop's body: there, in the update, from the loop on, or past it
data Past (h : Reach) (b u : Statements) (again past : Later) (t : Turns) : Type 0 where
  InBody : Meets h (walk true b (in_body past) t) → Past h b u again past t
  InUpdate : Meets h (walk true u (in_body past) t) → Past h b u again past t
  Again : Meets h (again t) → Past h b u again past t
  Behind : Meets h (past t) → Past h b u again past t

-- whether the loop has turned tells nothing of the heads
pub whether_turned : (n : ℕ) (e : Term) (b u : Statements) (w : Ways) (t : Turns) (h : Reach) (a c : Bool) → Meets h (walk_one true a (Loop n e b u) w t) → Meets h (walk_one true c (Loop n e b u) w t)
whether_turned n e b u w t h a c m = by (have_barrier b || have_barrier u) m
  where
    by : (x : Bool) → Meets h (walk_loop true x (left (Loop n e b u) a) n e (λ t'. walk true b (in_body w.go) t') (λ t'. walk true u (in_body w.go) t') w.go t) → Meets h (walk_loop true x (left (Loop n e b u) c) n e (λ t'. walk true b (in_body w.go) t') (λ t'. walk true u (in_body w.go) t') w.go t)
    by true m = m
    by false m = m

-- what is left once a loop without a barrier has turned reaches no other heads
pub through_head : (n : ℕ) (e : Term) (b u : Statements) (rest : List Left) (t : Turns) (h : Reach) → (have_barrier b || have_barrier u) ≡ false → IsFormed (Loop n e b u)
    → Meets h (walk_left true (join b (join u (turning (Loop n e b u) ∷ rest))) t) → Meets h (walk_left true (turning (Loop n e b u) ∷ rest) t)
through_head n e b u rest t h c d m = by body
  where
    cb : have_barrier b ≡ false
    cb = none_left (have_barrier b) (have_barrier u) c

    cu : have_barrier u ≡ false
    cu = none_right (have_barrier b) (have_barrier u) c

    g : Later
    g = (ways true rest).go

    again : Ways
    again = ways true (turning (Loop n e b u) ∷ rest)

    behind : Ways
    behind = ways true (join u (turning (Loop n e b u) ∷ rest))

    updated : (w : Ways) → w.go ≡ walk_left true (turning (Loop n e b u) ∷ rest) → Meets h (walk true u w t) → Past h b u (walk_left true (turning (Loop n e b u) ∷ rest)) (ways true rest).go t
    updated w same k = go (calm u cu w (in_body (ways true rest).go) t h k)
      where
        go : From h w t (slip u) (λ k. jump_to k u) (walk true u (in_body (ways true rest).go) t) → Past h b u (walk_left true (turning (Loop n e b u) ∷ rest)) (ways true rest).go t
        go (Within m) = InUpdate m
        go (ByGo q m) = Again (subst (λ (g : Later). Meets h (g t)) same m)
        go (ByOut k j m) = absurd (true_false (jump_to k u) j (d.1.1.1.1.no_jump k))
        go (ByBack k j m) = absurd (true_false (jump_to k u) j (d.1.1.1.1.no_jump k))

    body : Past h b u (walk_left true (turning (Loop n e b u) ∷ rest)) (ways true rest).go t
    body = go (calm b cb behind (in_body (ways true rest).go) t h (subst (λ (g : Later). Meets h (g t)) (walk-join true b (join u (turning (Loop n e b u) ∷ rest)) d.1.1.0) m))
      where
        go : From h behind t (slip b) (λ k. jump_to k b) (walk true b (in_body (ways true rest).go) t) → Past h b u (walk_left true (turning (Loop n e b u) ∷ rest)) (ways true rest).go t
        go (Within m) = InBody m
        go (ByGo q m) = updated again refl (subst (λ (g : Later). Meets h (g t)) (walk-join true u (turning (Loop n e b u) ∷ rest) d.1.1.1.0) m)
        go (ByOut k j m) = Behind (subst (λ (g : Later). Meets h (g t)) (ap behind.out (d.1.0 k j) ∙ out-join true n u (turning (Loop n e b u) ∷ rest) d.1.1.1.1.other ∙ cond-true (nat_eq n n) (ways true rest).go _ (eq-eqb n n refl)) m)
        go (ByBack k j m) = updated (record { go = walk_one true true (Loop n e b u) (ways true rest); out = (ways true rest).out; back = (ways true rest).back }) refl
            (subst (λ (g : Later). Meets h (g t)) (ap behind.back (d.1.0 k j) ∙ back-join true n u (turning (Loop n e b u) ∷ rest) d.1.1.1.1.other ∙ cond-true (nat_eq n n) _ ((ways true rest).back n) (eq-eqb n n refl)) m)

    put : (x : Bool) → x ≡ false → Meets h (Fork (Fork (walk true b (in_body (ways true rest).go) t) (walk true u (in_body (ways true rest).go) t)) ((ways true rest).go t))
        → Meets h (walk_loop true x (turning (Loop n e b u)) n e (λ t'. walk true b (in_body (ways true rest).go) t') (λ t'. walk true u (in_body (ways true rest).go) t') (ways true rest).go t)
    put true c m = cc
    put false c m = inr m

    by : Past h b u (walk_left true (turning (Loop n e b u) ∷ rest)) (ways true rest).go t → Meets h (walk_left true (turning (Loop n e b u) ∷ rest) t)
    by (InBody m) = put (have_barrier b || have_barrier u) c (inl (inl m))
    by (InUpdate m) = put (have_barrier b || have_barrier u) c (inl (inr m))
    by (Again m) = m
    by (Behind m) = put (have_barrier b || have_barrier u) c (inr m)
