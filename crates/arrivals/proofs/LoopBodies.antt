-- The walk of a loop's body, and the heads and turns that a loop with a barrier has.
use Rattle.std.proofs.Common.{◌≡◌, ℕ, Bool, true, false, ◌||◌, nat_eq, List, ◌∷◌, Some, None, refl, sym, ap, ap₂, ◌∙◌, inl, inr, eq-eqb}
use Rattle.semantics.specs.Core.{Term, Statement, Loop, Statements, number}
use Rattle.semantics.specs.Item.{Entry, enter}
use Rattle.arrivals.specs.Loops.{have_barrier, slip, skip, loop_fault}
use Rattle.arrivals.specs.Points.{join, IsFormed, Left}
use Rattle.arrivals.specs.Trees.{Turns, turned, Later, in_body, walk_loop, walk, ways, walk_left}
use Rattle.arrivals.specs.Places.{Reach, Meets}
use Rattle.arrivals.proofs.Tests.{true_false, none_left, none_right}
use Rattle.arrivals.proofs.Controlled.{bare, bare-enter, has_turned}
use Rattle.arrivals.proofs.Turning.{cond-true}
use Rattle.arrivals.proofs.Walking.{walk-same, out-join, walk-enter}
use Rattle.arrivals.proofs.Standing.{Agrees}

fault_no : (holds misses : Bool) (n : ℕ) → holds ≡ true → loop_fault holds misses n ≡ None → misses ≡ false
fault_no true true n h e = cc
fault_no true false n h e = refl
fault_no false misses n h e = cc

-- with the test true the body of a loop with a barrier is walked whatever stands behind it
module _ (deep : Bool) (n : ℕ) (e : Term) (b u : Statements) (t : ℕ) (r : List Entry) where
  abbrev again : Entry
  again = record { statement = Loop n e b u; turns = t }

  pub walk-body : IsFormed (Loop n e b u) → (have_barrier b || have_barrier u) ≡ true → loop_fault (have_barrier b || have_barrier u) (slip b || skip b) n ≡ None → walk_left deep (bare (enter b (enter u (again ∷ r)))) ≡ walk deep b (in_body (walk_left deep (bare r)))
  walk-body d hb f =
      let misses = fault_no (have_barrier b || have_barrier u) (slip b || skip b) n hb f in
      walk-enter deep b (enter u (again ∷ r)) d.1.1.0
      ∙ walk-same deep b (ways deep (bare (enter u (again ∷ r)))) (in_body (walk_left deep (bare r)))
      (λ q. absurd (true_false (slip b) q (none_left (slip b) (skip b) misses)))
      (λ q. absurd (true_false (skip b) q (none_right (slip b) (skip b) misses)))
      (λ k j. ap (λ left. (ways deep left).out k) (bare-enter u (again ∷ r)) ∙ ap (λ m. (ways deep (join u (record { statement = Loop n e b u; again = has_turned t } ∷ bare r))).out m) (d.1.0 k j)
      ∙ out-join deep n u (record { statement = Loop n e b u; again = has_turned t } ∷ bare r) d.1.1.1.1.other ∙ cond-true (nat_eq n n) (walk_left deep (bare r)) ((ways deep (bare r)).out n) (eq-eqb n n refl))

pub met_inside : (x : Bool) (n : ℕ) (s : Left) (e : Term) (b u go : Later) (t : Turns) (h : Reach) → x ≡ true → Meets h (b (turned n t)) → Meets h (walk_loop true x s n e b u go t)
met_inside true n s e b u go t h q m = inl m
met_inside false n s e b u go t h q m = cc

pub met_behind : (x : Bool) (n : ℕ) (s : Left) (e : Term) (b u go : Later) (t : Turns) (h : Reach) → Meets h (go t) → Meets h (walk_loop true x s n e b u go t)
met_behind true n s e b u go t h m = inr m
met_behind false n s e b u go t h m = inr (inr m)

pub agrees-turn : (n : ℕ) (s : Statement) (t : Turns) (ls : List Statement) → number s ≡ n → Agrees t ls → Agrees (turned n t) (s ∷ ls)
agrees-turn n s None ls e h l f = cc
agrees-turn n s (Some m) ls e h l f = let g : n ∷ m ≡ l = cc in sym g ∙ ap₂ (λ a b. a ∷ b) (sym e) (h m refl)
