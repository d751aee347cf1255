-- What is left of a kernel without loops, and what it costs.
use Rattle.std.proofs.Common.{◌≡◌, ℕ, ◌+◌, ◌≤◌, List, [], ◌∷◌, Bool, true, false, cond, nat_eq, arith, refl, sym, subst}
use Rattle.std.proofs.lemmas.Bool.{and_parts}
use Rattle.semantics.specs.Core.{Statement, Set, Store, If, Loop, Barrier, Return, Break, Continue, Statements, none, one, number}
use Rattle.semantics.specs.Item.{Entry, enter, leave, resume, update_of}
use Rattle.loop_bounds.specs.Costs.{statement_cost, cost}
use Rattle.rankings.specs.LoopFree.{is_loop_free_statement, is_loop_free}

abbrev pub AreLoopFree : List Entry → Type 0
AreLoopFree [] = Unit {0}
AreLoopFree (e ∷ r) = (is_loop_free_statement e.statement ≡ true) × AreLoopFree r

abbrev pub remaining : (turns : ℕ → ℕ) → List Entry → ℕ
remaining turns [] = 0
remaining turns (e ∷ r) = statement_cost turns e.statement + remaining turns r

-- behind the statement in front
abbrev pub behind : (turns : ℕ → ℕ) → List Entry → ℕ
behind turns [] = 0
behind turns (e ∷ r) = remaining turns r

pub loop_free-enter : (ss : Statements) (r : List Entry) → is_loop_free ss ≡ true → AreLoopFree r → AreLoopFree (enter ss r)
loop_free-enter none r h f = f
loop_free-enter (one s ss) r h f =
    let p : (is_loop_free_statement s ≡ true) × (is_loop_free ss ≡ true) = and_parts _ _ h in
    (p.0, loop_free-enter ss r p.1 f)

pub remaining-enter : (turns : ℕ → ℕ) (ss : Statements) (r : List Entry) → remaining turns (enter ss r) ≡ cost turns ss + remaining turns r
remaining-enter turns none r = omega arith
remaining-enter turns (one s ss) r = omega (arith, remaining-enter turns ss r)

-- what an early exit leaves is a part of what was left
pub record Part (turns : ℕ → ℕ) (new old : List Entry) : Type 0 where
  pub loop_free : AreLoopFree new
  pub costs : remaining turns new ≤ remaining turns old

past : (turns : ℕ → ℕ) (e : Entry) (new r : List Entry) → Part turns new r → Part turns new (e ∷ r)
past turns e new r p = record { loop_free = p.loop_free; costs = omega (arith, p.costs) }

left_at : (turns : ℕ → ℕ) (b : Bool) (e : Entry) (new r : List Entry) → AreLoopFree r → Part turns new r → Part turns (cond b r new) (e ∷ r)
left_at turns true e new r f p = past turns e r r (record { loop_free = f; costs = omega arith })
left_at turns false e new r f p = past turns e new r p

pub leave-part : (turns : ℕ → ℕ) (k : ℕ) (r : List Entry) → AreLoopFree r → Part turns (leave k r) r
leave-part turns k [] f = record { loop_free = f; costs = omega arith }
leave-part turns k (e ∷ r) f = left_at turns (nat_eq (number e.statement) k) e (leave k r) r f.1 (leave-part turns k r f.1)

-- only a loop has an update
no_update : (s : Statement) → is_loop_free_statement s ≡ true → update_of s ≡ none
no_update (Set n x e) h = refl
no_update (Store n a site i e) h = refl
no_update (If n e t f) h = refl
no_update (Loop n e b u) h = absurd cc
no_update (Barrier n l g) h = refl
no_update (Return n) h = refl
no_update (Break n k) h = refl
no_update (Continue n k) h = refl

resumed_at : (turns : ℕ → ℕ) (b : Bool) (e : Entry) (new r : List Entry) → AreLoopFree (e ∷ r) → Part turns new r → Part turns (cond b (enter (update_of e.statement) (e ∷ r)) new) (e ∷ r)
resumed_at turns true e new r f p = subst (λ u. Part turns (enter u (e ∷ r)) (e ∷ r)) (sym (no_update e.statement f.0)) (record { loop_free = f; costs = omega arith })
resumed_at turns false e new r f p = past turns e new r p

pub resume-part : (turns : ℕ → ℕ) (k : ℕ) (r : List Entry) → AreLoopFree r → Part turns (resume k r) r
resume-part turns k [] f = record { loop_free = f; costs = omega arith }
resume-part turns k (e ∷ r) f = resumed_at turns (nat_eq (number e.statement) k) e (resume k r) r f (resume-part turns k r f.1)
