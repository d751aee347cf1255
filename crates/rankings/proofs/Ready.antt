-- A `continue` leaves no more to do than there was: the loop's update stands behind it already.
use Rattle.std.proofs.Common.{◌≡◌, ℕ, ◌≤◌, List, [], ◌∷◌, Bool, true, false, cond, nat_eq, arith, refl, sym, ◌∙◌, subst, eq-eqb}
use Rattle.semantics.specs.Core.{Term, Statement, Set, Store, If, Loop, Barrier, Return, Break, Continue, Statements, none, one, number}
use Rattle.semantics.specs.Item.{Entry, enter, leave, resume, update_of}
use Rattle.arrivals.specs.Points.{jumps_to, jump_to, numbered, IsFormed, AreFormed}
use Rattle.arrivals.proofs.Tests.{true_false, or_left, or_right, none_left, none_right}
use Rattle.arrivals.proofs.Controlled.{Separate}
use Rattle.arrivals.proofs.Turning.{cond-true, cond-false}
use Rattle.rankings.proofs.Remaining.{remaining, remaining-enter}

module _ (turns : ℕ → ℕ) where
  -- of a loop that is jumped to, from what is left
  abbrev Resumes : ℕ → List Entry → Type 0
  Resumes k r = remaining turns (resume k r) ≤ remaining turns r

  abbrev pub Ready : List Entry → Type 0
  Ready [] = Unit {0}
  Ready (e ∷ r) = ((k : ℕ) → jumps_to k e.statement ≡ true → Resumes k r) × Ready r

  -- past statements that are not the loop
  resume-past : (k : ℕ) (ss : Statements) (r : List Entry) → numbered k ss ≡ false → resume k (enter ss r) ≡ resume k r
  resume-past k none r h = refl
  resume-past k (one s ss) r h = cond-false (nat_eq (number s) k) (enter (update_of s) (record { statement = s; turns = 0 } ∷ enter ss r)) (resume k (enter ss r)) (none_left (nat_eq (number s) k) (numbered k ss) h) ∙ resume-past k ss r (none_right (nat_eq (number s) k) (numbered k ss) h)

  resumes-past : (k : ℕ) (ss : Statements) (r : List Entry) → numbered k ss ≡ false → Resumes k r → Resumes k (enter ss r)
  resumes-past k ss r h f = subst (λ left. remaining turns left ≤ remaining turns (enter ss r)) (sym (resume-past k ss r h)) (omega (arith, remaining-enter turns ss r, f))

  pub ready-enter : (ss : Statements) (r : List Entry) → AreFormed ss → ((k : ℕ) → jump_to k ss ≡ true → Resumes k r) → Ready r → Ready (enter ss r)
  ready-enter none r d f h = h
  ready-enter (one s ss) r d f h = (
    (λ k j. resumes-past k ss r (d.1.1.jumps k j) (f k (or_left (jumps_to k s) (jump_to k ss) j))),
    ready-enter ss r d.1.0 (λ k j. f k (or_right (jumps_to k s) (jump_to k ss) j)) h,
  )

  resumed : (k : ℕ) (e : Entry) (r : List Entry) → nat_eq (number e.statement) k ≡ true → resume k (e ∷ r) ≡ enter (update_of e.statement) (e ∷ r)
  resumed k e r h = cond-true (nat_eq (number e.statement) k) (enter (update_of e.statement) (e ∷ r)) (resume k r) h

  -- behind the body stand the update and the loop
  pub ready-turn : (n : ℕ) (e : Term) (b u : Statements) (t : ℕ) (r : List Entry) → IsFormed (Loop n e b u) → Ready r → Ready (enter b (enter u (record { statement = Loop n e b u; turns = t } ∷ r)))
  ready-turn n e b u t r d h =
      let loop : Entry = record { statement = Loop n e b u; turns = t } in
      let here : Resumes n (enter u (loop ∷ r)) = subst (λ left. remaining turns left ≤ remaining turns (enter u (loop ∷ r))) (sym (resume-past n u (loop ∷ r) d.1.1.1.1.other ∙ resumed n loop r (eq-eqb n n refl))) (omega arith) in
      ready-enter b (enter u (loop ∷ r)) d.1.1.0 (λ k j. subst (λ k. Resumes k (enter u (loop ∷ r))) (sym (d.1.0 k j)) here)
      (ready-enter u (loop ∷ r) d.1.1.1.0 (λ k j. absurd (true_false (jump_to k u) j (d.1.1.1.1.no_jump k))) ((λ k j. absurd (true_false false j refl)), h))

  pub ready-leave : (k : ℕ) (r : List Entry) → Ready r → Ready (leave k r)
  ready-leave k [] h = h
  ready-leave k (e ∷ r) h = by (nat_eq (number e.statement) k) (ready-leave k r h.1)
    where
      by : (x : Bool) → Ready (leave k r) → Ready (cond x r (leave k r))
      by true g = h.1
      by false g = g

  ready-update : (s : Statement) (t : ℕ) (r : List Entry) → IsFormed s → Ready (record { statement = s; turns = t } ∷ r) → Ready (enter (update_of s) (record { statement = s; turns = t } ∷ r))
  ready-update (Set n x e) t r d h = h
  ready-update (Store n a site i e) t r d h = h
  ready-update (If n e yeses noes) t r d h = h
  ready-update (Loop n e b u) t r d h = ready-enter u (record { statement = Loop n e b u; turns = t } ∷ r) d.1.1.1.0 (λ k j. absurd (true_false (jump_to k u) j (d.1.1.1.1.no_jump k))) h
  ready-update (Barrier n l g) t r d h = h
  ready-update (Return n) t r d h = h
  ready-update (Break n k) t r d h = h
  ready-update (Continue n k) t r d h = h

  pub ready-resume : (k : ℕ) (r : List Entry) → Separate r → Ready r → Ready (resume k r)
  ready-resume k [] p h = h
  ready-resume k (e ∷ r) p h = by (nat_eq (number e.statement) k) (ready-resume k r p.1.1 h.1)
    where
      by : (x : Bool) → Ready (resume k r) → Ready (cond x (enter (update_of e.statement) (e ∷ r)) (resume k r))
      by true g = ready-update e.statement e.turns r p.0 h
      by false g = g

  -- nothing stands behind a kernel's body
  pub ready-body : (body : Statements) → AreFormed body → Ready (enter body [])
  ready-body body d = ready-enter body [] d (λ k j. omega arith) tt
