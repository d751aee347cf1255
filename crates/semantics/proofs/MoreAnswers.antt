-- More answers change nothing once a value is given.
use Rattle.std.proofs.Common.{◌≡◌, ℕ, ℤ, List, [], ◌∷◌, ◌++◌, Bool, true, false, not, Result, Ok, Err, refl}
use Rattle.semantics.specs.Word.{Word, Fault, calculate_unary, convert, is_zero, smaller, larger, truth}
use Rattle.semantics.specs.Core.{Site, Array, Term, Literal, Variable, Id, Load, Unary, Binary, Convert, Compare, Not, And, Or, Select, Minimum, Maximum, Shift, Within, Opaque}
use Rattle.semantics.specs.Setup.{Setup}
use Rattle.semantics.specs.Memory.{extent}
use Rattle.semantics.specs.Evaluation.{Outcome, Gives, Needs, Faults, and_then, settled, operate, compare, Index, At, Outside, within, asks, load, decide, shifted, inside, opaque, evaluate}

-- a reader of answers that hands on what it did not use
pub record Grows (f : List Word → Outcome) : Type 0 where
  pub by : (answers rest more : List Word) (v : Word) → f answers ≡ Gives v rest → f (answers ++ more) ≡ Gives v (rest ++ more)

pub gives-is : (v w : Word) (r q : List Word) → Gives v r ≡ Gives w q → (v ≡ w) × (r ≡ q)
gives-is v w r q h = (cc, cc)

pub value-grows : (w : Word) → Grows (Gives w)
value-grows w = record { by = λ answers rest more v h. let e = gives-is w v answers rest h in rw (e.0, e.1) refl }

pub then-by : (o : Outcome) (go : Word → List Word → Outcome) (v : Word) (r : List Word) → and_then o go ≡ Gives v r → (a : Word) × (rest : List Word) × (o ≡ Gives a rest) × (go a rest ≡ Gives v r)
then-by (Gives a rest) go v r h = (a, rest, refl, h)
then-by (Needs a k site) go v r h = cc
then-by (Faults f site) go v r h = cc

pub then-grows : (f : List Word → Outcome) (go : Word → List Word → Outcome) → Grows f → ((a : Word) → Grows (go a)) → Grows (λ answers. and_then (f answers) go)
then-grows f go hf hgo = record {
  by = λ answers rest more v h.
      let q = then-by (f answers) go v rest h in
      rw (hf.by answers q.1 more q.0 q.2) ((hgo q.0).by q.1 rest more v q.3);
}

pub settled-grows : (r : Result Word Fault) (site : Site) → Grows (settled r site)
settled-grows (Ok w) site = value-grows w
settled-grows (Err f) site = record { by = λ answers rest more v h. cc }

pub decide-grows : (b : Bool) (f g : List Word → Outcome) → Grows f → Grows g → Grows (λ r. decide b (f r) (g r))
decide-grows true f g hf hg = record { by = hf.by }
decide-grows false f g hf hg = record { by = hg.by }

pub asks-gives : (a : Array) (k : Index) (site : Site) (v : Word) (r : List Word) → asks a k site ≡ Gives v r → ⊥
asks-gives a (At k) site v r h = cc
asks-gives a Outside site v r h = cc

load-by : (s : Setup) (a : Array) (site : Site) (z : ℤ) (answers rest more : List Word) (v : Word) → load s a site z answers ≡ Gives v rest → load s a site z (answers ++ more) ≡ Gives v (rest ++ more)
load-by s a site z [] rest more v h = absurd (asks-gives a (within (extent s a) z) site v rest h)
load-by s a site z (w ∷ answers) rest more v h = (value-grows _).by answers rest more v h

pub load-grows : (s : Setup) (a : Array) (site : Site) (z : ℤ) → Grows (load s a site z)
load-grows s a site z = record { by = load-by s a site z }

abbrev reads : Setup → ℕ → List ℕ → List Word → Term → List Word → Outcome
reads s i now vars e answers = evaluate s i now e vars answers

both-grow : (s : Setup) (i : ℕ) (now : List ℕ) (vars : List Word) (l r : Term) (go : Word → Word → List Word → Outcome) → Grows (reads s i now vars l) → Grows (reads s i now vars r) → ((a b : Word) → Grows (go a b)) → Grows (λ answers. and_then (evaluate s i now l vars answers) (λ a rest. and_then (evaluate s i now r vars rest) (λ b rest'. go a b rest')))
both-grow s i now vars l r go hl hr hgo =
    then-grows (reads s i now vars l) (λ a rest. and_then (evaluate s i now r vars rest) (λ b rest'. go a b rest')) hl
    (λ a. then-grows (reads s i now vars r) (go a) hr (hgo a))

grows : (s : Setup) (i : ℕ) (now : List ℕ) (vars : List Word) (e : Term) → Grows (reads s i now vars e)
unfolding evaluate
grows s i now vars (Literal k z) = value-grows _
grows s i now vars (Variable x) = value-grows _
grows s i now vars (Id kind f d) = value-grows _
grows s i now vars (Load a site index) = then-grows (reads s i now vars index) (λ k rest. load s a site k.value rest) (grows s i now vars index) (λ k. load-grows s a site k.value)
grows s i now vars (Unary op kind site e) = then-grows (reads s i now vars e) (λ a rest. settled (calculate_unary op s.width kind a.value) site rest) (grows s i now vars e) (λ a. settled-grows (calculate_unary op s.width kind a.value) site)
grows s i now vars (Binary op kind site l r) = both-grow s i now vars l r (λ a b rest. settled (operate op s.width kind a b) site rest) (grows s i now vars l) (grows s i now vars r) (λ a b. settled-grows (operate op s.width kind a b) site)
grows s i now vars (Convert kind site e) = then-grows (reads s i now vars e) (λ a rest. settled (convert s.width kind a.value) site rest) (grows s i now vars e) (λ a. settled-grows (convert s.width kind a.value) site)
grows s i now vars (Compare c kind l r) = both-grow s i now vars l r (λ a b rest. Gives (truth (compare c kind a b)) rest) (grows s i now vars l) (grows s i now vars r) (λ a b. value-grows _)
grows s i now vars (Not e) = then-grows (reads s i now vars e) (λ a rest. Gives (truth (is_zero a.value)) rest) (grows s i now vars e) (λ a. value-grows _)
grows s i now vars (And l r) =
    then-grows (reads s i now vars l) (λ a rest. decide (is_zero a.value) (Gives (truth false) rest) (and_then (evaluate s i now r vars rest) (λ b rest'. Gives (truth (not (is_zero b.value))) rest'))) (grows s i now vars l)
    (λ a. decide-grows (is_zero a.value) (Gives (truth false)) (λ rest. and_then (evaluate s i now r vars rest) (λ b rest'. Gives (truth (not (is_zero b.value))) rest')) (value-grows _)
    (then-grows (reads s i now vars r) (λ b rest'. Gives (truth (not (is_zero b.value))) rest') (grows s i now vars r) (λ b. value-grows _)))
grows s i now vars (Or l r) =
    then-grows (reads s i now vars l) (λ a rest. decide (not (is_zero a.value)) (Gives (truth true) rest) (and_then (evaluate s i now r vars rest) (λ b rest'. Gives (truth (not (is_zero b.value))) rest'))) (grows s i now vars l)
    (λ a. decide-grows (not (is_zero a.value)) (Gives (truth true)) (λ rest. and_then (evaluate s i now r vars rest) (λ b rest'. Gives (truth (not (is_zero b.value))) rest')) (value-grows _)
    (then-grows (reads s i now vars r) (λ b rest'. Gives (truth (not (is_zero b.value))) rest') (grows s i now vars r) (λ b. value-grows _)))
grows s i now vars (Select t l r) =
    then-grows (reads s i now vars t) (λ v rest. decide (is_zero v.value) (evaluate s i now r vars rest) (evaluate s i now l vars rest)) (grows s i now vars t)
    (λ v. decide-grows (is_zero v.value) (reads s i now vars r) (reads s i now vars l) (grows s i now vars r) (grows s i now vars l))
grows s i now vars (Minimum l r) = both-grow s i now vars l r (λ a b rest. Gives (smaller a b) rest) (grows s i now vars l) (grows s i now vars r) (λ a b. value-grows _)
grows s i now vars (Maximum l r) = both-grow s i now vars l r (λ a b rest. Gives (larger a b) rest) (grows s i now vars l) (grows s i now vars r) (λ a b. value-grows _)
grows s i now vars (Shift d kind l r) = both-grow s i now vars l r (λ a b rest. Gives (shifted d kind a b) rest) (grows s i now vars l) (grows s i now vars r) (λ a b. value-grows _)
grows s i now vars (Within site n e) = then-grows (reads s i now vars e) (λ k rest. settled (inside (within n k.value) k) site rest) (grows s i now vars e) (λ k. settled-grows (inside (within n k.value) k) site)
grows s i now vars (Opaque n at kind a b c) =
    then-grows (reads s i now vars a) (λ x rest. and_then (evaluate s i now b vars rest) (λ y rest'. and_then (evaluate s i now c vars rest') (λ z rest''. Gives (opaque s i now n at kind x y z) rest''))) (grows s i now vars a)
    (λ x. both-grow s i now vars b c (λ y z rest. Gives (opaque s i now n at kind x y z) rest) (grows s i now vars b) (grows s i now vars c) (λ y z. value-grows _))

pub more_give : (s : Setup) (i : ℕ) (now : List ℕ) (e : Term) (vars answers rest more : List Word) (v : Word) → evaluate s i now e vars answers ≡ Gives v rest → evaluate s i now e vars (answers ++ more) ≡ Gives v (rest ++ more)
more_give s i now e vars answers rest more v h = (grows s i now vars e).by answers rest more v h
