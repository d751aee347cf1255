-- What is left of a kernel costs: of a loop that has turned, the turns that it has left.
use Rattle.std.proofs.Common.{◌≡◌, ℕ, ◌+◌, ◌*◌, ◌-◌, ◌≤◌, List, [], ◌∷◌, Bool, true, false, cond, nat_eq, arith, refl, ap, add-mul}
use Rattle.semantics.specs.Core.{Term, Statement, Set, Store, If, Loop, Barrier, Return, Break, Continue, Statements, none, one, number}
use Rattle.semantics.specs.Item.{Entry, enter, leave}
use Rattle.loop_bounds.specs.Costs.{loads, statement_cost, cost}

-- a loop with so many turns left, and a test once more
abbrev pub turns_cost : (turns test body : ℕ) → ℕ
turns_cost n x b = (n + 1) * x + n * b

abbrev pub entry_cost : (turns : ℕ → ℕ) → Statement → (turned : ℕ) → ℕ
entry_cost turns (Set n x e) t = statement_cost turns (Set n x e)
entry_cost turns (Store n a site i e) t = statement_cost turns (Store n a site i e)
entry_cost turns (If n e yeses noes) t = statement_cost turns (If n e yeses noes)
entry_cost turns (Loop n e b u) t = turns_cost (turns n - t) (1 + loads e) (cost turns b + cost turns u)
entry_cost turns (Barrier n l g) t = statement_cost turns (Barrier n l g)
entry_cost turns (Return n) t = statement_cost turns (Return n)
entry_cost turns (Break n k) t = statement_cost turns (Break n k)
entry_cost turns (Continue n k) t = statement_cost turns (Continue n k)

abbrev pub remaining : (turns : ℕ → ℕ) → List Entry → ℕ
remaining turns [] = 0
remaining turns (e ∷ r) = entry_cost turns e.statement e.turns + remaining turns r

-- behind the statement in front
abbrev pub behind : (turns : ℕ → ℕ) → List Entry → ℕ
behind turns [] = 0
behind turns (e ∷ r) = remaining turns r

-- a statement that is new costs what the definition says
new_cost : (turns : ℕ → ℕ) (s : Statement) → entry_cost turns s 0 ≡ statement_cost turns s
new_cost turns (Set n x e) = refl
new_cost turns (Store n a site i e) = refl
new_cost turns (If n e yeses noes) = refl
new_cost turns (Loop n e b u) = let m : turns n - 0 ≡ turns n = omega arith in ap (λ m. turns_cost m (1 + loads e) (cost turns b + cost turns u)) m
new_cost turns (Barrier n l g) = refl
new_cost turns (Return n) = refl
new_cost turns (Break n k) = refl
new_cost turns (Continue n k) = refl

pub remaining-enter : (turns : ℕ → ℕ) (ss : Statements) (r : List Entry) → remaining turns (enter ss r) ≡ cost turns ss + remaining turns r
remaining-enter turns none r = omega arith
remaining-enter turns (one s ss) r = omega (arith, new_cost turns s, remaining-enter turns ss r)

-- a turn, and what is left of the loop behind it
a_turn : (n x b : ℕ) → x + (b + turns_cost n x b) ≡ turns_cost (n + 1) x b
a_turn n x b = omega (arith, add-mul (n + 1) 1 x, add-mul n 1 x, add-mul n 1 b)

pub turn_cost : (turns : ℕ → ℕ) (n : ℕ) (e : Term) (b u : Statements) (t : ℕ) → t + 1 ≤ turns n → 1 + loads e + (cost turns b + cost turns u + entry_cost turns (Loop n e b u) (t + 1)) ≡ entry_cost turns (Loop n e b u) t
turn_cost turns n e b u t h =
    let m : turns n - t ≡ turns n - (t + 1) + 1 = omega (arith, h) in
    rw m (a_turn (turns n - (t + 1)) (1 + loads e) (cost turns b + cost turns u))

-- the last test of a loop
pub test_cost : (turns : ℕ → ℕ) (n : ℕ) (e : Term) (b u : Statements) (t : ℕ) → 1 + loads e ≤ entry_cost turns (Loop n e b u) t
test_cost turns n e b u t = omega (arith, add-mul (turns n - t) 1 (1 + loads e))

-- an early exit leaves a part of what was left
pub leave-less : (turns : ℕ → ℕ) (k : ℕ) (r : List Entry) → remaining turns (leave k r) ≤ remaining turns r
leave-less turns k [] = omega arith
leave-less turns k (e ∷ r) = by (nat_eq (number e.statement) k) (leave-less turns k r)
  where
    by : (x : Bool) → remaining turns (leave k r) ≤ remaining turns r → remaining turns (cond x r (leave k r)) ≤ entry_cost turns e.statement e.turns + remaining turns r
    by true h = omega arith
    by false h = omega (arith, h)
