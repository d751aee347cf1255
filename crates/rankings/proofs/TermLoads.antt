-- A term uses no more answers than it has loads, and asks for one only while it has used fewer.
use Rattle.std.proofs.Common.{ℕ, ◌+◌, ◌≤◌, ◌<◌, ℤ, List, [], ◌∷◌, length, Bool, true, false, not, Result, Ok, Err, arith}
use Rattle.std.specs.Prelude.{max}
use Rattle.std.proofs.Math.Nat.{le-max_left, le-max_right}
use Rattle.semantics.specs.Word.{Word, Fault, calculate_unary, convert, is_zero, smaller, larger, truth}
use Rattle.semantics.specs.Core.{Site, Array, Term, Literal, Variable, Id, Load, Unary, Binary, Convert, Compare, Not, And, Or, Select, Minimum, Maximum, Shift, Within, Opaque}
use Rattle.semantics.specs.Setup.{Setup}
use Rattle.semantics.specs.Memory.{extent}
use Rattle.semantics.specs.Evaluation.{Outcome, Gives, Needs, Faults, and_then, settled, operate, compare, Index, At, Outside, within, asks, load, decide, shifted, inside, opaque, evaluate}
use Rattle.loop_bounds.specs.Costs.{loads}

-- of n answers it has used m at most, or it needs one more and has used fewer
abbrev pub Uses : (m n : ℕ) → Outcome → Type 0
Uses m n (Gives v rest) = n ≤ length rest + m
Uses m n (Needs a k site) = n < m
Uses m n (Faults f site) = Unit {0}

pub uses_up_to : (m l n : ℕ) (o : Outcome) → m ≤ l → Uses m n o → Uses l n o
uses_up_to m l n (Gives v rest) h u = omega (arith, h, u)
uses_up_to m l n (Needs a k site) h u = omega (arith, h, u)
uses_up_to m l n (Faults f site) h u = tt

-- what was used before
uses_more : (m l n k : ℕ) (o : Outcome) → n ≤ k + m → Uses l k o → Uses (m + l) n o
uses_more m l n k (Gives v rest) h u = omega (arith, h, u)
uses_more m l n k (Needs a j site) h u = omega (arith, h, u)
uses_more m l n k (Faults f site) h u = tt

uses_then : (m l n : ℕ) (o : Outcome) (go : Word → List Word → Outcome) → Uses m n o → ((v : Word) (rest : List Word) → Uses l (length rest) (go v rest)) → Uses (m + l) n (and_then o go)
uses_then m l n (Gives v rest) go u h = uses_more m l n (length rest) (go v rest) u (h v rest)
uses_then m l n (Needs a k site) go u h = omega (arith, u)
uses_then m l n (Faults f site) go u h = tt

-- a value that is made of what was used
uses_no_more : (m n : ℕ) (o : Outcome) (go : Word → List Word → Outcome) → Uses m n o → ((v : Word) (rest : List Word) → Uses 0 (length rest) (go v rest)) → Uses m n (and_then o go)
uses_no_more m n o go u h = uses_up_to (m + 0) m n (and_then o go) (omega arith) (uses_then m 0 n o go u h)

given : (rest : List Word) → length rest ≤ length rest + 0
given rest = omega arith

settled_uses : (r : Result Word Fault) (site : Site) (rest : List Word) → Uses 0 (length rest) (settled r site rest)
settled_uses (Ok w) site rest = given rest
settled_uses (Err f) site rest = tt

decide_uses : (m n : ℕ) (b : Bool) (o p : Outcome) → Uses m n o → Uses m n p → Uses m n (decide b o p)
decide_uses m n true o p u h = u
decide_uses m n false o p u h = h

asks_uses : (a : Array) (k : Index) (site : Site) → Uses 1 0 (asks a k site)
asks_uses a (At k) site = omega arith
asks_uses a Outside site = tt

load_uses : (s : Setup) (a : Array) (site : Site) (z : ℤ) (answers : List Word) → Uses 1 (length answers) (load s a site z answers)
load_uses s a site z [] = asks_uses a (within (extent s a) z) site
load_uses s a site z (v ∷ rest) = omega arith

both : (s : Setup) (i : ℕ) (now : List ℕ) (l r : Term) (vars answers : List Word) (go : Word → Word → List Word → Outcome) → Uses (loads l) (length answers) (evaluate s i now l vars answers) → ((rest : List Word) → Uses (loads r) (length rest) (evaluate s i now r vars rest)) → ((a b : Word) (rest : List Word) → Uses 0 (length rest) (go a b rest))
    → Uses (loads l + loads r) (length answers) (and_then (evaluate s i now l vars answers) (λ a rest. and_then (evaluate s i now r vars rest) (λ b rest'. go a b rest')))
both s i now l r vars answers go hl hr h =
    uses_then (loads l) (loads r) (length answers) (evaluate s i now l vars answers) (λ a rest. and_then (evaluate s i now r vars rest) (λ b rest'. go a b rest')) hl
    (λ a rest. uses_no_more (loads r) (length rest) (evaluate s i now r vars rest) (go a) (hr rest) (h a))

pub uses : (s : Setup) (i : ℕ) (now : List ℕ) (e : Term) (vars answers : List Word) → Uses (loads e) (length answers) (evaluate s i now e vars answers)
unfolding evaluate
uses s i now (Literal k z) vars answers = given answers
uses s i now (Variable x) vars answers = given answers
uses s i now (Id k f d) vars answers = given answers
uses s i now (Load a site index) vars answers =
    let u = uses_then (loads index) 1 (length answers) (evaluate s i now index vars answers) (λ k rest. load s a site k.value rest) (uses s i now index vars answers) (λ k rest. load_uses s a site k.value rest) in
    uses_up_to (loads index + 1) (1 + loads index) (length answers) (evaluate s i now (Load a site index) vars answers) (omega arith) u
uses s i now (Unary op kind site e) vars answers = uses_no_more (loads e) (length answers) (evaluate s i now e vars answers) (λ a rest. settled (calculate_unary op s.width kind a.value) site rest) (uses s i now e vars answers) (λ a rest. settled_uses (calculate_unary op s.width kind a.value) site rest)
uses s i now (Binary op kind site l r) vars answers = both s i now l r vars answers (λ a b rest. settled (operate op s.width kind a b) site rest) (uses s i now l vars answers) (uses s i now r vars) (λ a b rest. settled_uses (operate op s.width kind a b) site rest)
uses s i now (Convert kind site e) vars answers = uses_no_more (loads e) (length answers) (evaluate s i now e vars answers) (λ a rest. settled (convert s.width kind a.value) site rest) (uses s i now e vars answers) (λ a rest. settled_uses (convert s.width kind a.value) site rest)
uses s i now (Compare c kind l r) vars answers = both s i now l r vars answers (λ a b rest. Gives (truth (compare c kind a b)) rest) (uses s i now l vars answers) (uses s i now r vars) (λ a b rest. given rest)
uses s i now (Not e) vars answers = uses_no_more (loads e) (length answers) (evaluate s i now e vars answers) (λ a rest. Gives (truth (is_zero a.value)) rest) (uses s i now e vars answers) (λ a rest. given rest)
uses s i now (And l r) vars answers =
    uses_then (loads l) (loads r) (length answers) (evaluate s i now l vars answers)
    (λ a rest. decide (is_zero a.value) (Gives (truth false) rest) (and_then (evaluate s i now r vars rest) (λ b rest'. Gives (truth (not (is_zero b.value))) rest'))) (uses s i now l vars answers)
    (λ a rest. decide_uses (loads r) (length rest) (is_zero a.value) _ _ (uses_up_to 0 (loads r) (length rest) (Gives (truth false) rest) (omega arith) (given rest))
    (uses_no_more (loads r) (length rest) (evaluate s i now r vars rest) (λ b rest'. Gives (truth (not (is_zero b.value))) rest') (uses s i now r vars rest) (λ b rest'. given rest')))
uses s i now (Or l r) vars answers =
    uses_then (loads l) (loads r) (length answers) (evaluate s i now l vars answers)
    (λ a rest. decide (not (is_zero a.value)) (Gives (truth true) rest) (and_then (evaluate s i now r vars rest) (λ b rest'. Gives (truth (not (is_zero b.value))) rest'))) (uses s i now l vars answers)
    (λ a rest. decide_uses (loads r) (length rest) (not (is_zero a.value)) _ _ (uses_up_to 0 (loads r) (length rest) (Gives (truth true) rest) (omega arith) (given rest))
    (uses_no_more (loads r) (length rest) (evaluate s i now r vars rest) (λ b rest'. Gives (truth (not (is_zero b.value))) rest') (uses s i now r vars rest) (λ b rest'. given rest')))
uses s i now (Select t l r) vars answers =
    uses_then (loads t) (max (loads l) (loads r)) (length answers) (evaluate s i now t vars answers) (λ v rest. decide (is_zero v.value) (evaluate s i now r vars rest) (evaluate s i now l vars rest)) (uses s i now t vars answers)
    (λ v rest. decide_uses (max (loads l) (loads r)) (length rest) (is_zero v.value) (evaluate s i now r vars rest) (evaluate s i now l vars rest)
    (uses_up_to (loads r) (max (loads l) (loads r)) (length rest) (evaluate s i now r vars rest) (le-max_right (loads l) (loads r)) (uses s i now r vars rest))
    (uses_up_to (loads l) (max (loads l) (loads r)) (length rest) (evaluate s i now l vars rest) (le-max_left (loads l) (loads r)) (uses s i now l vars rest)))
uses s i now (Minimum l r) vars answers = both s i now l r vars answers (λ a b rest. Gives (smaller a b) rest) (uses s i now l vars answers) (uses s i now r vars) (λ a b rest. given rest)
uses s i now (Maximum l r) vars answers = both s i now l r vars answers (λ a b rest. Gives (larger a b) rest) (uses s i now l vars answers) (uses s i now r vars) (λ a b rest. given rest)
uses s i now (Shift d k l r) vars answers = both s i now l r vars answers (λ a b rest. Gives (shifted d k a b) rest) (uses s i now l vars answers) (uses s i now r vars) (λ a b rest. given rest)
uses s i now (Within site n e) vars answers = uses_no_more (loads e) (length answers) (evaluate s i now e vars answers) (λ k rest. settled (inside (within n k.value) k) site rest) (uses s i now e vars answers) (λ k rest. settled_uses (inside (within n k.value) k) site rest)
uses s i now (Opaque n at k a b c) vars answers =
    uses_then (loads a) (loads b + loads c) (length answers) (evaluate s i now a vars answers) (λ x rest. and_then (evaluate s i now b vars rest) (λ y rest'. and_then (evaluate s i now c vars rest') (λ z rest''. Gives (opaque s i now n at k x y z) rest''))) (uses s i now a vars answers)
    (λ x rest. both s i now b c vars rest (λ y z rest'. Gives (opaque s i now n at k x y z) rest') (uses s i now b vars rest) (uses s i now c vars) (λ y z rest'. given rest'))
