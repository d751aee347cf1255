-- What is so of each of a list, and one of a list.
use Rattle.std.proofs.Common.{◌≡◌, ℕ, zero, suc, ◌<◌, Bool, true, false, List, [], ◌∷◌, ◌++◌, map, arith}
use Rattle.std.specs.Prelude.{◌⊎◌}
use Rattle.std.specs.List.{All}
use Rattle.std.proofs.lemmas.List.Elements.{All-head, All-tail}
use Rattle.facts.specs.Launching.{each_dimension}
use Rattle.walk_trees.specs.Pairs.{where_so}

abbrev pub Has : {A : Type 0} → A → List A → Type 0
Has x [] = ⊥
Has x (y ∷ ys) = (x ≡ y) ⊎ Has x ys

abbrev pub Each : {A : Type 0} → (A → Type 0) → List A → Type 0
Each P [] = Unit {0}
Each P (x ∷ xs) = P x × Each P xs

pub each-all : {A : Type 0} (P : A → Type 0) (xs : List A) → All P xs → Each P xs
each-all P [] h = tt
each-all P (x ∷ xs) h = (All-head P x xs h, each-all P xs (All-tail P x xs h))

pub all-each : {A : Type 0} (P : A → Type 0) (xs : List A) → Each P xs → All P xs
all-each P [] h k d l = absurd (omega arith)
all-each P (x ∷ xs) h zero d l = h.0
all-each P (x ∷ xs) h (suc k) d l = all-each P xs h.1 k d (omega arith)

pub each-left : {A : Type 0} (P : A → Type 0) (xs ys : List A) → Each P (xs ++ ys) → Each P xs
each-left P [] ys h = tt
each-left P (x ∷ xs) ys h = (h.0, each-left P xs ys h.1)

pub each-right : {A : Type 0} (P : A → Type 0) (xs ys : List A) → Each P (xs ++ ys) → Each P ys
each-right P [] ys h = h
each-right P (x ∷ xs) ys h = each-right P xs ys h.1

pub each-map : {A B : Type 0} (P : B → Type 0) (f : A → B) (xs : List A) → Each P (map f xs) → Each (λ x. P (f x)) xs
each-map P f [] h = tt
each-map P f (x ∷ xs) h = (h.0, each-map P f xs h.1)

pub each-dimension : {A : Type 0} (P : A → Type 0) (f : ℕ → List A) (d : ℕ) → d < 3 → Each P (each_dimension f) → Each P (f d)
each-dimension P f zero l h = each-left P (f 0) (f 1 ++ f 2) h
each-dimension P f (suc zero) l h = each-left P (f 1) (f 2) (each-right P (f 0) (f 1 ++ f 2) h)
each-dimension P f (suc (suc zero)) l h = each-right P (f 1) (f 2) (each-right P (f 0) (f 1 ++ f 2) h)
each-dimension P f (suc (suc (suc d))) l h = absurd (omega arith)

pub each-where : {A : Type 0} (P : A → Type 0) (b : Bool) (xs : List A) → b ≡ true → Each P (where_so b xs) → Each P xs
each-where P true xs e h = h
each-where P false xs e h = cc
