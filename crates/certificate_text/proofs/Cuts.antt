-- Words, and the line that they make.
use Rattle.std.proofs.Common.{◌≡◌, ℕ, Bool, true, false, cond, List, [], ◌∷◌, ◌++◌, length, drop, Option, None, Some, Result, Ok, Err, refl, ap, sym, ◌∙◌, inl, inr, ◌⊎◌}
use Rattle.std.specs.Prelude.{bytes_eq}
use Rattle.std.specs.Option.{option_map}
use Rattle.std.specs.List.{flat_map, join_with_byte}
use Rattle.std.proofs.lemmas.Bool.{cond_both}
use Rattle.std.proofs.lemmas.List.{append-nil}
use Rattle.std.proofs.lemmas.List.Splits.{join_with_byte-slice_split}
use Rattle.std.proofs.lemmas.Slice.Eq.{bytes_eq-Decides}
use Rattle.lines.specs.Lines.{NumberFault, is_empty, pieces, sole, two, first, follows}
use Rattle.certificate_text.specs.Forms.{then, when, number, begins as begins_so}
use Rattle.certificate_text.specs.Rules.{all, rises}
use Rattle.lines.proofs.Fronts.{begins, both}

-- words with a separator before each
abbrev pub parted : (separator : ℕ) → List (List ℕ) → List ℕ
parted separator ws = flat_map (λ w. separator ∷ w) ws

abbrev pub spaced : List (List ℕ) → List ℕ
spaced ws = parted 32 ws

join_parted : (c : ℕ) (w : List ℕ) (ws : List (List ℕ)) → join_with_byte c (w ∷ ws) ≡ w ++ parted c ws
join_parted c w [] = sym (append-nil w)
join_parted c w (x ∷ xs) = ap (λ t. w ++ (c ∷ t)) (join_parted c x xs)

pub pieces_back : (c : ℕ) (line w : List ℕ) (ws : List (List ℕ)) → pieces c line ≡ w ∷ ws → line ≡ w ++ parted c ws
pieces_back c line w ws e = sym (join_with_byte-slice_split c line) ∙ ap (join_with_byte c) e ∙ join_parted c w ws

-- what an answer came from
pub then_back : {A B : Type 0} (o : Option A) (go : A → Option B) (b : B) → then o go ≡ Some b → (a : A) × (o ≡ Some a) × (go a ≡ Some b)
then_back None go b e = absurd cc
then_back (Some a) go b e = (a, refl, e)

pub map_back : {A B : Type 0} (f : A → B) (o : Option A) (b : B) → option_map f o ≡ Some b → (a : A) × (o ≡ Some a) × (f a ≡ b)
map_back f None b e = absurd cc
map_back f (Some a) b e = (a, refl, cc)

pub when_back : {A : Type 0} (h : Bool) (a b : A) → when h a ≡ Some b → (h ≡ true) × (a ≡ b)
when_back true a b e = (refl, cc)
when_back false a b e = absurd cc

pub cond_back : {A : Type 0} (h : Bool) (o : Option A) (b : A) → cond h o None ≡ Some b → (h ≡ true) × (o ≡ Some b)
cond_back true o b e = (refl, e)
cond_back false o b e = absurd cc

pub number_back : {A : Type 0} (r : Result A NumberFault) (a : A) → number r ≡ Some a → r ≡ Ok a
number_back (Ok x) a e = let q : x ≡ a = cc in ap Ok q
number_back (Err f) a e = absurd cc

pub first_back : {A : Type 0} (ws : List A) (r : A × List A) → first ws ≡ Some r → ws ≡ r.0 ∷ r.1
first_back [] r e = absurd cc
first_back (w ∷ ws) r e = let q : (w, ws) ≡ r = cc in ap (λ p. p.0 ∷ p.1) q

pub sole_back : {A : Type 0} (ws : List A) (w : A) → sole ws ≡ Some w → ws ≡ w ∷ []
sole_back [] w e = absurd cc
sole_back (a ∷ []) w e = let q : a ≡ w = cc in ap (λ x. x ∷ []) q
sole_back (a ∷ b ∷ ws) w e = absurd cc

pub two_back : {A : Type 0} (ws : List A) (r : A × A) → two ws ≡ Some r → ws ≡ r.0 ∷ r.1 ∷ []
two_back [] r e = absurd cc
two_back (a ∷ []) r e = absurd cc
two_back (a ∷ b ∷ []) r e = let q : (a, b) ≡ r = cc in ap (λ p. p.0 ∷ p.1 ∷ []) q
two_back (a ∷ b ∷ c ∷ ws) r e = absurd cc

pub none_left : {A : Type 0} (ws : List A) → is_empty ws ≡ true → ws ≡ []
none_left [] e = refl
none_left (w ∷ ws) e = absurd cc

-- a word that is spelt so, or not
pub by_word : {A : Type 0} (w k : List ℕ) (x y : Option A) (a : A) → cond (bytes_eq w k) x y ≡ Some a → ((w ≡ k) × (x ≡ Some a)) ⊎ (y ≡ Some a)
by_word w k x y a = cond_both (bytes_eq w k) x y (λ o. o ≡ Some a → ((w ≡ k) × (x ≡ Some a)) ⊎ (y ≡ Some a)) (λ h e. inl ((bytes_eq-Decides w k).0 h, e)) (λ h e. inr e)

-- a word that begins so, or not
pub by_front : {A : Type 0} (w k : List ℕ) (x y : Option A) (a : A) → cond (begins_so w k) x y ≡ Some a → ((w ≡ k ++ drop (length k) w) × (x ≡ Some a)) ⊎ (y ≡ Some a)
by_front w k x y a = cond_both (begins_so w k) x y (λ o. o ≡ Some a → ((w ≡ k ++ drop (length k) w) × (x ≡ Some a)) ⊎ (y ≡ Some a)) (λ h e. inl (begins w k h, e)) (λ h e. inr e)

-- one more at the end
pub all_push : {A : Type 0} (test : A → Bool) (xs : List A) (x : A) → all test xs ≡ true → test x ≡ true → all test (xs ++ x ∷ []) ≡ true
all_push test [] x h t = rw t refl
all_push test (a ∷ xs) x h t = let p = both (test a) (all test xs) h in rw (p.0, all_push test xs x p.1 t) refl

pub rises_push : {A : Type 0} (before : A → A → Bool) (xs : List A) (x : A) → rises before xs ≡ true → follows before xs x ≡ true → rises before (xs ++ x ∷ []) ≡ true
rises_push before [] x h f = refl
rises_push before (a ∷ []) x h f = rw f refl
rises_push before (a ∷ b ∷ xs) x h f = let p = both (before a b) (rises before (b ∷ xs)) h in rw (p.0, rises_push before (b ∷ xs) x p.1 f) refl
