-- What is not known at a root, since one of its facts was not made.
use Rattle.std.proofs.Common.{◌≡◌, ℕ, suc, pos, ◌+◌, ◌<◌, arith, Bool, true, false, ◌&&◌, List, [], ◌∷◌, ◌++◌, map, length, drop, get_or, refl, sym, ap, subst, ◌∙◌}
use Rattle.std.proofs.lemmas.List.{append_assoc}
use Rattle.std.proofs.Math.Seq.{drop-cons}
use Rattle.linear.specs.Exact.{multiple, fits}
use Rattle.linear.specs.Forms.{form}
use Rattle.facts.specs.Symbols.{Fact, First, New, once, minus, equals}
use Rattle.facts.specs.Refusals.{IsUnfit}
use Rattle.facts.specs.declared.error.WalkError.{WalkError}
use Rattle.facts.specs.declared.error.WalkError.TheVariants as errors
use Rattle.facts.proofs.Tests.{and_left, and_right}
use Rattle.walk_trees.specs.Fitting.{all_fit}
use Rattle.obligations.specs.View.{congruence}
use Rattle.obligations.specs.declared.notes.Congruence.{Congruence}
use Rattle.obligations.specs.Roots.{congruence_facts}
use Rattle.path_walk.specs.Rooted.{IsUnrooted}

not_among : (xs ys : List Fact) (f : Fact) → fits f ≡ false → all_fit (xs ++ f ∷ ys) ≡ false
not_among [] ys f h = and_left (fits f) (all_fit ys) h
not_among (x ∷ xs) ys f h = and_right (fits x) _ (not_among xs ys f h)

not_more : (xs ys : List Fact) → all_fit xs ≡ false → all_fit (xs ++ ys) ≡ false
not_more [] ys h = cc
not_more (x ∷ xs) ys h = either (fits x) (λ k. not_more xs ys k) h
  where
    either : (b : Bool) {c d : Bool} → (c ≡ false → d ≡ false) → (b && c) ≡ false → (b && d) ≡ false
    either true f h = f h
    either false f h = refl

pub unrooted_among : (e : WalkError) (xs ys : List Fact) (f : Fact) → IsUnfit e f → IsUnrooted (xs ++ f ∷ ys) e
unrooted_among errors.TooMany xs ys f h = h
unrooted_among errors.TooLarge xs ys f h = not_among xs ys f h
unrooted_among errors.Memory xs ys f h = tt

pub unrooted_more : (e : WalkError) (xs ys : List Fact) → IsUnrooted xs e → IsUnrooted (xs ++ ys) e
unrooted_more errors.TooMany xs ys h = h
unrooted_more errors.TooLarge xs ys h = not_more xs ys h
unrooted_more errors.Memory xs ys h = tt

-- the other difference
pub unrooted_second : (e : WalkError) (xs : List Fact) (f g : Fact) → IsUnfit e (minus g f) → IsUnrooted (xs ++ equals f g) e
unrooted_second e xs f g h =
    subst (λ fs. IsUnrooted fs e) (append_assoc xs (minus f g ∷ []) (minus g f ∷ []))
    (unrooted_among e (xs ++ minus f g ∷ []) [] (minus g f) h)

-- one of the congruences
pub unrooted_one : (e : WalkError) (a all : List Fact) (cs : List Congruence) (i n : ℕ) (c : Congruence) →
    a ++ congruence_facts n (map congruence (drop i cs)) ≡ all → i < length cs → c ≡ get_or cs i c →
    IsUnrooted (a ++ equals (form c.form) (multiple (pos c.modulus) (once (New First n)))) e → IsUnrooted all e
unrooted_one e a all cs i n c d lt q h =
    let two = equals (form c.form) (multiple (pos c.modulus) (once (New First n))) in
    let rest = congruence_facts (suc n) (map congruence (drop (suc i) cs)) in
    let front : c ∷ drop (suc i) cs ≡ drop i cs = sym (drop-cons cs i c lt ∙ ap (λ y. y ∷ drop (suc i) cs) (sym q)) in
    subst (λ fs. IsUnrooted fs e) (append_assoc a two rest ∙ ap (λ x. a ++ congruence_facts n (map congruence x)) front ∙ d)
    (unrooted_more e (a ++ two) rest h)

after : (n : ℕ) → suc n ≡ n + 1
after n = omega arith

-- what is said with one congruence more
pub said_more : (a b all : List Fact) (cs : List Congruence) (i n : ℕ) (c : Congruence) →
    a ++ congruence_facts n (map congruence (drop i cs)) ≡ all → i < length cs → c ≡ get_or cs i c →
    b ≡ a ++ equals (form c.form) (multiple (pos c.modulus) (once (New First n))) →
    b ++ congruence_facts (n + 1) (map congruence (drop (i + 1) cs)) ≡ all
said_more a b all cs i n c d lt q h =
    let two = equals (form c.form) (multiple (pos c.modulus) (once (New First n))) in
    let rest = congruence_facts (suc n) (map congruence (drop (suc i) cs)) in
    let front : c ∷ drop (suc i) cs ≡ drop i cs = sym (drop-cons cs i c lt ∙ ap (λ y. y ∷ drop (suc i) cs) (sym q)) in
    subst (λ k. b ++ congruence_facts (n + 1) (map congruence (drop k cs)) ≡ all) (after i)
    (subst (λ k. b ++ congruence_facts k (map congruence (drop (suc i) cs)) ≡ all) (after n)
    (ap (λ x. x ++ rest) h ∙ append_assoc a two rest ∙ ap (λ x. a ++ congruence_facts n (map congruence x)) front ∙ d))
