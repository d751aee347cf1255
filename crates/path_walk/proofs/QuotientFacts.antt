-- What is said of a place by quotients: congruences, then multiples.
use Rattle.std.proofs.Common.{◌≡◌, ℕ, suc, ◌+◌, ◌<◌, arith, List, ◌∷◌, ◌++◌, map, length, drop, get_or, refl, sym, ap, subst, ◌∙◌}
use Rattle.std.specs.Prelude.{Result, MatchResult}
use Rattle.std.proofs.lemmas.List.{append_assoc, length-map}
use Rattle.std.proofs.Math.Seq.{drop-cons}
use Rattle.linear.specs.Forms.{form}
use Rattle.facts.specs.Symbols.{Fact, First, New, once}
use Rattle.facts.specs.declared.error.WalkError.{WalkError}
use Rattle.walk_trees.specs.Operators.{small_product}
use Rattle.obligations.specs.View.{congruence, multiple}
use Rattle.obligations.specs.declared.notes.Congruence.{Congruence}
use Rattle.obligations.specs.declared.notes.Multiple.{Multiple}
use Rattle.obligations.specs.Roots.{congruence_facts, multiple_fact, multiple_facts, quotient_facts}
use Rattle.path_walk.specs.Rooted.{IsUnrooted}
use Rattle.path_walk.proofs.Unrooted.{unrooted_more}

abbrev one_of : Multiple → ℕ → List Fact
one_of m n = multiple_fact (form m.form) (small_product (form m.of) (once (New First n)))

front : (ms : List Multiple) (i : ℕ) (m : Multiple) → i < length ms → m ≡ get_or ms i m → m ∷ drop (suc i) ms ≡ drop i ms
front ms i m lt q = sym (drop-cons ms i m lt ∙ ap (λ y. y ∷ drop (suc i) ms) (sym q))

-- one of the multiples
pub unrooted_multiple : (e : WalkError) (a all : List Fact) (ms : List Multiple) (i n : ℕ) (m : Multiple) →
    a ++ multiple_facts n (map multiple (drop i ms)) ≡ all → i < length ms → m ≡ get_or ms i m → IsUnrooted (a ++ one_of m n) e → IsUnrooted all e
unrooted_multiple e a all ms i n m d lt q h =
    let rest = multiple_facts (suc n) (map multiple (drop (suc i) ms)) in
    subst (λ fs. IsUnrooted fs e) (append_assoc a (one_of m n) rest ∙ ap (λ x. a ++ multiple_facts n (map multiple x)) (front ms i m lt q) ∙ d)
    (unrooted_more e (a ++ one_of m n) rest h)

-- what is said with one multiple more
pub multiple_more : (a b all : List Fact) (ms : List Multiple) (i before : ℕ) (m : Multiple) →
    a ++ multiple_facts (before + i) (map multiple (drop i ms)) ≡ all → i < length ms → m ≡ get_or ms i m → b ≡ a ++ one_of m (before + i) →
    b ++ multiple_facts (before + (i + 1)) (map multiple (drop (i + 1) ms)) ≡ all
multiple_more a b all ms i before m d lt q h =
    let n = before + i in
    let rest = multiple_facts (suc n) (map multiple (drop (suc i) ms)) in
    let further : suc n ≡ before + (i + 1) = omega arith in
    let next : suc i ≡ i + 1 = omega arith in
    subst (λ k. b ++ multiple_facts (before + (i + 1)) (map multiple (drop k ms)) ≡ all) next
    (subst (λ k. b ++ multiple_facts k (map multiple (drop (suc i) ms)) ≡ all) further
    (ap (λ x. x ++ rest) h ∙ append_assoc a (one_of m n) rest ∙ ap (λ x. a ++ multiple_facts n (map multiple x)) (front ms i m lt q) ∙ d))

together : (old : List Fact) (cs : List Congruence) (ms : List Multiple) (n : ℕ) → n ≡ length cs →
    (old ++ congruence_facts 0 (map congruence cs)) ++ multiple_facts n (map multiple ms) ≡ old ++ quotient_facts (map congruence cs) (map multiple ms)
together old cs ms n c =
    append_assoc old (congruence_facts 0 (map congruence cs)) (multiple_facts n (map multiple ms))
    ∙ ap (λ k. old ++ (congruence_facts 0 (map congruence cs) ++ multiple_facts k (map multiple ms))) (c ∙ sym (length-map cs congruence))

-- congruences, then multiples
pub both_said : (old mid new : List Fact) (cs : List Congruence) (ms : List Multiple) (n : ℕ) (r : Result (Unit {0}) WalkError) → mid ≡ old ++ congruence_facts 0 (map congruence cs) → n ≡ length cs →
    MatchResult r (λ _. new ≡ mid ++ multiple_facts n (map multiple ms)) (λ e. IsUnrooted (mid ++ multiple_facts n (map multiple ms)) e) →
    MatchResult r (λ _. new ≡ old ++ quotient_facts (map congruence cs) (map multiple ms)) (λ e. IsUnrooted (old ++ quotient_facts (map congruence cs) (map multiple ms)) e)
both_said old mid new cs ms n r d c h =
    subst (λ fs. MatchResult r (λ _. new ≡ fs) (λ e. IsUnrooted fs e)) (ap (λ x. x ++ multiple_facts n (map multiple ms)) d ∙ together old cs ms n c) h

pub first_unsaid : (e : WalkError) (old : List Fact) (cs : List Congruence) (ms : List Multiple) → IsUnrooted (old ++ congruence_facts 0 (map congruence cs)) e → IsUnrooted (old ++ quotient_facts (map congruence cs) (map multiple ms)) e
first_unsaid e old cs ms h =
    subst (λ fs. IsUnrooted fs e) (together old cs ms (length cs) refl)
    (unrooted_more e (old ++ congruence_facts 0 (map congruence cs)) (multiple_facts (length cs) (map multiple ms)) h)
