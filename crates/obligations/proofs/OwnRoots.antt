-- What is known where the tree of a place begins is own: what is told of places is of one item.
use Rattle.std.proofs.Common.{◌≡◌, ℕ, suc, ◌%◌, ◌<◌, Bool, true, false, ◌&&◌, cond, nat_eq, nat_le, List, [], ◌∷◌, ◌++◌, length, map, Option, Some, None, subst, refl, ap, ◌∙◌, arith, ltb-true}
use Rattle.std.specs.Prelude.{pos}
use Rattle.std.proofs.lemmas.Bool.{and_parts}
use Rattle.std.proofs.lemmas.Bool.Decides.{nat_tests}
use Rattle.linear.specs.Linear.{Weighted}
use Rattle.linear.specs.Products.{factors, are_small, product_number, merged, times}
use Rattle.linear.proofs.Multiplying.{both_true, factors-alone, times-factors, tested, same, gives}
use Rattle.walk_trees.specs.Operators.{small_product}
use Rattle.walk_trees.specs.Seconds.{is_whole}
use Rattle.semantics.specs.Word.{Kind}
use Rattle.semantics.specs.Launch.{Kernel}
use Rattle.linear.specs.Exact.{multiple}
use Rattle.facts.specs.Symbols as symbols
use Rattle.facts.specs.Symbols.{First, Second, Symbol, ArgumentOf, Length, Local, Group, New, Variable, AtAnchor, Turns, number, symbol_of, Fact, constant, once}
use Rattle.facts.specs.Launching.{item_facts}
use Rattle.walk_trees.specs.Walks.{Setting, least, greatest}
use Rattle.walk_trees.specs.Statements.{zero_value}
use Rattle.walk_trees.proofs.Each.{Each}
use Rattle.walk_trees.proofs.OwnForms.{own-alone, own-product, AreOwnFactors, IsOwnSymbol, AreOwn, IsOwn, own-minus, own-multiple, own-given, own-new, own-items}
use Rattle.walk_trees.proofs.OwnQuotients.{AreOwnValues}
use Rattle.walk_trees.proofs.OwnTrees.{own-arguments, own-zeros, joined}
use Rattle.obligations.specs.Notes.{Congruence, Multiple, Notes}
use Rattle.obligations.specs.Listing.{is_some}
use Rattle.obligations.specs.Telling.{may_tell, is_symbol, factor_tells, factors_tell, times_all, is_number, is_product, symbol_tells, terms_tell, tells, all_tell, congruences_tell, multiples_tell, TellsOfItems}
use Rattle.obligations.specs.Roots.{is_kept, kinds, kind_of, values_from, root_values, facts_at, congruences_at, multiples_at, all_ends, congruence_facts, multiple_fact, multiple_facts, quotient_facts, range_facts, root_facts}
use Rattle.obligations.proofs.Told.{number-symbol_of}
use Rattle.obligations.proofs.Quotients.{small-product}

own-symbol : (b : Bool) (s : Symbol) → may_tell b s ≡ true → IsOwnSymbol (number s)
own-symbol b (symbols.Groups d) h = own-alone (number (symbols.Groups d)) (omega arith)
own-symbol b (ArgumentOf n) h = own-alone (number (ArgumentOf n)) (omega arith)
own-symbol b (Length n) h = own-alone (number (Length n)) (omega arith)
own-symbol b (Local First d) h = own-alone (number (Local First d)) (omega arith)
own-symbol b (Group First d) h = own-alone (number (Group First d)) (omega arith)
own-symbol b (New First k) h = cc
own-symbol b (Variable First x) h = own-alone (number (Variable First x)) (omega arith)
own-symbol b (AtAnchor First x) h = own-alone (number (AtAnchor First x)) (omega arith)
own-symbol b (Turns First n) h = own-alone (number (Turns First n)) (omega arith)
own-symbol b (Local Second d) h = cc
own-symbol b (Group Second d) h = cc
own-symbol b (New Second k) h = cc
own-symbol b (Variable Second x) h = cc
own-symbol b (AtAnchor Second x) h = cc
own-symbol b (Turns Second n) h = cc

-- the number of a product
same-number : (m n : ℕ) → nat_eq m n ≡ true → m ≡ n
same-number m n h = grind (arith, nat_tests)

same-test : (m n : ℕ) → m ≡ n → nat_eq m n ≡ true
same-test m n h = grind (arith, nat_tests)

whole-if : (b s q : Bool) → s ≡ true → q ≡ true → cond b (s && q) true ≡ true
whole-if true s q h k = ap (λ a. a && q) h ∙ k
whole-if false s q h k = refl

whole-times : (m n k : ℕ) → times m n ≡ Some k → is_whole k ≡ true
whole-times m n k h =
    let all = merged (factors m) (factors n) in
    let t = tested (nat_le (length all) 3 && are_small all) (Some (product_number all)) k h in
    let b = both_true (nat_le (length all) 3) (are_small all) t.0 in
    let f = times-factors m n k h in
    whole-if (nat_eq (k % 16) 15) (are_small (factors k)) (nat_eq (product_number (factors k)) k) (ap are_small f ∙ b.1) (same-test (product_number (factors k)) k (ap product_number f ∙ same (product_number all) k t.1))

whole-all : (m : ℕ) (ns : List ℕ) (k : ℕ) → is_whole m ≡ true → times_all m ns ≡ Some k → is_whole k ≡ true
whole-all m [] k h e = subst (λ j. is_whole j ≡ true) (same m k e) h
whole-all m (n ∷ ns) k h e = let j = gives (times m n) _ k e in whole-all j.0 ns k (whole-times m n j.0 j.1) j.2

number-there : (n : ℕ) (o : Option ℕ) → is_number n o ≡ true → o ≡ Some n
number-there n None h = cc
number-there n (Some m) h = ap Some (same-number m n h)

own-factor : (b : Bool) (n : ℕ) → factor_tells b n ≡ true → IsOwnSymbol n
own-factor b n h = let q = and_parts (is_symbol n) (may_tell b (symbol_of n)) h in subst IsOwnSymbol (number-symbol_of n q.0) (own-symbol b (symbol_of n) q.1)

whole-product : (b : Bool) (n : ℕ) (ns : List ℕ) → factors_tell b ns ≡ true → is_product n ns ≡ true → is_whole n ≡ true
whole-product b n [] h e = cc
whole-product b n (m ∷ ms) h e = whole-all m ms n (own-factor b m (and_parts (factor_tells b m) (factors_tell b ms) h).0).1 (number-there n (times_all m ms) e)

-- a factor is no product
below-alone : (n : ℕ) → is_symbol n ≡ true → AreOwnFactors (factors n) → n % 16 < 9
below-alone n h o = (subst AreOwnFactors (factors-alone n (let l = ltb-true (n % 16) 15 h in omega (arith, l))) o).0

own-factors : (b : Bool) (ns : List ℕ) → factors_tell b ns ≡ true → AreOwnFactors ns
own-factors b [] h = tt
own-factors b (n ∷ ns) h =
    let p = and_parts (factor_tells b n) (factors_tell b ns) h in
    (below-alone n (and_parts (is_symbol n) (may_tell b (symbol_of n)) p.0).0 (own-factor b n p.0).0, own-factors b ns p.1)

own-number : (b : Bool) (n : ℕ) → symbol_tells b n ≡ true → IsOwnSymbol n
own-number b n h =
    let p = and_parts (factors_tell b (factors n)) (is_product n (factors n)) h in
    (own-factors b (factors n) p.0, whole-product b n (factors n) p.0 p.1)

own-terms : (b : Bool) (ts : List (Weighted ℕ)) → terms_tell b ts ≡ true → AreOwn ts
own-terms b [] h = tt
own-terms b (t ∷ ts) h =
    let p = and_parts (symbol_tells b t.symbol) (terms_tell b ts) h in
    (own-number b t.symbol p.0, own-terms b ts p.1)

own-tells : (b : Bool) (fs : List Fact) → all_tell b fs ≡ true → Each IsOwn fs
own-tells b [] h = tt
own-tells b (f ∷ fs) h = let p = and_parts (tells b f) (all_tell b fs) h in (own-terms b f.terms p.0, own-tells b fs p.1)

own-quotients : (b : Bool) (i : ℕ) (cs : List Congruence) → congruences_tell b cs ≡ true → Each IsOwn (congruence_facts i cs)
own-quotients b i [] h = tt
own-quotients b i (c ∷ cs) h =
    let p = and_parts (tells b c.form) (congruences_tell b cs) h in
    let f = own-terms b c.form.terms p.0 in
    let q = own-multiple (pos c.modulus) (once (New First i)) (own-new i) in
    (own-minus c.form (multiple (pos c.modulus) (once (New First i))) f q, (own-minus (multiple (pos c.modulus) (once (New First i))) c.form q f, own-quotients b (suc i) cs p.1))

own-equal : (f : Fact) (o : Option Fact) → IsOwn f → ((h : Fact) → o ≡ Some h → IsOwn h) → Each IsOwn (multiple_fact f o)
own-equal f None p q = tt
own-equal f (Some h) p q = (own-minus f h p (q h refl), (own-minus h f (q h refl) p, tt))

own-multiples : (b : Bool) (i : ℕ) (ms : List Multiple) → multiples_tell b ms ≡ true → Each IsOwn (multiple_facts i ms)
own-multiples b i [] h = tt
own-multiples b i (m ∷ ms) h =
    let p = and_parts (tells b m.form && tells b m.of) (multiples_tell b ms) h in
    let q = and_parts (tells b m.form) (tells b m.of) p.0 in
    let o = once (New First i) in
    joined IsOwn (multiple_fact m.form (small_product m.of o)) (multiple_facts (suc i) ms)
    (own-equal m.form (small_product m.of o) (own-terms b m.form.terms q.0) (λ g e. own-product m.of o g (small-product m.of o g e) (own-terms b m.of.terms q.1) (own-new i))) (own-multiples b (suc i) ms p.1)

own-variable : (x : ℕ) → IsOwn (once (Variable First x))
own-variable x = (own-alone (number (Variable First x)) (omega arith), tt)

own-at_anchor : (x : ℕ) → IsOwn (once (AtAnchor First x))
own-at_anchor x = (own-alone (number (AtAnchor First x)) (omega arith), tt)

own-ends : (k : Kernel) (s : ℕ → Symbol) (xs : List ℕ) → ((x : ℕ) → IsOwn (once (s x))) → Each IsOwn (all_ends k s xs)
own-ends k s [] h = tt
own-ends k s (x ∷ xs) h = (own-minus (once (s x)) (constant (least (kind_of k x))) (h x) tt, (own-minus (constant (greatest (kind_of k x))) (once (s x)) tt (h x), own-ends k s xs h))

module _ (k : Kernel) (n : Notes) (tell : TellsOfItems n) where
  told-ranges : (a h : Option ℕ) → Each IsOwn (range_facts k n a h)
  told-ranges None None = tt
  told-ranges (Some b) None = own-ends k (Variable First) (n.visible (Some b)) own-variable
  told-ranges a (Some h) =
      joined IsOwn (all_ends k (Variable First) (n.visible (Some h))) (all_ends k (AtAnchor First) (n.visible a)) (own-ends k (Variable First) (n.visible (Some h)) own-variable) (own-ends k (AtAnchor First) (n.visible a) own-at_anchor)

  told-facts : (a h : Option ℕ) → Each IsOwn (facts_at n a h)
  told-facts None None = tt
  told-facts None (Some h) = own-tells true (n.facts None (Some h)) (tell.facts None (Some h))
  told-facts (Some b) h = own-tells (is_some h) (n.facts (Some b) h) (tell.facts (Some b) h)

  told-congruences : (a h : Option ℕ) → Each IsOwn (congruence_facts 0 (congruences_at n a h))
  told-congruences None None = tt
  told-congruences None (Some h) = own-quotients true 0 (n.congruences None (Some h)) (tell.congruences None (Some h))
  told-congruences (Some b) h = own-quotients (is_some h) 0 (n.congruences (Some b) h) (tell.congruences (Some b) h)

  own-where : (t b : Bool) (i : ℕ) (ms : List Multiple) → multiples_tell b ms ≡ true → Each IsOwn (multiple_facts i (cond t ms []))
  own-where true b i ms h = own-multiples b i ms h
  own-where false b i ms h = tt

  told-multiples : (i : ℕ) (a h : Option ℕ) → Each IsOwn (multiple_facts i (multiples_at n a h))
  told-multiples i None None = tt
  told-multiples i None (Some h) = own-where n.is_wide true i (n.multiples None (Some h)) (tell.multiples None (Some h))
  told-multiples i (Some b) h = own-where n.is_wide (is_some h) i (n.multiples (Some b) h) (tell.multiples (Some b) h)

  told-quotients : (a h : Option ℕ) → Each IsOwn (quotient_facts (congruences_at n a h) (multiples_at n a h))
  told-quotients a h =
      joined IsOwn (congruence_facts 0 (congruences_at n a h)) (multiple_facts (length (congruences_at n a h)) (multiples_at n a h)) (told-congruences a h) (told-multiples (length (congruences_at n a h)) a h)

  pub own-root : (a h : Option ℕ) → Each IsOwn (root_facts k n a h)
  own-root a h =
      joined IsOwn (item_facts k.sizes First) (range_facts k n a h ++ (facts_at n a h ++ quotient_facts (congruences_at n a h) (multiples_at n a h))) (own-items k.sizes)
      (joined IsOwn (range_facts k n a h) (facts_at n a h ++ quotient_facts (congruences_at n a h) (multiples_at n a h)) (told-ranges a h)
      (joined IsOwn (facts_at n a h) (quotient_facts (congruences_at n a h) (multiples_at n a h)) (told-facts a h) (told-quotients a h)))

-- what the variables are there
either_form : (b : Bool) (f g : Fact) → IsOwn f → IsOwn g → IsOwn (cond b f g)
either_form true f g h k = h
either_form false f g h k = k

own-from : (k : Kernel) (x : ℕ) (as' : List Kind) → AreOwnValues (values_from k x as')
own-from k x [] = tt
own-from k x (a ∷ as') = (either_form (is_kept k x) (once (ArgumentOf x)) (once (Variable First x)) (own-given x) (own-variable x), own-from k (suc x) as')

pub own-values : {E : Type 0} (s : Setting E) (k : Kernel) (a h : Option ℕ) → AreOwnValues (root_values k a h)
own-values s k None None = own-arguments s 0 k.arguments (map zero_value k.variables) (own-zeros s k.variables)
own-values s k None (Some h) = own-from k 0 (kinds k)
own-values s k (Some b) h = own-from k 0 (kinds k)
