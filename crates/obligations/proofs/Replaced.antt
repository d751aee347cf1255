-- A form of a place, put in the terms of a path, has the value that the place's form has where the path comes.
use Rattle.std.proofs.Common.{◌≡◌, ℕ, Bool, true, Option, None, Some, List, [], ◌∷◌, arith, refl, subst, ◌∙◌, slice_index_or}
use Rattle.std.specs.Prelude.{ℤ, pos, ◌+ℤ◌, ◌*ℤ◌}
use Rattle.std.proofs.lemmas.Int.{ints}
use Rattle.std.proofs.lemmas.Bool.{and_parts}
use Rattle.linear.specs.Linear.{terms_value, value_of}
use Rattle.linear.specs.Exact.{Terms, sum, multiple}
use Rattle.linear.specs.Products.{factors, product, value_of_factors, replaced_factors, replaced_product}
use Rattle.linear.proofs.Multiplying.{gives, same, value_product, rising_product}
use Rattle.semantics.proofs.Integers.{mul_assoc}
use Rattle.facts.specs.Symbols as symbols
use Rattle.facts.specs.Symbols.{First, Second, Symbol, ArgumentOf, Length, Local, Group, New, Variable, AtAnchor, Turns, symbol_of, Fact, constant, once}
use Rattle.facts.proofs.Members.{by_number}
use Rattle.facts.proofs.Worlds.{View, Root, setup, meaning, groups_at, given_at, length_at, variable_at}
use Rattle.semantics.specs.Setup.{local_id, group_id}
use Rattle.walk_trees.specs.Values.{Value}
use Rattle.walk_trees.specs.Walks.{Ranked, rank_form}
use Rattle.walk_trees.specs.Terms.{no_value}
use Rattle.walk_trees.proofs.Ranges.{IsForm, form-is, form_constant, form_once, form-sum, form-multiple}
use Rattle.obligations.specs.Replacing.{Replacement, or_nothing, form_of, is_form, are_replaceable, is_replaceable, replaced_from, replaced, form_on, replacement}
use Rattle.obligations.specs.Telling.{may_tell, is_symbol, factor_tells, factors_tell, is_product, symbol_tells, terms_tell, tells}

-- a form that there is
form-there : (o : Option Fact) → is_form o ≡ true → o ≡ Some (or_nothing o)
form-there None h = cc
form-there (Some f) h = refl

-- what an item means by a form where it has these
abbrev pub value_at : {E : Type 0} → View E → Root → Fact → ℤ
value_at c r f = value_of (by_number (meaning (setup c) c.item c.item r r [] [])) f

module _ {E : Type 0} (c : View E) (news : List ℤ) (r : Root) (vs : List Value) (anchors : ℕ → Fact) (rs : List Ranked)
    (variables : (x : ℕ) → IsForm c news (slice_index_or vs x no_value).form (variable_at r.variables x))
    (ranks : (n : ℕ) → IsForm c news (rank_form rs n) (r.ranks n))
  where
    abbrev m : Symbol → ℤ
    m = meaning (setup c) c.item c.item r r [] []

    -- those at the anchor, where they are asked for
    abbrev AtAnchors : Bool → Type 0
    AtAnchors b = b ≡ true → (x : ℕ) → IsForm c news (anchors x) (variable_at r.anchor x)

    symbol-is : (b : Bool) → AtAnchors b → (s : Symbol) → may_tell b s ≡ true → IsForm c news (form_on vs anchors rs s) (m s)
    symbol-is b at (symbols.Groups d) h = form_once c news (symbols.Groups d) (groups_at c.launch d) (λ v a. a.groups d)
    symbol-is b at (ArgumentOf n) h = form_once c news (ArgumentOf n) (given_at c.launch n) (λ v a. a.given n)
    symbol-is b at (Length n) h = form_once c news (Length n) (length_at c.launch n) (λ v a. a.lengths n)
    symbol-is b at (Local First d) h = form_once c news (Local First d) (pos (local_id (setup c) c.item d)) (λ v a. a.local d)
    symbol-is b at (Group First d) h = form_once c news (Group First d) (pos (group_id (setup c) c.item d)) (λ v a. a.group d)
    symbol-is b at (New First k) h = cc
    symbol-is b at (Variable First x) h = variables x
    symbol-is b at (AtAnchor First x) h = at h x
    symbol-is b at (Turns First n) h = ranks n
    symbol-is b at (Local Second d) h = cc
    symbol-is b at (Group Second d) h = cc
    symbol-is b at (New Second k) h = cc
    symbol-is b at (Variable Second x) h = cc
    symbol-is b at (AtAnchor Second x) h = cc
    symbol-is b at (Turns Second n) h = cc

    abbrev by : Replacement
    by = replacement vs anchors rs

    factor-is : (b : Bool) → AtAnchors b → (n : ℕ) → factor_tells b n ≡ true → IsForm c news (by n) (m (symbol_of n))
    factor-is b at n h = symbol-is b at (symbol_of n) (and_parts (is_symbol n) (may_tell b (symbol_of n)) h).1

    times-is : (f g h : Fact) (x y : ℤ) → IsForm c news f x → IsForm c news g y → product f g ≡ Some h → IsForm c news h (x *ℤ y)
    times-is f g h x y mf mg e = record { rising = rising_product f g h e mf.rising mg.rising; means = λ v a. value_product v a.products f g h e ∙ (λ i. mf.means v a i *ℤ mg.means v a i) }

    factors-are : (b : Bool) → AtAnchors b → (f : Fact) (z : ℤ) (ns : List ℕ) (h : Fact) → factors_tell b ns ≡ true → replaced_factors by f ns ≡ Some h → IsForm c news f z → IsForm c news h (z *ℤ value_of_factors (λ n. m (symbol_of n)) ns)
    factors-are b at f z [] h t e k = subst (λ g. IsForm c news g (z *ℤ pos 1)) (same f h e) (form-is c (z *ℤ pos 1) (omega (arith, ints)) k)
    factors-are b at f z (n ∷ ns) h t e k =
        let p = and_parts (factor_tells b n) (factors_tell b ns) t in
        let g = gives (product f (by n)) _ h e in
        let x = m (symbol_of n) in
        form-is c (z *ℤ (x *ℤ value_of_factors (λ i. m (symbol_of i)) ns)) (mul_assoc z x (value_of_factors (λ i. m (symbol_of i)) ns))
        (factors-are b at g.0 (z *ℤ x) ns h p.1 g.2 (times-is f (by n) g.0 z x k (factor-is b at n p.0) g.1))

    -- a product, factor by factor
    product-is : (b : Bool) → AtAnchors b → (ns : List ℕ) (h : Fact) → factors_tell b ns ≡ true → replaced_product by ns ≡ Some h → IsForm c news h (value_of_factors (λ n. m (symbol_of n)) ns)
    product-is b at [] h t e = subst (λ g. IsForm c news g (pos 1)) (same (constant (pos 1)) h e) (form_constant c news (pos 1))
    product-is b at (n ∷ ns) h t e =
        let p = and_parts (factor_tells b n) (factors_tell b ns) t in
        factors-are b at (by n) (m (symbol_of n)) ns h p.1 e (factor-is b at n p.0)

    form_of-is : (b : Bool) → AtAnchors b → (n : ℕ) → symbol_tells b n ≡ true → is_form (replaced_product by (factors n)) ≡ true → IsForm c news (form_of by n) (by_number m n)
    form_of-is b at n h e = product-is b at (factors n) (form_of by n) (and_parts (factors_tell b (factors n)) (is_product n (factors n)) h).0 (form-there (replaced_product by (factors n)) e)

    from-is : (b : Bool) → AtAnchors b → (ts : Terms) → terms_tell b ts ≡ true → are_replaceable by ts ≡ true → (f : Fact) (z : ℤ) → IsForm c news f z → IsForm c news (replaced_from by f ts) (z +ℤ terms_value (by_number m) ts)
    from-is b at [] h e f z k = form-is c (z +ℤ pos 0) (omega (arith, ints)) k
    from-is b at (t ∷ ts) h e f z k =
        let p = and_parts (symbol_tells b t.symbol) (terms_tell b ts) h in
        let q = and_parts (is_form (replaced_product by (factors t.symbol))) (are_replaceable by ts) e in
        let y = by_number m t.symbol in
        let x = t.coefficient *ℤ y in
        let g = form_of by t.symbol in
        let one = form-sum c f (multiple t.coefficient g) z x k (form-multiple c t.coefficient g y (form_of-is b at t.symbol p.0 q.0)) in
        form-is c (z +ℤ (x +ℤ terms_value (by_number m) ts)) (omega (arith, ints)) (from-is b at ts p.1 q.1 (sum f (multiple t.coefficient g)) (z +ℤ x) one)

    pub replaced-is : (b : Bool) → AtAnchors b → (f : Fact) → tells b f ≡ true → is_replaceable by f ≡ true → IsForm c news (replaced by f) (value_at c r f)
    replaced-is b at f h e = form-is c (value_at c r f) (omega (arith, ints)) (from-is b at f.terms h e (constant f.constant) f.constant (form_constant c news f.constant))
