-- Forms that have symbols of the launch and of the first item alone.
use Rattle.std.proofs.Common.{◌≡◌, List, length, Some, nat_le, refl, ap, ◌∙◌, ◌&&◌, subst, sym, ℕ, zero, suc, ◌%◌, ◌<◌, Bool, true, false, cond, nat_lt, [], ◌∷◌, arith}
use Rattle.std.proofs.lemmas.Bool.Decides.{nat_tests}
use Rattle.std.specs.Prelude.{nat_eq, ℤ, pos, negsuc, ◌+ℤ◌, ◌-ℤ◌, ◌*ℤ◌}
use Rattle.linear.specs.Linear.{Weighted}
use Rattle.semantics.specs.Launch.{Three}
use Rattle.semantics.specs.Setup.{along}
use Rattle.linear.specs.Exact.{Terms, put, merge, merge_one, multiples, sum, multiple}
use Rattle.linear.specs.Exact.{fits, fits_i64}
use Rattle.linear.specs.Products.{factors, are_small, product_number, insert_rising, merged, times, within_i64, single, varying, no_form, plus_multiple, add_product, add_row, add_rows, product}
use Rattle.linear.proofs.Multiplying.{both_true, factors-alone, times-factors, tested, same, gives}
use Rattle.facts.specs.Symbols as symbols
use Rattle.facts.specs.Symbols.{First, ArgumentOf, Length, Local, Group, New, number, Fact, constant, once, minus}
use Rattle.facts.specs.Launching.{item_facts}
use Rattle.walk_trees.specs.Seconds.{is_whole}
use Rattle.walk_trees.proofs.Each.{Each}

abbrev pub AreOwnFactors : List ℕ → Type 0
AreOwnFactors [] = Unit {0}
AreOwnFactors (n ∷ ns) = (n % 16 < 9) × AreOwnFactors ns

abbrev pub IsOwnSymbol : ℕ → Type 0
IsOwnSymbol n = AreOwnFactors (factors n) × (is_whole n ≡ true)

abbrev pub AreOwn : Terms → Type 0
AreOwn [] = Unit {0}
AreOwn (t ∷ ts) = IsOwnSymbol t.symbol × AreOwn ts

abbrev pub IsOwn : Fact → Type 0
IsOwn f = AreOwn f.terms

own-put : (z : ℤ) (s : ℕ) (ts : Terms) → IsOwnSymbol s → AreOwn ts → AreOwn (put z s ts)
own-put (pos zero) s ts h k = k
own-put (pos (suc n)) s ts h k = (h, k)
own-put (negsuc n) s ts h k = (h, k)

chosen : (b : Bool) (ts us : Terms) → AreOwn ts → AreOwn us → AreOwn (cond b ts us)
chosen true ts us h k = h
chosen false ts us h k = k

own-merge_one : (x : Weighted ℕ) (rest : Terms → Terms) → IsOwnSymbol x.symbol → ((b : Terms) → AreOwn b → AreOwn (rest b)) → (b : Terms) → AreOwn b → AreOwn (merge_one x rest b)
own-merge_one x rest h f [] k = (h, f [] tt)
own-merge_one x rest h f (y ∷ b) k =
    chosen (nat_lt x.symbol y.symbol) (x ∷ rest (y ∷ b)) _ (h, f (y ∷ b) k)
    (chosen (nat_lt y.symbol x.symbol) (y ∷ merge_one x rest b) _ (k.0, own-merge_one x rest h f b k.1) (own-put (x.coefficient +ℤ y.coefficient) x.symbol (rest b) h (f b k.1)))

own-merge : (a b : Terms) → AreOwn a → AreOwn b → AreOwn (merge a b)
own-merge [] b h k = k
own-merge (x ∷ a) b h k = own-merge_one x (merge a) h.0 (λ b' k'. own-merge a b' h.1 k') b k

own-multiples : (c : ℤ) (a : Terms) → AreOwn a → AreOwn (multiples c a)
own-multiples c [] h = tt
own-multiples c (t ∷ ts) h = own-put (c *ℤ t.coefficient) t.symbol (multiples c ts) h.0 (own-multiples c ts h.1)

pub own-sum : (f g : Fact) → IsOwn f → IsOwn g → IsOwn (sum f g)
own-sum f g h k = own-merge f.terms g.terms h k

pub own-multiple : (c : ℤ) (f : Fact) → IsOwn f → IsOwn (multiple c f)
own-multiple c f h = own-multiples c f.terms h

pub own-minus : (f g : Fact) → IsOwn f → IsOwn g → IsOwn (minus f g)
own-minus f g h k = own-sum f (multiple (negsuc 0) g) h (own-multiple (negsuc 0) g k)

whole-alone : (n : ℕ) → n % 16 < 9 → is_whole n ≡ true
whole-alone n h =
    let e : nat_eq (n % 16) 15 ≡ false = grind (arith, nat_tests) in
    ap (λ b. cond b (are_small (factors n) && nat_eq (product_number (factors n)) n) true) e

whole-if : (b s q : Bool) → s ≡ true → q ≡ true → cond b (s && q) true ≡ true
whole-if true s q h k = ap (λ a. a && q) h ∙ k
whole-if false s q h k = refl

same-test : (m n : ℕ) → m ≡ n → nat_eq m n ≡ true
same-test m n h = grind (arith, nat_tests)

whole-times : (m n k : ℕ) → times m n ≡ Some k → is_whole k ≡ true
whole-times m n k h =
    let all = merged (factors m) (factors n) in
    let t = tested (nat_le (length all) 3 && are_small all) (Some (product_number all)) k h in
    let b = both_true (nat_le (length all) 3) (are_small all) t.0 in
    let f = times-factors m n k h in
    whole-if (nat_eq (k % 16) 15) (are_small (factors k)) (nat_eq (product_number (factors k)) k) (ap are_small f ∙ b.1) (same-test (product_number (factors k)) k (ap product_number f ∙ same (product_number all) k t.1))

pub own-alone : (n : ℕ) → n % 16 < 9 → IsOwnSymbol n
own-alone n h = (subst AreOwnFactors (sym (factors-alone n (omega (arith, h)))) (h, tt), whole-alone n h)

own-chosen : (b : Bool) (fs gs : List ℕ) → AreOwnFactors fs → AreOwnFactors gs → AreOwnFactors (cond b fs gs)
own-chosen true fs gs h k = h
own-chosen false fs gs h k = k

own-insert : (a : ℕ) (gs : List ℕ) → a % 16 < 9 → AreOwnFactors gs → AreOwnFactors (insert_rising a gs)
own-insert a [] h k = (h, tt)
own-insert a (b ∷ gs) h k = own-chosen (nat_le a b) (a ∷ b ∷ gs) (b ∷ insert_rising a gs) (h, k) (k.0, own-insert a gs h k.1)

own-merged : (fs gs : List ℕ) → AreOwnFactors fs → AreOwnFactors gs → AreOwnFactors (merged fs gs)
own-merged [] gs h k = k
own-merged (a ∷ fs) gs h k = own-merged fs (insert_rising a gs) h.1 (own-insert a gs h.0 k)

pub own-times : (m n k : ℕ) → times m n ≡ Some k → IsOwnSymbol m → IsOwnSymbol n → IsOwnSymbol k
own-times m n k e p q = (subst AreOwnFactors (sym (times-factors m n k e)) (own-merged (factors m) (factors n) p.0 q.0), whole-times m n k e)

own-plus : (f : Fact) (k : ℤ) (g h : Fact) → plus_multiple f k g ≡ Some h → IsOwn f → IsOwn g → IsOwn h
own-plus f k g h e p q =
    let t = tested (fits_i64 k) (within_i64 (sum f (multiple k g))) h e in
    let w = tested (fits (sum f (multiple k g))) (Some (sum f (multiple k g))) h t.1 in
    subst IsOwn (same (sum f (multiple k g)) h w.1) (own-sum f (multiple k g) p (own-multiple k g q))

own-add_row : (f : Fact) (t : Weighted ℕ) (us : Terms) (h : Fact) → add_row f t us ≡ Some h → IsOwn f → IsOwnSymbol t.symbol → AreOwn us → IsOwn h
own-add_row f t [] h e p o q = subst IsOwn (same f h e) p
own-add_row f t (u ∷ us) h e p o q =
    let g = gives (add_product f t u) _ h e in
    let s = gives (times t.symbol u.symbol) _ g.0 g.1 in
    own-add_row g.0 t us h g.2 (own-plus f (t.coefficient *ℤ u.coefficient) (single s.0) g.0 s.2 p (own-times t.symbol u.symbol s.0 s.1 o q.0, tt)) o q.1

own-add_rows : (f : Fact) (ts us : Terms) (h : Fact) → add_rows f ts us ≡ Some h → IsOwn f → AreOwn ts → AreOwn us → IsOwn h
own-add_rows f [] us h e p o q = subst IsOwn (same f h e) p
own-add_rows f (t ∷ ts) us h e p o q =
    let g = gives (add_row f t us) _ h e in
    own-add_rows g.0 ts us h g.2 (own-add_row f t us g.0 g.1 p o.0 q) o.1 q

pub own-product : (f g h : Fact) → product f g ≡ Some h → IsOwn f → IsOwn g → IsOwn h
own-product f g h e p q =
    let a = gives (plus_multiple no_form g.constant f) _ h e in
    let b = gives (plus_multiple a.0 f.constant (varying g)) _ h a.2 in
    own-add_rows b.0 f.terms g.terms h b.2 (own-plus a.0 f.constant (varying g) b.0 b.1 (own-plus no_form g.constant f a.0 a.1 tt p) q) p q

pub own-groups : (d : ℕ) → IsOwn (once (symbols.Groups d))
own-groups d = (own-alone (number (symbols.Groups d)) (omega arith), tt)

pub own-given : (n : ℕ) → IsOwn (once (ArgumentOf n))
own-given n = (own-alone (number (ArgumentOf n)) (omega arith), tt)

pub own-length : (b : ℕ) → IsOwn (once (Length b))
own-length b = (own-alone (number (Length b)) (omega arith), tt)

pub own-local : (d : ℕ) → IsOwn (once (Local First d))
own-local d = (own-alone (number (Local First d)) (omega arith), tt)

pub own-group : (d : ℕ) → IsOwn (once (Group First d))
own-group d = (own-alone (number (Group First d)) (omega arith), tt)

pub own-new : (k : ℕ) → IsOwn (once (New First k))
own-new k = (own-alone (number (New First k)) (omega arith), tt)

-- what is known of an item at first
pub own-items : (sizes : Three ℕ) → Each IsOwn (item_facts sizes First)
own-items sizes =
    let last = λ (d : ℕ) (z : ℤ). own-minus (constant z) (once (Local First d)) tt (own-local d) in
    let room = λ (d : ℕ). own-minus (minus (once (symbols.Groups d)) (once (Group First d))) (constant (pos 1)) (own-minus (once (symbols.Groups d)) (once (Group First d)) (own-groups d) (own-group d)) tt in
    (own-local 0, (last 0 (pos (along sizes 0 1) -ℤ pos 1), (own-group 0, (room 0, (own-local 1, (last 1 (pos (along sizes 1 1) -ℤ pos 1), (own-group 1, (room 1, (own-local 2, (last 2 (pos (along sizes 2 1) -ℤ pos 1), (own-group 2, (room 2, tt))))))))))))
