-- A product of symbols of which may be told may be told of, too.
use Rattle.std.proofs.Common.{◌≡◌, ◌≢◌, ℕ, zero, suc, ◌+◌, ◌%◌, ◌<◌, ◌≤◌, Bool, true, false, ◌&&◌, cond, nat_le, nat_lt, nat_eq, List, [], ◌∷◌, length, Option, None, Some, refl, ap, sym, ◌∙◌, subst, arith}
use Rattle.std.proofs.lemmas.Bool.{and_parts, and_from}
use Rattle.std.proofs.lemmas.Bool.Decides.{nat_tests}
use Rattle.linear.specs.Products.{factors, product_number, insert_rising, merged, are_small, product_of, times, and_then}
use Rattle.linear.proofs.Multiplying.{below, at_most, factors-product, factors-alone, tested, same, times-factors}
use Rattle.facts.specs.Symbols.{symbol_of}
use Rattle.obligations.specs.Telling.{may_tell, is_symbol, factor_tells, factors_tell, times_all, is_number, is_product, symbol_tells}

at_most_test : (m n : ℕ) → m ≤ n → nat_le m n ≡ true
at_most_test m n h = grind (arith, nat_tests)

above : (m n : ℕ) → nat_le m n ≡ false → n ≤ m
above m n h = grind (arith, nat_tests)

same_test : (n : ℕ) → nat_eq n n ≡ true
same_test n = grind (arith, nat_tests)

-- lists that rise
abbrev pub AtMost : ℕ → List ℕ → Type 0
AtMost a [] = Unit {0}
AtMost a (b ∷ fs) = a ≤ b

abbrev pub IsSorted : List ℕ → Type 0
IsSorted [] = Unit {0}
IsSorted (a ∷ fs) = AtMost a fs × IsSorted fs

insert-least : (a b c : ℕ) (gs : List ℕ) (t : Bool) → b ≤ a → b ≤ c → AtMost b (cond t (a ∷ c ∷ gs) (c ∷ insert_rising a gs))
insert-least a b c gs true h k = h
insert-least a b c gs false h k = k

insert-above : (a b : ℕ) (gs : List ℕ) → b ≤ a → AtMost b gs → AtMost b (insert_rising a gs)
insert-above a b [] h k = h
insert-above a b (c ∷ gs) h k = insert-least a b c gs (nat_le a c) h k

insert-sorted : (a : ℕ) (gs : List ℕ) → IsSorted gs → IsSorted (insert_rising a gs)
insert-sorted a [] s = (tt, tt)
insert-sorted a (c ∷ gs) s = by (nat_le a c) refl (insert-sorted a gs s.1)
  where
    by : (t : Bool) → nat_le a c ≡ t → IsSorted (insert_rising a gs) → IsSorted (cond t (a ∷ c ∷ gs) (c ∷ insert_rising a gs))
    by true e r = (at_most a c e, s)
    by false e r = (insert-above a c gs (above a c e) s.0, r)

merged-sorted : (fs gs : List ℕ) → IsSorted gs → IsSorted (merged fs gs)
merged-sorted [] gs s = s
merged-sorted (a ∷ fs) gs s = merged-sorted fs (insert_rising a gs) (insert-sorted a gs s)

insert-length : (a : ℕ) (gs : List ℕ) → length (insert_rising a gs) ≡ suc (length gs)
insert-length a [] = refl
insert-length a (c ∷ gs) = by (nat_le a c) (insert-length a gs)
  where
    by : (t : Bool) → length (insert_rising a gs) ≡ suc (length gs) → length (cond t (a ∷ c ∷ gs) (c ∷ insert_rising a gs)) ≡ suc (suc (length gs))
    by true r = refl
    by false r = ap suc r

merged-length : (fs gs : List ℕ) → length (merged fs gs) ≡ length fs + length gs
merged-length [] gs = omega arith
merged-length (a ∷ fs) gs = omega (arith, merged-length fs (insert_rising a gs), insert-length a gs)

-- factors of which may be told
insert-tells : (b : Bool) (a : ℕ) (gs : List ℕ) → factor_tells b a ≡ true → factors_tell b gs ≡ true → factors_tell b (insert_rising a gs) ≡ true
insert-tells b a [] h k = and_from (factor_tells b a) true h refl
insert-tells b a (c ∷ gs) h k =
    let p = and_parts (factor_tells b c) (factors_tell b gs) k in
    by (nat_le a c) p.0 (insert-tells b a gs h p.1)
  where
    by : (t : Bool) → factor_tells b c ≡ true → factors_tell b (insert_rising a gs) ≡ true → factors_tell b (cond t (a ∷ c ∷ gs) (c ∷ insert_rising a gs)) ≡ true
    by true q r = and_from (factor_tells b a) (factors_tell b (c ∷ gs)) h k
    by false q r = and_from (factor_tells b c) (factors_tell b (insert_rising a gs)) q r

merged-tells : (b : Bool) (fs gs : List ℕ) → factors_tell b fs ≡ true → factors_tell b gs ≡ true → factors_tell b (merged fs gs) ≡ true
merged-tells b [] gs h k = k
merged-tells b (a ∷ fs) gs h k =
    let p = and_parts (factor_tells b a) (factors_tell b fs) h in
    merged-tells b fs (insert_rising a gs) p.1 (insert-tells b a gs p.0 k)

plain : (b : Bool) (a : ℕ) → factor_tells b a ≡ true → factors a ≡ a ∷ []
plain b a h =
    let l = below (a % 16) 15 (and_parts (is_symbol a) (may_tell b (symbol_of a)) h).0 in
    factors-alone a (λ e. absurd (omega (arith, e, l)))

-- a product's number is that of its factors from the left
small-product : (fs : List ℕ) → length fs ≤ 3 → are_small fs ≡ true → product_of fs ≡ Some (product_number fs)
small-product fs h s = ap (λ t. cond t (Some (product_number fs)) None) (and_from (nat_le (length fs) 3) (are_small fs) (at_most_test (length fs) 3 h) s)

times-two : (a c : ℕ) → factors a ≡ a ∷ [] → factors c ≡ c ∷ [] → a ≤ c → are_small (a ∷ c ∷ []) ≡ true → times a c ≡ Some (product_number (a ∷ c ∷ []))
times-two a c p q h s =
    ap (λ fs. product_of (merged fs (factors c))) p ∙ ap (λ gs. product_of (insert_rising a gs)) q ∙ ap (λ t. product_of (cond t (a ∷ c ∷ []) (c ∷ a ∷ []))) (at_most_test a c h) ∙ small-product (a ∷ c ∷ []) (omega arith) s

insert-behind : (a c d : ℕ) → a ≤ c → c ≤ d → insert_rising c (a ∷ d ∷ []) ≡ a ∷ c ∷ d ∷ []
insert-behind a c d h k = by (nat_le c a) refl
  where
    by : (t : Bool) → nat_le c a ≡ t → cond t (c ∷ a ∷ d ∷ []) (a ∷ cond (nat_le c d) (c ∷ d ∷ []) (d ∷ c ∷ [])) ≡ a ∷ c ∷ d ∷ []
    by true e =
        let same : c ≡ a = omega (arith, at_most c a e) in
        ap (λ x. x ∷ a ∷ d ∷ []) same ∙ ap (λ x. a ∷ x ∷ d ∷ []) (sym same)
    by false e = ap (λ t. a ∷ cond t (c ∷ d ∷ []) (d ∷ c ∷ [])) (at_most_test c d k)

small-two : (a c d : ℕ) → are_small (a ∷ c ∷ d ∷ []) ≡ true → are_small (a ∷ c ∷ []) ≡ true
small-two a c d s =
    let p = and_parts (nat_lt a 1048560) (are_small (c ∷ d ∷ [])) s in
    let q = and_parts (nat_lt c 1048560) (are_small (d ∷ [])) p.1 in
    and_from (nat_lt a 1048560) (are_small (c ∷ [])) p.0 (and_from (nat_lt c 1048560) true q.0 refl)

times-three : (a c d : ℕ) → factors d ≡ d ∷ [] → a ≤ c → c ≤ d → are_small (a ∷ c ∷ d ∷ []) ≡ true → times (product_number (a ∷ c ∷ [])) d ≡ Some (product_number (a ∷ c ∷ d ∷ []))
times-three a c d r h k s =
    ap (λ fs. product_of (merged fs (factors d))) (factors-product (a ∷ c ∷ []) (omega arith) (small-two a c d s))
    ∙ ap (λ gs. product_of (insert_rising c (insert_rising a gs))) r
    ∙ ap (λ t. product_of (insert_rising c (cond t (a ∷ d ∷ []) (d ∷ a ∷ [])))) (at_most_test a d (omega (arith, h, k)))
    ∙ ap product_of (insert-behind a c d h k)
    ∙ small-product (a ∷ c ∷ d ∷ []) (omega arith) s

whole-rising : (b : Bool) (fs : List ℕ) → factors_tell b fs ≡ true → IsSorted fs → are_small fs ≡ true → 2 ≤ length fs → length fs ≤ 3 → is_product (product_number fs) fs ≡ true
whole-rising b [] h o s l m = absurd (omega arith)
whole-rising b (a ∷ []) h o s l m = absurd (omega arith)
whole-rising b (a ∷ c ∷ []) h o s l m =
    let p = and_parts (factor_tells b a) (factors_tell b (c ∷ [])) h in
    let q = and_parts (factor_tells b c) true p.1 in
    let n = product_number (a ∷ c ∷ []) in
    ap (λ r. is_number n (and_then r (λ k. times_all k []))) (times-two a c (plain b a p.0) (plain b c q.0) o.0 s) ∙ same_test n
whole-rising b (a ∷ c ∷ d ∷ []) h o s l m =
    let p = and_parts (factor_tells b a) (factors_tell b (c ∷ d ∷ [])) h in
    let q = and_parts (factor_tells b c) (factors_tell b (d ∷ [])) p.1 in
    let r = and_parts (factor_tells b d) true q.1 in
    let n = product_number (a ∷ c ∷ d ∷ []) in
    ap (λ x. is_number n (and_then x (λ k. times_all k (d ∷ [])))) (times-two a c (plain b a p.0) (plain b c q.0) o.0 (small-two a c d s))
    ∙ ap (λ x. is_number n (and_then x (λ k. times_all k []))) (times-three a c d (plain b d r.0) o.0 o.1.0 s)
    ∙ same_test n
whole-rising b (a ∷ c ∷ d ∷ e ∷ fs) h o s l m = absurd (omega arith)

-- a symbol by its factors, which rise
pub record Fine (b : Bool) (n : ℕ) (fs : List ℕ) : Type 0 where
  pub tells : factors_tell b fs ≡ true
  pub sorted : IsSorted fs
  pub some : 1 ≤ length fs
  pub whole : is_product n fs ≡ true

abbrev pub IsFine : Bool → ℕ → Type 0
IsFine b n = Fine b n (factors n)

pub fine-tells : (b : Bool) (n : ℕ) → IsFine b n → symbol_tells b n ≡ true
fine-tells b n f = and_from (factors_tell b (factors n)) (is_product n (factors n)) f.tells f.whole

pub alone-fine : (b : Bool) (n : ℕ) → factor_tells b n ≡ true → IsFine b n
alone-fine b n h = subst (Fine b n) (sym (plain b n h)) (record { tells = and_from (factor_tells b n) true h refl; sorted = (tt, tt); some = omega arith; whole = same_test n })

pub times-fine : (b : Bool) (m n k : ℕ) → IsFine b m → IsFine b n → times m n ≡ Some k → IsFine b k
times-fine b m n k f g e =
    let fs = merged (factors m) (factors n) in
    let t = tested (nat_le (length fs) 3 && are_small fs) (Some (product_number fs)) k e in
    let p = and_parts (nat_le (length fs) 3) (are_small fs) t.0 in
    let h = merged-tells b (factors m) (factors n) f.tells g.tells in
    let o = merged-sorted (factors m) (factors n) g.sorted in
    let l : 2 ≤ length fs = omega (arith, merged-length (factors m) (factors n), f.some, g.some) in
    let w = whole-rising b fs h o p.1 l (at_most (length fs) 3 p.0) in
    subst (Fine b k) (sym (times-factors m n k e)) (record { tells = h; sorted = o; some = omega (arith, l); whole = subst (λ j. is_product j fs ≡ true) (same (product_number fs) k t.1) w })
