-- Terms of copies, in order.
use Rattle.std.proofs.Common.{◌≡◌, ℕ, zero, suc, ◌+◌, ◌<◌, ◌&&◌, Bool, true, false, cond, not, nat_lt, nat_le, List, [], ◌∷◌, length, drop, get_or, arith, refl, sym, ap, ◌∙◌}
use Rattle.std.specs.Prelude.{ℤ, pos, negsuc, ◌+ℤ◌, ◌*ℤ◌, nat_eq, Result, Err, IsErr, IsErrAnd, IsErrOf, MatchResult}
use Rattle.std.specs.Ordering.{int_eq}
use Rattle.std.proofs.lemmas.Bool.{and_parts, and_from, le-leb}
use Rattle.std.proofs.lemmas.Bool.Decides.{nat_tests}
use Rattle.std.proofs.lemmas.Int.{ints}
use Rattle.linear.specs.Linear.{Weighted}
use Rattle.linear.specs.Exact.{Terms, is_rising, over, put, merge, multiple, sum, fits, fits_i64, fits_terms}
use Rattle.linear.specs.Products.{single}
use Rattle.linear.specs.Terms.{terms, numbers}
use Rattle.linear.specs.declared.term.Symbol.{Symbol}
use Rattle.linear.specs.declared.term.Term.{Term}
use Rattle.linear.specs.declared.form.Form.{Form}
use Rattle.linear.specs.declared.form.LinearError.{LinearError}
use Rattle.linear.specs.declared.form.LinearError.TheVariants as errors
use Rattle.linear.proofs.Lists.{terms-drop}
use Rattle.facts.specs.Symbols.{Fact}
use Rattle.facts.specs.Refusals.{IsMemory}
use Rattle.facts.specs.View.{error_of_form}
use Rattle.facts.specs.declared.error.WalkError.{WalkError}
use Rattle.facts.proofs.Unmade.{handed}
use Rattle.walk_trees.specs.Seconds.{second, second_terms, is_own_symbol, are_own_terms}
use Rattle.two_thread.specs.Seconds.{seconds, rise_from, rise, one_term, with_one, is_apart}
use Rattle.two_thread.proofs.Shifting.{copies_differ}

-- where they rise they are in order

put-front : (c : ℤ) (s : ℕ) (t : Weighted ℕ) (ts : Terms) → nat_lt s t.symbol ≡ true → record { coefficient = c; symbol = s } ∷ t ∷ ts ≡ merge (record { coefficient = c; symbol = s } ∷ []) (t ∷ ts)
put-front c s t ts h = rw h refl

in-order : (ts : Terms) → rise (seconds ts) ≡ true → over (seconds ts) ts ≡ second_terms ts
in-order [] h = refl
in-order (t ∷ []) h = refl
in-order (t ∷ u ∷ us) h =
    let p = and_parts (nat_lt (second t.symbol) (second u.symbol)) (rise_from (second u.symbol) (seconds us)) h in
    put-front t.coefficient (second t.symbol) (record { coefficient = u.coefficient; symbol = second u.symbol }) (over (seconds us) us) p.0
    ∙ ap (merge (record { coefficient = t.coefficient; symbol = second t.symbol } ∷ [])) (in-order (u ∷ us) p.1)

pub over_is : (ns : List ℕ) (ts : Terms) → ns ≡ seconds ts → rise ns ≡ true → over ns ts ≡ second_terms ts
over_is ns ts e h = ap (λ l. over l ts) e ∙ in-order ts (sym (ap rise e) ∙ h)

above : (m n : ℕ) → nat_lt m n ≡ true → nat_le (suc m) n ≡ true
above m n h = grind (arith, nat_tests)

rising-over : (least last : ℕ) (ts : Terms) → is_rising least ts ≡ true → rise_from last (seconds ts) ≡ true → is_rising (suc last) (over (seconds ts) ts) ≡ true
rising-over least last [] r h = refl
rising-over least last (t ∷ ts) r h =
    let p = and_parts (nat_le least t.symbol) (not (int_eq t.coefficient (pos 0)) && is_rising (suc t.symbol) ts) r in
    let q = and_parts (not (int_eq t.coefficient (pos 0))) (is_rising (suc t.symbol) ts) p.1 in
    let w = and_parts (nat_lt last (second t.symbol)) (rise_from (second t.symbol) (seconds ts)) h in
    and_from (nat_le (suc last) (second t.symbol)) (not (int_eq t.coefficient (pos 0)) && is_rising (suc (second t.symbol)) (over (seconds ts) ts)) (above last (second t.symbol) w.0)
    (and_from (not (int_eq t.coefficient (pos 0))) (is_rising (suc (second t.symbol)) (over (seconds ts) ts)) q.0 (rising-over (suc t.symbol) (second t.symbol) ts q.1 w.1))

rising-all : (ts : Terms) → is_rising 0 ts ≡ true → rise (seconds ts) ≡ true → is_rising 0 (over (seconds ts) ts) ≡ true
rising-all [] r h = refl
rising-all (t ∷ ts) r h =
    let p = and_parts (nat_le 0 t.symbol) (not (int_eq t.coefficient (pos 0)) && is_rising (suc t.symbol) ts) r in
    let q = and_parts (not (int_eq t.coefficient (pos 0))) (is_rising (suc t.symbol) ts) p.1 in
    and_from (nat_le 0 (second t.symbol)) (not (int_eq t.coefficient (pos 0)) && is_rising (suc (second t.symbol)) (over (seconds ts) ts)) (le-leb 0 (second t.symbol) (omega arith))
    (and_from (not (int_eq t.coefficient (pos 0))) (is_rising (suc (second t.symbol)) (over (seconds ts) ts)) q.0 (rising-over (suc t.symbol) (second t.symbol) ts q.1 h))

pub rising-seconds : (ns : List ℕ) (ts : Terms) → ns ≡ seconds ts → rise ns ≡ true → is_rising 0 ts ≡ true → is_rising 0 (over ns ts) ≡ true
rising-seconds ns ts e h r = ap (λ l. is_rising 0 (over l ts)) e ∙ rising-all ts r (sym (ap rise e) ∙ h)

-- a term that is put in

apart-put : (s : ℕ) (c : ℤ) (n : ℕ) (ts : Terms) → nat_eq s n ≡ false → is_apart s ts ≡ true → is_apart s (put c n ts) ≡ true
apart-put s (pos zero) n ts e h = h
apart-put s (pos (suc k)) n ts e h = rw e h
apart-put s (negsuc k) n ts e h = rw e h

apart-cond : (s : ℕ) (a b : Bool) (x y z : Terms) → is_apart s x ≡ true → is_apart s y ≡ true → is_apart s z ≡ true → is_apart s (cond a x (cond b y z)) ≡ true
apart-cond s true b x y z p q r = p
apart-cond s false true x y z p q r = q
apart-cond s false false x y z p q r = r

apart-merge : (s : ℕ) (c : ℤ) (n : ℕ) (ts : Terms) → nat_eq s n ≡ false → is_apart s ts ≡ true → is_apart s (merge (record { coefficient = c; symbol = n } ∷ []) ts) ≡ true
apart-merge s c n [] e h = rw e refl
apart-merge s c n (t ∷ ts) e h =
    let p = and_parts (not (nat_eq s t.symbol)) (is_apart s ts) h in
    apart-cond s (nat_lt n t.symbol) (nat_lt t.symbol n) (record { coefficient = c; symbol = n } ∷ t ∷ ts) (t ∷ merge (record { coefficient = c; symbol = n } ∷ []) ts) (put (c +ℤ t.coefficient) n ts)
    (rw e h) (and_from (not (nat_eq s t.symbol)) (is_apart s (merge (record { coefficient = c; symbol = n } ∷ []) ts)) p.0 (apart-merge s c n ts e p.1)) (apart-put s (c +ℤ t.coefficient) n ts e p.1)

-- the copies of later terms have other symbols
apart-later : (s least : ℕ) (ts : Terms) → s < least → is_own_symbol s ≡ true → is_rising least ts ≡ true → are_own_terms ts ≡ true → is_apart (second s) (second_terms ts) ≡ true
apart-later s least [] l i r o = refl
apart-later s least (t ∷ ts) l i r o =
    let p = and_parts (nat_le least t.symbol) (not (int_eq t.coefficient (pos 0)) && is_rising (suc t.symbol) ts) r in
    let q = and_parts (not (int_eq t.coefficient (pos 0))) (is_rising (suc t.symbol) ts) p.1 in
    let w = and_parts (is_own_symbol t.symbol) (are_own_terms ts) o in
    let k : s < t.symbol = (let x = p.0 in grind (arith, nat_tests)) in
    apart-merge (second s) t.coefficient (second t.symbol) (second_terms ts) (copies_differ s t.symbol i w.0 k) (apart-later s (suc t.symbol) ts (omega (arith, k)) i q.1 w.1)

both_parts : (a b c : Bool) → (a && (b && c)) ≡ true → (b ≡ true) × (c ≡ true)
both_parts a b c h = (let p = and_parts a (b && c) h in and_parts b c p.1)

not_true : (b : Bool) → not b ≡ true → b ≡ false
not_true true h = sym h
not_true false h = refl

-- at a place: the coefficient is not 0, and no later copy has the symbol
at-place : (ts : List Term) (least i : ℕ) (d : Term) → i < length ts → is_rising least (terms ts) ≡ true → are_own_terms (terms ts) ≡ true → (int_eq (get_or ts i d).coefficient (pos 0) ≡ false) × (is_apart (second (get_or ts i d).symbol.number) (second_terms (terms (drop (suc i) ts))) ≡ true)
at-place [] least i d h r o = absurd (omega arith)
at-place (t ∷ ts) least zero d h r o =
    let p = both_parts (nat_le least t.symbol.number) (not (int_eq t.coefficient (pos 0))) (is_rising (suc t.symbol.number) (terms ts)) r in
    let w = and_parts (is_own_symbol t.symbol.number) (are_own_terms (terms ts)) o in
    (not_true (int_eq t.coefficient (pos 0)) p.0, apart-later t.symbol.number (suc t.symbol.number) (terms ts) (omega arith) w.0 p.1 w.1)
at-place (t ∷ ts) least (suc i) d h r o =
    let p = both_parts (nat_le least t.symbol.number) (not (int_eq t.coefficient (pos 0))) (is_rising (suc t.symbol.number) (terms ts)) r in
    let w = and_parts (is_own_symbol t.symbol.number) (are_own_terms (terms ts)) o in
    at-place ts (suc t.symbol.number) i d (omega arith) p.1 w.1

pub some_at : (ts : List Term) (i : ℕ) (d : Term) → i < length ts → is_rising 0 (terms ts) ≡ true → are_own_terms (terms ts) ≡ true → int_eq (get_or ts i d).coefficient (pos 0) ≡ false
some_at ts i d h r o = (at-place ts 0 i d h r o).0

pub apart_at : (ts : List Term) (left i : ℕ) (d : Term) (s : ℕ) (us : Terms) → left ≡ suc i → i < length ts → is_rising 0 (terms ts) ≡ true → are_own_terms (terms ts) ≡ true → s ≡ second (get_or ts i d).symbol.number → us ≡ second_terms (terms (drop left ts)) → is_apart s us ≡ true
apart_at ts left i d s us l h r o e q = (λ j. is_apart (e j) (q j)) ∙ ap (λ n. is_apart (second (get_or ts i d).symbol.number) (second_terms (terms (drop n ts)))) l ∙ (at-place ts 0 i d h r o).1

-- the symbol at a place
pub symbol_at : (ss : List Symbol) (ts : List Term) (i : ℕ) (d : Symbol) (e : Term) → i < length ts → numbers ss ≡ seconds (terms ts) → (get_or ss i d).number ≡ second (get_or ts i e).symbol.number
symbol_at ss [] i d e h q = absurd (omega arith)
symbol_at [] (t ∷ ts) i d e h q = absurd cc
symbol_at (s ∷ ss) (t ∷ ts) zero d e h q = cc
symbol_at (s ∷ ss) (t ∷ ts) (suc i) d e h q = symbol_at ss ts i d e (omega arith) (let x : numbers ss ≡ seconds (terms ts) = cc in x)

-- with one term more
pub more_in_order : (ts : List Term) (left i : ℕ) (d : Term) (s : ℕ) (c : ℤ) (f : Fact) (z : ℤ) → left ≡ i + 1 → i < length ts → s ≡ second (get_or ts i d).symbol.number → c ≡ (get_or ts i d).coefficient → f ≡ record { terms = second_terms (terms (drop left ts)); constant = z } → with_one s c f ≡ record { terms = second_terms (terms (drop i ts)); constant = z }
more_in_order ts left i d s c f z l h p q e =
    (λ j. with_one (p j) (q j) (e j)) ∙ ap (λ n. with_one (second (get_or ts i d).symbol.number) (get_or ts i d).coefficient (record { terms = second_terms (terms (drop n ts)); constant = z })) l
    ∙ ap (λ us. record { terms = second_terms us; constant = z }) (sym (terms-drop ts i d h))

-- what is put in fits

apart_not : (m k : ℕ) → nat_lt m k ≡ false → nat_lt k m ≡ false → nat_eq m k ≡ false → ⊥
apart_not m k u w x = grind (arith, nat_tests)

fits-cond : (a b : Bool) (x y z : Terms) → fits_terms x ≡ true → fits_terms y ≡ true → (a ≡ false → b ≡ false → ⊥) → fits_terms (cond a x (cond b y z)) ≡ true
fits-cond true b x y z p q r = p
fits-cond false true x y z p q r = q
fits-cond false false x y z p q r = absurd (r refl refl)

fits-merge : (c : ℤ) (n : ℕ) (ts : Terms) → is_apart n ts ≡ true → fits_i64 c ≡ true → fits_terms ts ≡ true → fits_terms (merge (record { coefficient = c; symbol = n } ∷ []) ts) ≡ true
fits-merge c n [] a f h = rw f refl
fits-merge c n (t ∷ ts) a f h =
    let p = and_parts (not (nat_eq n t.symbol)) (is_apart n ts) a in
    let q = and_parts (fits_i64 t.coefficient) (fits_terms ts) h in
    fits-cond (nat_lt n t.symbol) (nat_lt t.symbol n) (record { coefficient = c; symbol = n } ∷ t ∷ ts) (t ∷ merge (record { coefficient = c; symbol = n } ∷ []) ts) (put (c +ℤ t.coefficient) n ts)
    (and_from (fits_i64 c) (fits_terms (t ∷ ts)) f h)
    (and_from (fits_i64 t.coefficient) (fits_terms (merge (record { coefficient = c; symbol = n } ∷ []) ts)) q.0 (fits-merge c n ts p.1 f q.1))
    (λ u w. apart_not n t.symbol u w (not_true (nat_eq n t.symbol) p.0))

nothing_and : (z : ℤ) → pos 0 +ℤ z ≡ z
nothing_and z = omega (arith, ints)

pub fits_with : (c : ℤ) (n : ℕ) (f : Fact) → is_apart n f.terms ≡ true → fits_i64 c ≡ true → fits f ≡ true → fits (sum (one_term n c) f) ≡ true
fits_with c n f a h k =
    let p = and_parts (fits_i64 f.constant) (fits_terms f.terms) k in
    and_from (fits_i64 (pos 0 +ℤ f.constant)) (fits_terms (merge (record { coefficient = c; symbol = n } ∷ []) f.terms)) (ap fits_i64 (nothing_and f.constant) ∙ p.0) (fits-merge c n f.terms a h p.1)

pub sum_with : (c : ℤ) (n : ℕ) (f : Fact) → sum (one_term n c) f ≡ with_one n c f
sum_with c n f = ap (λ z. record { terms = merge (record { coefficient = c; symbol = n } ∷ []) f.terms; constant = z }) (nothing_and f.constant)

-- a multiple of a symbol

put-some : (c : ℤ) (s : ℕ) (ts : Terms) → int_eq c (pos 0) ≡ false → put c s ts ≡ record { coefficient = c; symbol = s } ∷ ts
put-some (pos zero) s ts h = absurd cc
put-some (pos (suc n)) s ts h = refl
put-some (negsuc n) s ts h = refl

pub times_once : (c : ℤ) (s : ℕ) → int_eq c (pos 0) ≡ false → multiple c (single s) ≡ one_term s c
times_once c s h =
    let e : c *ℤ pos 1 ≡ c = omega (arith, ints) in
    let z : c *ℤ pos 0 ≡ pos 0 = omega (arith, ints) in
    (λ j. record { terms = put (e j) s []; constant = z j }) ∙ ap (λ ts. record { terms = ts; constant = pos 0 }) (put-some c s [] h)

pub one_fits : (c : ℤ) (s : ℕ) → fits_i64 c ≡ true → fits (one_term s c) ≡ true
one_fits c s h = rw h refl

-- what fits is no number too large, so an error is want of memory
pub is_memory : (r : Result Form WalkError) (e : LinearError) (P : Form → Type 0) (fit : Bool) → IsErr r × IsErrAnd r (λ x. x ≡ error_of_form e) → (IsErrOf {T = Form} {E = LinearError} (Err e) errors.TooLarge → fit ≡ false) → fit ≡ true → MatchResult r P IsMemory
is_memory r errors.TooLarge P fit h k t = absurd (let f = k refl in cc)
is_memory r errors.Memory P fit h k t = handed r (error_of_form errors.Memory) P IsMemory h refl
