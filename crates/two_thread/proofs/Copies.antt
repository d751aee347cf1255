-- Forms of the first item, and the second one's copies of them.
use Rattle.std.proofs.Common.{◌≡◌, ℕ, zero, suc, ◌+◌, ◌<◌, ◌≤◌, true, List, ◌++◌, [], ◌∷◌, length, drop, get_or, drop-cons, add-one, append-nil, arith, refl, sym, ap, ◌∙◌}
use Rattle.std.proofs.Math.ListN.{drop_of_length-le}
use Rattle.std.proofs.lemmas.Bool.{and_parts}
use Rattle.linear.specs.Exact.{Terms}
use Rattle.linear.specs.Forms.{form, forms}
use Rattle.linear.specs.Terms.{terms, numbers}
use Rattle.linear.specs.declared.form.Form.{Form}
use Rattle.linear.specs.declared.term.Symbol.{Symbol}
use Rattle.linear.specs.declared.term.Term.{Term}
use Rattle.facts.specs.Symbols.{Fact}
use Rattle.walk_trees.specs.Trees.{Access, Ended}
use Rattle.walk_trees.specs.Values.{Value}
use Rattle.obligations.specs.Listing.{Of}
use Rattle.obligations.specs.Owning.{are_own_values, is_own_end, all_own_accesses, all_own_ends}
use Rattle.walk_trees.specs.Seconds.{second, second_form, second_forms, is_own_symbol, are_own_terms, is_own, are_own, is_own_access}
use Rattle.two_thread.specs.Seconds.{seconds}

-- lengths
pub length-numbers : (ss : List Symbol) → length (numbers ss) ≡ length ss
length-numbers [] = refl
length-numbers (s ∷ ss) = ap suc (length-numbers ss)

pub length-seconds : (ts : Terms) → length (seconds ts) ≡ length ts
length-seconds [] = refl
length-seconds (t ∷ ts) = ap suc (length-seconds ts)

pub length-terms : (ts : List Term) → length (terms ts) ≡ length ts
length-terms [] = refl
length-terms (t ∷ ts) = ap suc (length-terms ts)

-- where it is inside, no default is asked
pub any-default : {A : Type 0} (xs : List A) (i : ℕ) (d e : A) → i < length xs → get_or xs i d ≡ get_or xs i e
any-default [] i d e h = absurd (omega arith)
any-default (x ∷ xs) zero d e h = refl
any-default (x ∷ xs) (suc i) d e h = any-default xs i d e (omega arith)

-- one term more
pub own-front : (ts : List Term) (i : ℕ) (t : Term) → i < length ts → t ≡ get_or ts i t → are_own_terms (terms (drop i ts)) ≡ true → (is_own_symbol t.symbol.number ≡ true) × (are_own_terms (terms (drop (i + 1) ts)) ≡ true)
own-front ts i t h e o =
    let d : drop i ts ≡ t ∷ drop (i + 1) ts = drop-cons ts i t h ∙ (λ j. sym e j ∷ drop (sym (add-one i) j) ts) in
    and_parts (is_own_symbol t.symbol.number) (are_own_terms (terms (drop (i + 1) ts))) (sym (ap (λ l. are_own_terms (terms l)) d) ∙ o)

numbers-append : (ss : List Symbol) (s : Symbol) (rest : List ℕ) → numbers (ss ++ s ∷ []) ++ rest ≡ numbers ss ++ s.number ∷ rest
numbers-append [] s rest = refl
numbers-append (x ∷ ss) s rest = ap (λ l. x.number ∷ l) (numbers-append ss s rest)

pub seconds_step : (ts : List Term) (i : ℕ) (t : Term) (ss new : List Symbol) (s : Symbol) (all : List ℕ) → i < length ts → t ≡ get_or ts i t → s.number ≡ second t.symbol.number → new ≡ ss ++ s ∷ [] → numbers ss ++ seconds (terms (drop i ts)) ≡ all → numbers new ++ seconds (terms (drop (i + 1) ts)) ≡ all
seconds_step ts i t ss new s all h e q n a =
    let d : drop i ts ≡ t ∷ drop (i + 1) ts = drop-cons ts i t h ∙ (λ j. sym e j ∷ drop (sym (add-one i) j) ts) in
    ap (λ l. numbers l ++ seconds (terms (drop (i + 1) ts))) n ∙ numbers-append ss s (seconds (terms (drop (i + 1) ts)))
    ∙ ap (λ k. numbers ss ++ k ∷ seconds (terms (drop (i + 1) ts))) q ∙ sym (ap (λ l. numbers ss ++ seconds (terms l)) d) ∙ a

pub seconds_end : (ts : List Term) (i : ℕ) (ss : List Symbol) (all : List ℕ) → length ts ≤ i → numbers ss ++ seconds (terms (drop i ts)) ≡ all → numbers ss ≡ all
seconds_end ts i ss all h a = sym (ap (λ l. numbers ss ++ seconds (terms l)) (drop_of_length-le ts h) ∙ append-nil (numbers ss)) ∙ a

-- one form more
pub own-form : (fs : List Form) (i : ℕ) (f : Form) → i < length fs → f ≡ get_or fs i f → are_own (forms (drop i fs)) ≡ true → (is_own (form f) ≡ true) × (are_own (forms (drop (i + 1) fs)) ≡ true)
own-form fs i f h e o =
    let d : drop i fs ≡ f ∷ drop (i + 1) fs = drop-cons fs i f h ∙ (λ j. sym e j ∷ drop (sym (add-one i) j) fs) in
    and_parts (is_own (form f)) (are_own (forms (drop (i + 1) fs))) (sym (ap (λ l. are_own (forms l)) d) ∙ o)

forms-append : (fs : List Form) (f : Form) (rest : List Fact) → forms (fs ++ f ∷ []) ++ rest ≡ forms fs ++ form f ∷ rest
forms-append [] f rest = refl
forms-append (x ∷ fs) f rest = ap (λ l. form x ∷ l) (forms-append fs f rest)

pub forms_step : (fs : List Form) (i : ℕ) (f : Form) (out new : List Form) (c : Form) (all : List Fact) → i < length fs → f ≡ get_or fs i f → form c ≡ second_form (form f) → new ≡ out ++ c ∷ [] → forms out ++ second_forms (forms (drop i fs)) ≡ all → forms new ++ second_forms (forms (drop (i + 1) fs)) ≡ all
forms_step fs i f out new c all h e q n a =
    let d : drop i fs ≡ f ∷ drop (i + 1) fs = drop-cons fs i f h ∙ (λ j. sym e j ∷ drop (sym (add-one i) j) fs) in
    ap (λ l. forms l ++ second_forms (forms (drop (i + 1) fs))) n ∙ forms-append out c (second_forms (forms (drop (i + 1) fs)))
    ∙ ap (λ k. forms out ++ k ∷ second_forms (forms (drop (i + 1) fs))) q ∙ sym (ap (λ l. forms out ++ second_forms (forms l)) d) ∙ a

pub forms_end : (fs : List Form) (i : ℕ) (out : List Form) (all : List Fact) → length fs ≤ i → forms out ++ second_forms (forms (drop i fs)) ≡ all → forms out ≡ all
forms_end fs i out all h a = sym (ap (λ l. forms out ++ second_forms (forms l)) (drop_of_length-le fs h) ∙ append-nil (forms out)) ∙ a

-- of own accesses and ends each is own
pub own-access : {E : Type 0} (us : List (Of (Access E))) (i : ℕ) (d : Of (Access E)) → i < length us → all_own_accesses us ≡ true → is_own_access (get_or us i d).it ≡ true
own-access [] i d h o = absurd (omega arith)
own-access (u ∷ us) zero d h o = (and_parts (is_own_access u.it) (all_own_accesses us) o).0
own-access (u ∷ us) (suc i) d h o = own-access us i d (omega arith) (and_parts (is_own_access u.it) (all_own_accesses us) o).1

pub own-end : {E : Type 0} (us : List (Of (Ended E))) (i : ℕ) (d : Of (Ended E)) → i < length us → all_own_ends us ≡ true → is_own_end (get_or us i d).it ≡ true
own-end [] i d h o = absurd (omega arith)
own-end (u ∷ us) zero d h o = (and_parts (is_own_end u.it) (all_own_ends us) o).0
own-end (u ∷ us) (suc i) d h o = own-end us i d (omega arith) (and_parts (is_own_end u.it) (all_own_ends us) o).1

-- of own variables too
pub own-value : (vs : List Value) (i : ℕ) (d : Value) → i < length vs → are_own_values vs ≡ true → is_own (get_or vs i d).form ≡ true
own-value [] i d h o = absurd (omega arith)
own-value (v ∷ vs) zero d h o = (and_parts (is_own v.form) (are_own_values vs) o).0
own-value (v ∷ vs) (suc i) d h o = own-value vs i d (omega arith) (and_parts (is_own v.form) (are_own_values vs) o).1
