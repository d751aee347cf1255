-- What is said of the lists of terms that an operation makes.
use Rattle.std.proofs.Common.{◌≡◌, ℕ, true, List, [], arith, ap, sym, ◌∙◌}
use Rattle.std.specs.Prelude.{ℤ, pos, negsuc, ◌+ℤ◌, ◌-ℤ◌, ◌*ℤ◌, ◌<ℤ◌, ◌≤ℤ◌, Result, Ok, Err, IfOk}
use Rattle.std.specs.Int.{int_div_euclid}
use Rattle.std.proofs.lemmas.Int.{ints}
use Rattle.linear.specs.Linear as semantics
use Rattle.linear.specs.Linear.{terms_value, value_of}
use Rattle.semantics.proofs.Integers.{mul-add}
use Rattle.linear.specs.declared.term.Term.{Term}
use Rattle.linear.specs.declared.form.Form.{Form}
use Rattle.linear.specs.Forms.{form}
use Rattle.linear.specs.Exact.{merge, multiples, sum, multiple, without, form_without, coefficient_of, with_value, quotients, all_divide, is_rising}
use Rattle.linear.specs.Terms.{terms, are_rising}
use Rattle.linear.proofs.Merging.{rising_true, rising_test, rising-merge, rising-multiples, rising-without, multiples-one, value-merge, value-multiples, value-without}
use Rattle.linear.proofs.Quotients.{rising-quotients, met-quotient}

pub rising_combined : (k : ℤ) (out a b sa sb : List Term) → terms out ≡ merge (terms sa) (multiples k (terms sb)) → sa ≡ a → sb ≡ b → are_rising a ≡ true → are_rising b ≡ true → are_rising out ≡ true
rising_combined k out a b sa sb e p q ra rb =
    ap (is_rising 0) (e ∙ ap (λ ts. merge (terms ts) (multiples k (terms sb))) p ∙ ap (λ ts. merge (terms a) (multiples k (terms ts))) q)
    ∙ rising_test 0 (merge (terms a) (multiples k (terms b))) (rising-merge 0 (terms a) (multiples k (terms b)) (rising_true 0 (terms a) ra) (rising-multiples 0 k (terms b) (rising_true 0 (terms b) rb)))

pub rising_without : (s : ℕ) (out a sa : List Term) → terms out ≡ without s (terms sa) → sa ≡ a → are_rising a ≡ true → are_rising out ≡ true
rising_without s out a sa e p r = ap (is_rising 0) (e ∙ ap (λ ts. without s (terms ts)) p) ∙ rising_test 0 (without s (terms a)) (rising-without s 0 (terms a) (rising_true 0 (terms a) r))

pub rising_quotient : (d : ℤ) (out a sa : List Term) → pos 0 <ℤ d → all_divide d (terms sa) ≡ true → terms out ≡ quotients d (terms sa) → sa ≡ a → are_rising a ≡ true → are_rising out ≡ true
rising_quotient d out a sa hd h e p r =
    let h' : all_divide d (terms a) ≡ true = ap (λ ts. all_divide d (terms ts)) (sym p) ∙ h in
    ap (is_rising 0) (e ∙ ap (λ ts. quotients d (terms ts)) p) ∙ rising_test 0 (quotients d (terms a)) (rising-quotients 0 d (terms a) hd h' (rising_true 0 (terms a) r))

-- one time a form is that form
pub once : (f : semantics.Form ℕ) (g : Form) → sum f (multiple (pos 1) (form g)) ≡ sum f (form g)
once f g =
    let e : f.constant +ℤ pos 1 *ℤ g.constant ≡ f.constant +ℤ g.constant = omega (arith, ints) in
    ap (λ ts. record { terms = merge f.terms ts; constant = f.constant +ℤ pos 1 *ℤ g.constant }) (multiples-one 0 (terms g.terms.terms.items) (rising_true 0 (terms g.terms.terms.items) g.rising)) ∙ ap (λ z. record { terms = merge f.terms (terms g.terms.terms.items); constant = z }) e

-- a form is worth what the form is worth that it equals
pub if_valued : {E : Type 0} (r : Result Form E) (g : semantics.Form ℕ) (worth : (ℕ → ℤ) → ℤ) → ((v : ℕ → ℤ) → value_of v g ≡ worth v) → IfOk r (λ f. form f ≡ g) → IfOk r (λ f. (v : ℕ → ℤ) → value_of v (form f) ≡ worth v)
if_valued (Ok f) g worth h e = λ v. ap (value_of v) e ∙ h v
if_valued (Err x) g worth h e = tt

value_combined : (k : ℤ) (f g : semantics.Form ℕ) (v : ℕ → ℤ) → value_of v (sum f (multiple k g)) ≡ value_of v f +ℤ k *ℤ value_of v g
value_combined k f g v = omega (arith, ints, value-merge v f.terms (multiples k g.terms), value-multiples v k g.terms, mul-add k (terms_value v g.terms) g.constant)

pub value_sum : (f g : semantics.Form ℕ) (v : ℕ → ℤ) → value_of v (sum f g) ≡ value_of v f +ℤ value_of v g
value_sum f g v = omega (arith, ints, value-merge v f.terms g.terms)

pub value_difference : (f g : semantics.Form ℕ) (v : ℕ → ℤ) → value_of v (sum f (multiple (negsuc 0) g)) ≡ value_of v f -ℤ value_of v g
value_difference f g v = omega (arith, ints, value_combined (negsuc 0) f g v)

pub value_alone : (k : ℤ) (n g : semantics.Form ℕ) → n ≡ record { terms = []; constant = pos 0 } → (v : ℕ → ℤ) → value_of v (sum n (multiple k g)) ≡ k *ℤ value_of v g
value_alone k n g e v = omega (arith, ints, value_combined k n g v, ap (value_of v) e)

pub value_substituted : (s : ℕ) (f : Form) (k : ℤ) (n g : semantics.Form ℕ) → n ≡ form_without s (form f) → k ≡ coefficient_of s (terms f.terms.terms.items) → (v : ℕ → ℤ) → value_of v (sum n (multiple k g)) ≡ value_of (with_value v s (value_of v g)) (form f)
value_substituted s f k n g e h v =
    value_combined k n g v ∙ ap (λ m. value_of v m +ℤ k *ℤ value_of v g) e ∙ ap (λ z. value_of v (form_without s (form f)) +ℤ z *ℤ value_of v g) h
    ∙ omega (arith, ints, value-without v s (value_of v g) 0 (terms f.terms.terms.items) (rising_true 0 (terms f.terms.terms.items) f.rising))

pub met_quotient : (v : ℕ → ℤ) (d : ℤ) (out a sa : List Term) (z x : ℤ) → pos 0 <ℤ d → all_divide d (terms sa) ≡ true → terms out ≡ quotients d (terms sa) → sa ≡ a → z ≡ int_div_euclid x d → pos 0 ≤ℤ (terms_value v (terms a) +ℤ x) → pos 0 ≤ℤ (terms_value v (terms out) +ℤ z)
met_quotient v d out a sa z x hd h e p q m =
    let h' : all_divide d (terms a) ≡ true = ap (λ ts. all_divide d (terms ts)) (sym p) ∙ h in
    let g = met-quotient v d (record { terms = terms a; constant = x }) hd h' m in
    omega (arith, ints, g, q, ap (terms_value v) (e ∙ ap (λ ts. quotients d (terms ts)) p))
