-- Lists of forms, taken apart and grown at the end.
use Rattle.std.proofs.Common.{◌≡◌, ℕ, zero, suc, true, List, [], ◌∷◌, ◌++◌, length, take, refl, ap, ◌∙◌}
use Rattle.linear.specs.Exact.{fits}
use Rattle.linear.specs.Forms.{form, forms}
use Rattle.linear.specs.declared.form.Form.{Form}

pub forms-append : (a b : List Form) → forms (a ++ b) ≡ forms a ++ forms b
forms-append [] b = refl
forms-append (f ∷ a) b = ap (λ fs. form f ∷ fs) (forms-append a b)

pub length-forms : (a : List Form) → length (forms a) ≡ length a
length-forms [] = refl
length-forms (f ∷ a) = ap suc (length-forms a)

pub forms_more : (a b : List Form) (f : Form) → b ≡ a ++ f ∷ [] → forms b ≡ forms a ++ form f ∷ []
forms_more a b f e = ap forms e ∙ forms-append a (f ∷ [])

pub forms-take : (n : ℕ) (fs : List Form) → forms (take n fs) ≡ take n (forms fs)
forms-take zero fs = refl
forms-take (suc n) [] = refl
forms-take (suc n) (f ∷ fs) = ap (λ l. form f ∷ l) (forms-take n fs)

-- what is made is of i64
pub form-fits : (f : Form) → fits (form f) ≡ true
form-fits f = rw (f.constant_in_range, f.in_range) refl
