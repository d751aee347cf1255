-- One component, or one kind, more.
use Rattle.std.proofs.Common.{◌≡◌, ℕ, ◌+◌, ◌-◌, ◌<◌, suc, List, [], ◌∷◌, ◌++◌, map, refl, ap, sym, ◌∙◌, append_assoc, arith}
use Rattle.std.proofs.lemmas.List.{map-append}
use Rattle.host_launches.specs.Numbers.{component, components}
use Rattle.host_launches.specs.Kinds.{component_kinds}
use Rattle.host_launches.specs.Shapes.{kind_of}
use Rattle.host_launches.specs.declared.shapes.Scalar.{Scalar}

pub components_step : (s : Scalar) (ws : List ℕ) (n e : ℕ) → n < e → components s ws n (e - n) ≡ component s ws n ∷ components s ws (n + 1) (e - (n + 1))
components_step s ws n e h =
    let q : e - n ≡ suc (e - (n + 1)) = omega arith in
    rw q refl

pub kinds_step : (s : Scalar) (n e : ℕ) → n < e → component_kinds s (e - n) ≡ kind_of s ∷ component_kinds s (e - (n + 1))
kinds_step s n e h =
    let q : e - n ≡ suc (e - (n + 1)) = omega arith in
    rw q refl

-- what is pushed is the next of what is left
pub pushed : {A B : Type 0} (f : A → B) (xs ys : List A) (x : A) (w : B) (row rest total : List B)
    → ys ≡ xs ++ x ∷ [] → f x ≡ w → row ≡ w ∷ rest → map f xs ++ row ≡ total → map f ys ++ rest ≡ total
pushed f xs ys x w row rest total e v r t =
    ap (λ zs. map f zs ++ rest) e ∙ ap (λ zs. zs ++ rest) (map-append f xs (x ∷ [])) ∙ append_assoc (map f xs) (f x ∷ []) rest
    ∙ ap (λ z. map f xs ++ (z ∷ rest)) v ∙ ap (λ zs. map f xs ++ zs) (sym r) ∙ t
