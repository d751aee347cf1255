-- Two lists of terms.
use Rattle.std.proofs.Common.{◌≡◌, ◌&&◌, Bool, true, false, suc, List, [], ◌∷◌, length, refl, ap, sym, ◌∙◌}
use Rattle.linear.specs.Terms.{term, terms}
use Rattle.linear.specs.declared.term.Term.{Term}
use Rattle.walk_trees.specs.Shares.{is_same_term, are_same_terms}

and_false : (b : Bool) → (b && false) ≡ false
and_false true = refl
and_false false = refl

pub unlike : (ts us : List Term) → (length ts ≡ length us → ⊥) → false ≡ are_same_terms (terms ts) (terms us)
unlike [] [] h = absurd (h refl)
unlike [] (u ∷ us) h = refl
unlike (t ∷ ts) [] h = refl
unlike (t ∷ ts) (u ∷ us) h = sym (ap (λ b. is_same_term (term t) (term u) && b) (sym (unlike ts us (λ e. h (ap suc e)))) ∙ and_false (is_same_term (term t) (term u)))
