-- Two lists of terms.
use Rattle.std.proofs.Common.{◌≡◌, suc, List, [], ◌∷◌, false, length, refl, ap, sym}
use Rattle.linear.specs.Terms.{terms}
use Rattle.linear.specs.declared.term.Term.{Term}
use Rattle.entry_check.specs.Entries.{same_terms}
use Rattle.entry_check.proofs.Unshown.{and_false}

pub unlike : (ts us : List Term) → (length ts ≡ length us → ⊥) → false ≡ same_terms (terms ts) (terms us)
unlike [] [] h = absurd (h refl)
unlike [] (u ∷ us) h = refl
unlike (t ∷ ts) [] h = refl
unlike (t ∷ ts) (u ∷ us) h = sym (and_false _ _ (and_false _ _ (sym (unlike ts us (λ e. h (ap suc e))))))
