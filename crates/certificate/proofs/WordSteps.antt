-- The reader of forms, a turn at a time.
use Rattle.std.proofs.Common.{◌≡◌, ℕ, List, ◌∷◌, [], ◌++◌, true, Some, ◌&&◌, refl}
use Rattle.std.specs.Prelude.{codes, bytes_eq}
use Rattle.linear.specs.Linear.{Weighted}
use Rattle.lines.specs.Lines.{follows}
use Rattle.certificate_text.specs.Certificate.{Name}
use Rattle.certificate_text.specs.Forms.{term_of, term_is_before, form_of}

pub one_term : (terms : List (Weighted Name)) (ws : List (List ℕ)) (word sign : List ℕ) (others : List (List ℕ)) (t : Weighted Name) → ws ≡ word ∷ sign ∷ others → term_of word ≡ Some t → (bytes_eq sign (codes "+") && follows term_is_before terms t) ≡ true → form_of terms ws ≡ form_of (terms ++ t ∷ []) others
unfolding form_of
one_term terms ws word sign others t e q r = rw (e, q, r) refl
