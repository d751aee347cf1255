-- Lines of one first word, one after another.
use Rattle.std.proofs.Common.{◌≡◌, ℕ, zero, suc, ◌-◌, List, [], ◌∷◌, ◌++◌, true, false, Ok, refl, sub-one}
use Rattle.std.specs.Prelude.{bytes_eq}
use Rattle.launch_text.specs.LaunchFaults.{Cursor, Step, LimitPassed, refused, then}
use Rattle.launch_text.specs.LaunchWords.{first_word, several}

module _ {A : Type 0} (keyword : List ℕ) (line : Cursor → Step (A × Cursor)) where
  pub several_over : (room : ℕ) (done : List A) (c : Cursor) → bytes_eq (first_word c.rest) keyword ≡ false → several keyword line room done c ≡ Ok (done, c)
  unfolding several
  several_over zero done c h = rw h refl
  several_over (suc room) done c h = rw h refl

  pub several_spent : (room : ℕ) (done : List A) (c : Cursor) → bytes_eq (first_word c.rest) keyword ≡ true → room ≡ 0 → several keyword line room done c ≡ refused LimitPassed c
  unfolding several
  several_spent zero done c h e = rw h refl
  several_spent (suc room) done c h e = absurd cc

  pub several_due : (room : ℕ) (done : List A) (c : Cursor) → bytes_eq (first_word c.rest) keyword ≡ true → (room ≡ 0 → ⊥) → several keyword line room done c ≡ then (line c) (λ t. several keyword line (room - 1) (done ++ t.0 ∷ []) t.1)
  unfolding several
  several_due zero done c h e = absurd (e refl)
  several_due (suc room) done c h e = rw (h, sub-one) refl

  -- one line that is read, in front of the others
  pub several_more : (room : ℕ) (done : List A) (c d : Cursor) (a : A) → bytes_eq (first_word c.rest) keyword ≡ true → line c ≡ Ok (a, d) → several keyword line (suc room) done c ≡ several keyword line room (done ++ a ∷ []) d
  unfolding several
  several_more room done c d a h e = rw (h, e) refl
