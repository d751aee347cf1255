-- A text that is cut has a piece, and is its one piece where no separator stands in it.
use Rattle.std.proofs.Common.{◌≡◌, suc, ◌+◌, ◌≤◌, Bool, true, false, cond, not, List, [], ◌∷◌, length, arith, refl, ap}
use Rattle.std.specs.List.{slice_split, onto_first, position_or_len}
use Rattle.std.proofs.lemmas.Bool.{cond_both}
use Rattle.lines.specs.Lines.{is_empty}

one_there : {A : Type 0} (a : A) (others : List (List A)) → is_empty (onto_first a others) ≡ false
one_there a [] = refl
one_there a (x ∷ xs) = refl

pub some_piece : {A : Type 0} (p : A → Bool) (text : List A) → is_empty (slice_split p text) ≡ false
some_piece p [] = refl
some_piece p (a ∷ text) = cond_both (p a) ([] ∷ slice_split p text) (onto_first a (slice_split p text)) (λ ps. is_empty ps ≡ false) (λ _. refl) (λ _. one_there a (slice_split p text))

pub one_piece : {A : Type 0} (p : A → Bool) (text : List A) → length text ≤ position_or_len p text → slice_split p text ≡ text ∷ []
one_piece p [] h = refl
one_piece p (a ∷ text) h =
    elim (p a) as (λ b. suc (length text) ≤ cond (not b) (1 + position_or_len p text) 0 → cond b ([] ∷ slice_split p text) (onto_first a (slice_split p text)) ≡ (a ∷ text) ∷ []) [
      | true ↦ λ l. absurd (omega arith)
      | false ↦ λ l. ap (onto_first a) (one_piece p text (omega arith))
    ] h

onto_some : {A : Type 0} (a : A) (parts : List (List A)) → is_empty parts ≡ false → length (onto_first a parts) ≡ length parts
onto_some a [] e = absurd cc
onto_some a (x ∷ xs) e = refl

pub few_pieces : {A : Type 0} (p : A → Bool) (text : List A) → length (slice_split p text) ≤ length text + 1
few_pieces p [] = omega arith
few_pieces p (a ∷ text) =
    cond_both (p a) ([] ∷ slice_split p text) (onto_first a (slice_split p text)) (λ ps. length ps ≤ suc (length text) + 1) (λ _. omega (arith, few_pieces p text)) (λ _. omega (arith, few_pieces p text, onto_some a (slice_split p text) (some_piece p text)))
