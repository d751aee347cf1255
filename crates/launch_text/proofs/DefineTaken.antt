-- What is read of a line of a definition is what its text says.
use Rattle.std.proofs.Common.{◌≡◌, ℕ, zero, suc, ◌+◌, ◌≤◌, Bool, true, false, cond, nat_le, ◌&&◌, List, [], ◌∷◌, ◌++◌, length, take, Ok, refl, ap, sym, ◌∙◌, subst, append_assoc, arith}
use Rattle.std.specs.Prelude.{codes}
use Rattle.std.specs.List.{prefix_len}
use Rattle.std.proofs.lemmas.Bool.Decides.{nat_tests}
use Rattle.std.proofs.lemmas.List.{take-append-drop}
use Rattle.lines.specs.Bytes.{is_letter}
use Rattle.launch_text.specs.LaunchFaults.{Expected, LimitPassed, Cursor, past, end_line}
use Rattle.launch_text.specs.LaunchWords.{Conditions, begins_name, due_blank}
use Rattle.launch_text.specs.HeadReading.{is_printable, are_printable, definition_at, define_line}
use Rattle.launch_text.specs.ConditionsText.{define_text, IsDefinition}
use Rattle.launch_text.proofs.Back.{then_back, same_back, when_back}
use Rattle.launch_text.proofs.Forth.{one_more}
use Rattle.launch_text.proofs.Taken.{end_took, due_blank_took}

letter_printable : (b : ℕ) → is_letter b ≡ true → is_printable b ≡ true
letter_printable b h = grind (arith, nat_tests)

taken_more : (b : ℕ) (bytes : List ℕ) (h : Bool) → is_printable b ≡ h → are_printable (take (prefix_len is_printable bytes) bytes) ≡ true
    → are_printable (take (cond h (1 + prefix_len is_printable bytes) 0) (b ∷ bytes)) ≡ true
taken_more b bytes false h e = refl
taken_more b bytes true h e =
    ap (λ n. are_printable (take n (b ∷ bytes))) (one_more (prefix_len is_printable bytes))
    ∙ ap (λ w. w && are_printable (take (prefix_len is_printable bytes) bytes)) h ∙ e

printable_taken : (bytes : List ℕ) → are_printable (take (prefix_len is_printable bytes) bytes) ≡ true
printable_taken [] = refl
printable_taken (b ∷ bytes) = taken_more b bytes (is_printable b) refl (printable_taken bytes)

begins_taken : (bytes : List ℕ) → begins_name bytes ≡ true → begins_name (take (prefix_len is_printable bytes) bytes) ≡ true
begins_taken [] h = absurd cc
begins_taken (b ∷ bytes) h =
    ap (λ w. begins_name (take (cond w (1 + prefix_len is_printable bytes) 0) (b ∷ bytes))) (letter_printable b h)
    ∙ ap (λ n. begins_name (take n (b ∷ bytes))) (one_more (prefix_len is_printable bytes)) ∙ h

take_short : (n : ℕ) (bytes : List ℕ) → length (take n bytes) ≤ n
take_short zero bytes = omega arith
take_short (suc n) [] = omega arith
take_short (suc n) (b ∷ bytes) = omega (arith, take_short n bytes)

within : (n most : ℕ) → nat_le n most ≡ true → n ≤ most
within n most h = grind (arith, nat_tests)

abbrev TookDefinition : Cursor → List ℕ × Cursor → Type 0
TookDefinition c t = (c.rest ≡ t.0 ++ t.1.rest) × IsDefinition t.0

definition_took : (c : Cursor) (t : List ℕ × Cursor) → definition_at c ≡ Ok t → TookDefinition c t
unfolding definition_at
definition_took c t e =
    let n : ℕ = prefix_len is_printable c.rest in
    let h = when_back (begins_name c.rest) _ Expected c t e in
    let s = when_back (nat_le n 255) _ LimitPassed c t h.1 in
    subst (λ (r : List ℕ × Cursor). TookDefinition c r) (same_back (take n c.rest, past n c) t s.1) (
      sym (take-append-drop n c.rest),
      record {
        begins = begins_taken c.rest h.0;
        printable = printable_taken c.rest;
        short = omega (arith, take_short n c.rest, within n 255 s.0);
      },
    )

abbrev pub TookDefine : Cursor → List ℕ × Cursor → Type 0
TookDefine c t = (c.rest ≡ define_text t.0 ++ t.1.rest) × IsDefinition t.0

pub define_shape : (line rest : List ℕ) → codes "define" ++ (32 ∷ (line ++ (10 ∷ rest))) ≡ (codes "define " ++ (line ++ 10 ∷ [])) ++ rest
define_shape line rest = simp append_assoc

define_whole : (line rest whole a b : List ℕ) → whole ≡ codes "define" ++ (32 ∷ a) → a ≡ line ++ b → b ≡ 10 ∷ rest → whole ≡ (codes "define " ++ (line ++ 10 ∷ [])) ++ rest
define_whole line rest whole a b p q r = p ∙ ap (λ x. codes "define " ++ x) (q ∙ ap (λ x. line ++ x) r) ∙ define_shape line rest

pub define_took : (c : Cursor) (t : List ℕ × Cursor) → define_line c ≡ Ok t → TookDefine c t
unfolding define_line
define_took c t e =
    let a = then_back (due_blank _ _ c) _ t e in
    let n = then_back (definition_at a.0) _ t a.2 in
    let d = then_back (end_line n.0.1) _ t n.2 in
    let own = definition_took a.0 n.0 n.1 in
    subst (λ (u : List ℕ × Cursor). TookDefine c u) (same_back (n.0.0, d.0) t d.2)
    (define_whole n.0.0 d.0.rest c.rest a.0.rest n.0.1.rest (due_blank_took Conditions (codes "define") c a.0 a.1) own.0 (end_took n.0.1 d.0 d.1), own.1)
