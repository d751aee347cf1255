-- A line of a definition is read of its text.
use Rattle.std.proofs.Common.{◌≡◌, ℕ, ◌+◌, ◌≤◌, true, nat_le, List, [], ◌∷◌, ◌++◌, length, take, drop, Ok, refl, ap, sym, ◌∙◌, arith}
use Rattle.std.specs.Prelude.{codes}
use Rattle.std.specs.List.{prefix_len}
use Rattle.std.proofs.Math.Seq.{take-append_seam, drop-append_seam}
use Rattle.std.proofs.lemmas.Bool.{cond-true}
use Rattle.std.proofs.lemmas.Bool.Decides.{nat_tests}
use Rattle.lines.proofs.Fronts.{both}
use Rattle.launch_text.specs.LaunchFaults.{Cursor, Step, cursor, expect}
use Rattle.launch_text.specs.LaunchWords.{Conditions, begins_name, due, due_blank}
use Rattle.launch_text.specs.HeadReading.{is_printable, are_printable, definition_at, define_line}
use Rattle.launch_text.specs.ConditionsText.{define_text, IsDefinition}
use Rattle.launch_text.proofs.LinesForth.{end_forth}
use Rattle.launch_text.proofs.DefineTaken.{define_shape}

define_due : (rest : List ℕ) (n : ℕ) → due_blank Conditions (codes "define") (cursor n (codes "define " ++ rest)) ≡ Ok (cursor n rest)
unfolding due_blank due expect
define_due rest n = refl

printable_prefix : (line rest : List ℕ) → are_printable line ≡ true → prefix_len is_printable rest ≡ 0 → prefix_len is_printable (line ++ rest) ≡ length line
printable_prefix [] rest h s = s
printable_prefix (b ∷ line) rest h s =
    let p = both (is_printable b) (are_printable line) h in
    rw (p.0, printable_prefix line rest p.1 s) (omega arith)

begins_more : (line rest : List ℕ) → begins_name line ≡ true → begins_name (line ++ rest) ≡ true
begins_more [] rest h = absurd cc
begins_more (b ∷ line) rest h = h

below : (n most : ℕ) → n ≤ most → nat_le n most ≡ true
below n most h = grind (arith, nat_tests)

abbrev cut : (bytes : List ℕ) (n m : ℕ) → Step (List ℕ × Cursor)
cut bytes n m = Ok (take m bytes, cursor n (drop m bytes))

definition_forth : (line rest : List ℕ) (n : ℕ) → IsDefinition line → definition_at (cursor n (line ++ (10 ∷ rest))) ≡ Ok (line, cursor n (10 ∷ rest))
unfolding definition_at
definition_forth line rest n is =
    let all : List ℕ = line ++ (10 ∷ rest) in
    let whole : prefix_len is_printable all ≡ length line = printable_prefix line (10 ∷ rest) is.printable refl in
    cond-true (begins_name all) _ _ (begins_more line (10 ∷ rest) is.begins)
    ∙ cond-true (nat_le (prefix_len is_printable all) 255) _ _ (ap (λ m. nat_le m 255) whole ∙ below (length line) 255 is.short)
    ∙ ap (cut all n) whole
    ∙ ap (λ w. let r : Step (List ℕ × Cursor) = Ok (w, cursor n (drop (length line) all)) in r) (take-append_seam line (10 ∷ rest))
    ∙ ap (λ x. let r : Step (List ℕ × Cursor) = Ok (line, cursor n x) in r) (drop-append_seam line (10 ∷ rest))

pub define_forth : (line rest : List ℕ) (n : ℕ) → IsDefinition line → define_line (cursor n (define_text line ++ rest)) ≡ Ok (line, cursor (n + 1) rest)
unfolding define_line
define_forth line rest n is =
    rw (sym (define_shape line rest), define_due (line ++ (10 ∷ rest)) n, definition_forth line rest n is, end_forth rest n) refl
