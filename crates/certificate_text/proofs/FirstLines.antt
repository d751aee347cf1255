-- What versions 2 and 4 begin with.
use Rattle.std.proofs.Common.{ℕ, Bool, true, false, List, [], ◌∷◌, ◌++◌}
use Rattle.std.specs.Prelude.{ℤ, pos, codes}
use Rattle.lines.specs.Lines.{text_of_lines}
use Rattle.certificate_text.specs.Certificate.{Certificate}
use Rattle.certificate_text.specs.NumberedText.{forms_of, join_lines, lines_of_two}

abbrev pub number_of_version : (is_wide : Bool) → ℤ
number_of_version false = pos 2
number_of_version true = pos 4

abbrev pub first_line : (is_wide : Bool) → List ℕ
first_line false = codes "certificate 2"
first_line true = codes "certificate 4"

-- the lines before the table
abbrev pub joined_lines : (is_wide joins : Bool) → List (List ℕ)
joined_lines false joins = []
joined_lines true joins = join_lines joins

abbrev pub numbered_text : (is_wide : Bool) → Certificate → List ℕ
numbered_text is_wide c = text_of_lines (first_line is_wide ∷ (joined_lines is_wide c.joins ++ lines_of_two (forms_of c) c))
