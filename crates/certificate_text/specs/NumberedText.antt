-- The text of a certificate in version 2, and of a wide one in version 4: its forms in a table, and in its lines their numbers.
use Rattle.std.specs.Prelude.{ℕ, pos, Bool, true, false, List, [], ◌∷◌, ◌++◌, map, fold, codes}
use Rattle.std.specs.List.{flat_map}
use Rattle.linear.specs.Linear.{Form}
use Rattle.lines.specs.Lines.{text_of_lines}
use Rattle.certificate_text.specs.Certificate.{Name, Certificate}
use Rattle.certificate_text.specs.Text.{form_text}
use Rattle.certificate_text.specs.Forms.{form}
use Rattle.certificate_text.specs.Lines.{Item}
use Rattle.certificate_text.specs.Items.{items_of, item_line, line_forms, put_forms}
use Rattle.certificate_text.specs.FormTables.{FormTable, with_form, number_of}

-- the forms of lines, each once, in the order of first use
abbrev pub forms_in : List Item → FormTable
forms_in items = fold with_form [] (flat_map line_forms items)

abbrev pub forms_of : Certificate → FormTable
forms_of c = forms_in (items_of c)

-- the form that is written as this number: it has no terms
abbrev pub number_form : ℕ → Form Name
number_form n = form [] (pos n)

-- the number of a form, as that form
abbrev pub number_for : FormTable → Form Name → Form Name
number_for forms f = number_form (number_of forms f)

-- a line with the numbers of its forms in place of the forms
abbrev pub numbered : FormTable → Item → Item
numbered forms item = put_forms (map (number_for forms) (line_forms item)) item

abbrev pub numbered_line : FormTable → Item → List ℕ
numbered_line forms item = item_line (numbered forms item)

abbrev pub table_line : Form Name → List ℕ
table_line f = codes "form " ++ form_text f

-- the lines of the table, then the others
abbrev pub lines_of_two : FormTable → Certificate → List (List ℕ)
lines_of_two forms c = map table_line forms ++ (map (numbered_line forms) (items_of c) ++ codes "end" ∷ [])

abbrev pub text_of_two : Certificate → List ℕ
text_of_two c = text_of_lines (codes "certificate 2" ∷ lines_of_two (forms_of c) c)

-- the line of a certificate that joins
abbrev pub join_lines : (joins : Bool) → List (List ℕ)
join_lines false = []
join_lines true = codes "join" ∷ []

abbrev pub text_of_four : Certificate → List ℕ
text_of_four c = text_of_lines (codes "certificate 4" ∷ (join_lines c.joins ++ lines_of_two (forms_of c) c))
