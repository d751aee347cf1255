-- Tables with the forms of lines.
use Rattle.std.specs.Prelude.{List, fold}
use Rattle.std.specs.List.{flat_map}
use Rattle.certificate_text.specs.Lines.{Item}
use Rattle.certificate_text.specs.Items.{line_forms}
use Rattle.certificate_text.specs.FormTables.{FormTable, with_form}

-- the table with the forms of these lines, each once
abbrev pub with_forms : FormTable → List Item → FormTable
with_forms forms items = fold with_form forms (flat_map line_forms items)
