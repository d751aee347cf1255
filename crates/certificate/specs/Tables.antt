-- The code's tables of forms as those of the definitions.
use Rattle.certificate_text.specs.FormTables as tables
use Rattle.certificate.specs.declared.form_table.FormTable.{FormTable}
use Rattle.certificate.specs.Spelt.{forms_in}

abbrev pub table : FormTable → tables.FormTable
table t = forms_in t.forms.items
