use Rattle.std.proofs.Common.{false, true, ap, sym, ◌∙◌}
use Rattle.std.specs.String.{string_bytes}
use Rattle.certificate_text.specs.FormTables.{has_form}
use Rattle.certificate_text.proofs.Tables.{known_form}
use Rattle.certificate.specs.Spelt.{forms_in}
use Rattle.certificate.specs.View as view
use Rattle.certificate.proofs.Spellings.{has_told}
use Rattle.certificate.proofs.form_table.FormTable.note.Goals as goal

pub returns-then-contains_key : goal.returns-then-contains_key
returns-then-contains_key c =
    sym (known_form (forms_in c.args.self.now.forms.items) (view.form c.args.form.now) (sym (has_told c.args.self.now.indices c.args.self.now.forms.items (view.form c.args.form.now) c.as_str.result.now (string_bytes c.in_ok-spelling.spelling) true c.args.self.now.indexed c.as_str.ensures.value c.in_ok-spelling.ensures c.if-contains_key.ensures)))

pub push-requires-clause-new : goal.push-requires-clause-new
push-requires-clause-new c =
    ap (has_form (forms_in c.args.self.now.forms.items)) c.in_ok-copy.ensures
    ∙ sym (has_told c.args.self.now.indices c.args.self.now.forms.items (view.form c.args.form.now) c.as_str.result.now (string_bytes c.in_ok-spelling.spelling) false c.args.self.now.indexed c.as_str.ensures.value c.in_ok-spelling.ensures c.if-contains_key.ensures)
