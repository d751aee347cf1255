use Rattle.std.proofs.Common.{◌+◌, ap, ◌∙◌, arith}
use Rattle.certificate.specs.View as view
use Rattle.certificate.proofs.Spellings.{number_found, number_past}
use Rattle.certificate.proofs.form_table.FormTable.number_of.Goals as goal

pub returns-in_default : goal.returns-in_default
returns-in_default c =
    ap (λ n. n + 1) (c.len-count.ensures ∙ c.args.self.now.forms.ok.0)
    ∙ number_past c.args.self.now.indices c.args.self.now.forms.items (view.form c.args.form.now) c.as_str.result.now c.args.self.now.indexed (c.as_str.ensures.value ∙ c.in_ok-spelling.ensures) c.in_default.ensures.value

pub overflow_add-result-2 : goal.overflow_add-result-2
overflow_add-result-2 c =
    let found = number_found c.args.self.now.indices c.args.self.now.forms.items (view.form c.args.form.now) c.as_str.result.now c.in-Some.index.now c.args.self.now.indexed (c.as_str.ensures.value ∙ c.in_ok-spelling.ensures) c.in-Some.ensures.value in
    omega (arith, found.1, c.len-count.ensures)

pub returns : goal.returns
returns c =
    (number_found c.args.self.now.indices c.args.self.now.forms.items (view.form c.args.form.now) c.as_str.result.now c.in-Some.index.now c.args.self.now.indexed (c.as_str.ensures.value ∙ c.in_ok-spelling.ensures) c.in-Some.ensures.value).0
