use Rattle.std.proofs.Common.{sym, ◌∙◌}
use Rattle.certificate.proofs.Spellings.{indexed_push}
use Rattle.certificate.proofs.form_table.FormTable.push.Goals as goal

pub invariant_of-self-else-is_err : goal.invariant_of-self-else-is_err
invariant_of-self-else-is_err c = record {
  indexed = indexed_push c.insert.result c.args.self.now.indices c.insert.new.self c.args.self.now.forms.items c.push.new.self.items c.args.spelling c.args.form c.len-index.result
      (sym c.if-is_err.ensures.value) c.insert.ensures.updates (c.len-index.ensures ∙ c.args.self.now.forms.ok.0) c.in_ok-push.ensures.items c.args.self.now.indexed c.requires.spelt c.requires.new;
}
