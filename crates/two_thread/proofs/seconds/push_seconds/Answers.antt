use Rattle.two_thread.proofs.Copies.{own-form, forms_step}
use Rattle.two_thread.proofs.seconds.push_seconds.Goals as goal

pub second_form-requires : goal.second_form-requires
second_form-requires c = (own-form c.args.of.now c.loop-form.form-index c.form-item.result c.loop-form-test.true c.form-item.is c.loop-form.invariant.own).0

pub loop-form-preserved : goal.loop-form-preserved
loop-form-preserved c = record {
  own = (own-form c.args.of.now c.loop-form.form-index c.form-item.result c.loop-form-test.true c.form-item.is c.loop-form.invariant.own).1;
  same = forms_step c.args.of.now c.loop-form.form-index c.form-item.result c.loop-form.facts.items c.push.new.self.items c.in_ok-copy.copy _ c.loop-form-test.true c.form-item.is c.in_ok-copy.ensures c.in_ok-push.ensures.items c.loop-form.invariant.same;
}
