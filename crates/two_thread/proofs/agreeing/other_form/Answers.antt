use Rattle.std.proofs.Common.{ap, ◌∙◌}
use Rattle.walk_trees.specs.Seconds.{is_own}
use Rattle.two_thread.proofs.NthEnd.{variable-own}
use Rattle.two_thread.proofs.agreeing.other_form.Goals as goal

pub second_form-requires : goal.second_form-requires
second_form-requires g c = ap is_own c.in_ok-form.ensures ∙ variable-own c.args.met.now c.args.j c.args.slot c.requires
