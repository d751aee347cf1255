use Rattle.std.proofs.Common.{ap, ◌∙◌}
use Rattle.std.proofs.lemmas.Bool.{and_parts}
use Rattle.walk_trees.specs.Seconds.{is_own, are_own}
use Rattle.two_thread.specs.View.{met_access}
use Rattle.two_thread.proofs.Nth.{met-own}
use Rattle.two_thread.proofs.seconds.second_index_of.Goals as goal

pub second_form-requires : goal.second_form-requires
second_form-requires g c =
    let m = c.args.met.now in
    ap is_own c.index_of.ensures ∙ (and_parts (is_own (met_access m c.args.i).it.index) (are_own (met_access m c.args.i).it.facts) (met-own m c.args.i c.requires)).0
