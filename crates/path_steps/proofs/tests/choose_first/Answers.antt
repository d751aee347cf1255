use Rattle.std.proofs.Common.{subst}
use Rattle.std.specs.Prelude.{MatchResult}
use Rattle.facts.specs.Refusals.{IsMemory}
use Rattle.path_steps.specs.Leads.{Leads}
use Rattle.path_steps.specs.Paths.{choosing_unless}
use Rattle.path_steps.specs.View.{followed}
use Rattle.path_steps.proofs.tests.choose_first.Goals as goal

pub returns : goal.returns
returns g c = subst (λ r. MatchResult c.choose_unless.result (Leads (followed c.args.path.now) (followed c.choose_unless.new.self) (choosing_unless c.args.out.first r)) IsMemory) c.leaves_out_rest.ensures c.choose_unless.ensures
