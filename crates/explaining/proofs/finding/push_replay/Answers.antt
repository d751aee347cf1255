use Rattle.std.proofs.Common.{sym, ap, ◌∙◌}
use Rattle.std.specs.Option.{option_map}
use Rattle.core_code.specs.View.{kernel as core_seen}
use Rattle.launch.specs.View.{launch as launch_seen}
use Rattle.explaining.proofs.finding.push_replay.Goals as goal

pub push_scene-requires-clause-fits : goal.push_scene-requires-clause-fits
push_scene-requires-clause-fits c =
    c.a_least_launch_fits.ensures (core_seen c.args.typed.now.1) c.args.conditions.now (launch_seen c.in-Some.launch) c.requires.of
    (sym c.in_ok-found.ensures.least ∙ ap (option_map launch_seen) c.in-Some.is)
