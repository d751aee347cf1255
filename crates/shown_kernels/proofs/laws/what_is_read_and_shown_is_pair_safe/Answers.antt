use Rattle.std.specs.Prelude.{[]}
use Rattle.std.proofs.Common.{subst}
use Rattle.semantics.specs.Conditions.{Content}
use Rattle.semantics.specs.Setup.{Setup, at_launch}
use Rattle.semantics.specs.Safety.{IsPairSafeWithin}
use Rattle.shown_kernels.proofs.laws.what_is_read_and_shown_is_pair_safe.Goals as goal

pub returns : goal.returns
returns g c = λ text k conditions n l budget free is met tell are shown cheap fits meets.
    let s : Setup = at_launch k.core l in
    let within = c.what_is_read_and_shown_is_pair_safe_within.ensures text k conditions n l budget is met tell are shown cheap fits meets in
    (c.without_lines_all_runs_are_honest.ensures.pair_safe s budget).0 (subst (λ cs. IsPairSafeWithin cs s budget) free within)
