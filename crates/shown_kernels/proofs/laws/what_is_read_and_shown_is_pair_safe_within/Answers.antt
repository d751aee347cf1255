use Rattle.std.proofs.Common.{refl}
use Rattle.semantics.specs.Setup.{Setup, at_launch}
use Rattle.loop_bounds.specs.Costs.{cost}
use Rattle.obligations.specs.Limits.{turns_at}
use Rattle.shown_kernels.proofs.Sizes.{sizes}
use Rattle.shown_kernels.proofs.Wider.{wider}
use Rattle.shown_kernels.proofs.laws.what_is_read_and_shown_is_pair_safe_within.Goals as goal

pub returns : goal.returns
returns g c = λ text k conditions n l budget is met tell are shown cheap fits meets.
    let s : Setup = at_launch k.core l in
    let z = sizes k.core l (c.what_is_read_is_proper.ensures text k is) in
    let sound = c.what_is_read_is_sound_where_barriers_are_met.ensures text k s is refl met in
    wider conditions.contents s (cost (turns_at n) k.core.body) budget cheap (c.what_is_shown_by_places_is_safe_within_its_cost.ensures k.core conditions n l z.0 tell are shown fits meets sound)
