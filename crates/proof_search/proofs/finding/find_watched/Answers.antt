use Rattle.kernel_reading.specs.Sources.{source}
use Rattle.std.proofs.Common.{◌≡◌, subst}
use Rattle.std.specs.Prelude.{None}
use Rattle.arrivals.specs.Loops.{unmet}
use Rattle.places.specs.Answers.{IsRefused}
use Rattle.kernel_names.specs.View.{names_seen}
use Rattle.core_code.specs.View.{kernel}
use Rattle.launch_text.specs.View.{lined}
use Rattle.kernel_reading.specs.Answers.{kernel_seen}
use Rattle.cert_check.proofs.Sizes.{sizes_fit}
use Rattle.proof_search.proofs.Told.{all_told, counted, uncounted}
use Rattle.proof_search.proofs.finding.find_watched.Goals as goal

pub searched-requires-clause-sizes : goal.searched-requires-clause-sizes
searched-requires-clause-sizes g c κs within = sizes_fit (kernel c.in-Ok.typed.1) (c.local_sizes_are_within_limits.ensures (source c.args.kernel) (kernel_seen c.in-Ok.typed) c.in-Ok.ensures)

pub searched-requires-clause-proper : goal.searched-requires-clause-proper
searched-requires-clause-proper g c κs within = c.what_is_read_is_proper.ensures (source c.args.kernel) (kernel_seen c.in-Ok.typed) c.in-Ok.ensures

pub unplaced-requires : goal.unplaced-requires
unplaced-requires g c = subst (λ x. IsRefused (kernel x).body c.in-Err-places.error) c.core.ensures.value c.in-Err-places.ensures

pub returns-in-Err-places-clause-told : goal.returns-in-Err-places-clause-told
returns-in-Err-places-clause-told g c = c.unplaced.ensures c.args.effort.is_wide (lined c.in-Ok-read_conditions_as.conditions) c.args.effort.workers (source c.args.kernel) c.args.conditions.now (c.in-Ok.ensures, c.in-Ok-read_conditions_as.ensures.value)

pub returns-in-Err-counted-clause-told : goal.returns-in-Err-counted-clause-told
returns-in-Err-counted-clause-told g c =
    let t = c.in-Ok.typed in
    let n = lined c.in-Ok-read_conditions_as.conditions in
    let met = subst (λ x. unmet (kernel x).body ≡ None) c.core.ensures.value c.in-Ok-places.ensures.1 in
    uncounted c.args.effort.is_wide c.in-Err-counted.error c.args.effort.workers (source c.args.kernel) c.args.conditions.now c.in-Err-counted.ensures.0 c.in-Err-counted.ensures.1 (t, n, (c.in-Ok.ensures, c.in-Ok-read_conditions_as.ensures.value), met)

pub returns-clause-workers : goal.returns-clause-workers
returns-clause-workers g c = counted c.searched.result c.args.effort.workers c.in-Ok-counted.ensures

pub returns-clause-told : goal.returns-clause-told
returns-clause-told g c =
    let t = c.in-Ok.typed in
    let n = c.in-Ok-read_conditions_as.conditions in
    let k = (source c.args.kernel) in
    let o = c.args.conditions.now in
    let text = c.bytes_are_the_text_of_what_is_read.ensures k (kernel_seen t) c.in-Ok.ensures in
    let said = c.what_is_read_of_conditions_is_their_text.ensures c.args.effort.is_wide (names_seen t.0).parameters o (lined n) c.in-Ok-read_conditions_as.ensures.value in
    let met = subst (λ x. unmet (kernel x).body ≡ None) c.core.ensures.value c.in-Ok-places.ensures.1 in
    all_told c.args.effort.is_wide t n c.args.effort.workers k o text said c.in-Ok-counted.ensures (t, lined n, (c.in-Ok.ensures, c.in-Ok-read_conditions_as.ensures.value), met) c.searched.result c.searched.ensures.ends
