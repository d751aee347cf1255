-- The clauses on devices.
use Rattle.std.proofs.Common.{◌≡◌, ℕ, ◌<◌, List, subst}
use Rattle.semantics.specs.Word.{Width, Exact}
use Rattle.semantics.specs.Setup.{Setup, on_device, group_size}
use Rattle.semantics.specs.World.{Event, opening_world, run}
use Rattle.semantics.specs.Rounds.{IsDefined, result_by_rounds}
use Rattle.semantics.specs.Safety.{IsPairSafe}
use Rattle.semantics.specs.Headline.{Headline}
use Rattle.reduction.proofs.DeviceRuns.{size-on}
use Rattle.reduction.proofs.DeviceRounds.{result-same, defined-same}
use Rattle.reduction.proofs.Whole.{headline_lem, defined_lem}
use Rattle.reduction.proofs.HeadlineRounds.{headline-defined}
use Rattle.reduction.proofs.DeviceLaw.{runs-same, headline-kept, pair_safe-kept}

pub full-on : (s : Setup) → 0 < group_size s → 0 < group_size (on_device Exact s)
full-on s h = subst (λ n. 0 < n) (size-on s.width Exact s) h

pub headline_on : (w : Width) (s : Setup) (bound : ℕ) → 0 < group_size s → Headline (on_device Exact s) bound → Headline (on_device w s) bound
headline_on w s bound full h = headline-kept w s bound (full-on s full) h (headline-defined (on_device Exact s) bound (full-on s full) h)

pub defined_on : (w : Width) (s : Setup) (bound : ℕ) → 0 < group_size s → IsDefined (on_device Exact s) bound → IsDefined (on_device w s) bound
defined_on w s bound full d = defined-same w s (full-on s full) bound d

pub result_on : (w : Width) (s : Setup) (bound : ℕ) → 0 < group_size s → IsDefined (on_device Exact s) bound → result_by_rounds (on_device w s) bound ≡ result_by_rounds (on_device Exact s) bound
result_on w s bound full d = result-same w s (full-on s full) bound d

pub headline_result_on : (w : Width) (s : Setup) (bound : ℕ) → 0 < group_size s → Headline (on_device Exact s) bound → result_by_rounds (on_device w s) bound ≡ result_by_rounds (on_device Exact s) bound
headline_result_on w s bound full h = result_on w s bound full (headline-defined (on_device Exact s) bound (full-on s full) h)

pub runs_on : (w : Width) (s : Setup) (bound : ℕ) → 0 < group_size s → Headline (on_device Exact s) bound → (es : List Event) → run (on_device w s) es (opening_world (on_device w s)) ≡ run (on_device Exact s) es (opening_world (on_device Exact s))
runs_on w s bound full h es = runs-same w s bound (full-on s full) h es

pub pair_safe_on : (w : Width) (s : Setup) (bound : ℕ) → IsPairSafe (on_device Exact s) bound → IsPairSafe (on_device w s) bound
pair_safe_on w s bound p = pair_safe-kept w s bound p

pub safe_headline_on : (w : Width) (s : Setup) (bound : ℕ) → 0 < group_size s → IsPairSafe (on_device Exact s) bound → Headline (on_device w s) bound
safe_headline_on w s bound full p = headline_on w s bound full (headline_lem (on_device Exact s) bound (full-on s full) p)

pub safe_result_on : (w : Width) (s : Setup) (bound : ℕ) → 0 < group_size s → IsPairSafe (on_device Exact s) bound → result_by_rounds (on_device w s) bound ≡ result_by_rounds (on_device Exact s) bound
safe_result_on w s bound full p = result_on w s bound full (defined_lem (on_device Exact s) bound (full-on s full) p)
