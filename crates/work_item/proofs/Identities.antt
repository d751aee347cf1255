-- The places of work-items.
use Rattle.std.proofs.Common.{◌≡◌, ◌<◌, ◌/◌, ◌%◌, ℕ, subst, sym}
use Rattle.semantics.specs.Launch.{product}
use Rattle.semantics.specs.Setup.{Setup, group_size, group_count, item_count}
use Rattle.semantics.proofs.Groups.{quotient-below, place-below, group_size-pos}

pub group_place : (s : Setup) (i n : ℕ) → n ≡ group_size s → i < item_count s → i / n < product s.launch.groups
unfolding group_count
group_place s i n e h = subst (λ m. i / m < product s.launch.groups) (sym e) (quotient-below i (group_count s) (group_size s) h)

pub local_place : (s : Setup) (i n : ℕ) → n ≡ group_size s → i < item_count s → i % n < product s.kernel.sizes
unfolding group_size
local_place s i n e h = subst (λ m. i % m < product s.kernel.sizes) (sym e) (place-below s i (group_size-pos s i h))
