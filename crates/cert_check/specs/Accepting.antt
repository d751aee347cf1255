-- What it means that a kernel is accepted under conditions.
use Rattle.std.specs.Prelude.{◌≡◌, ◌<◌, [], Bool, true, false, length}
use Rattle.semantics.specs.Launch.{Kernel, Launch, Fits, product}
use Rattle.semantics.specs.Conditions.{Conditions, Meets}
use Rattle.semantics.specs.Word.{Width}
use Rattle.semantics.specs.Setup.{at_launch, on_device}
use Rattle.semantics.specs.Safety.{IsPairSafe, IsPairSafeWithin}
use Rattle.semantics.specs.Headline.{Headline}

-- a work-group has work-items, and at each launch that meets the conditions the kernel is pair-safe within the budget, where sizes are
-- exact
pub record IsAccepted (k : Kernel) (c : Conditions) : Type 0 where
  pub has_items : 0 < product k.sizes
  pub is_pair_safe : (l : Launch) → Fits k l → Meets c l → IsPairSafe (at_launch k l) c.budget

-- the same where each buffer holds what the lines of the conditions let it: with no lines of what buffers hold, it is `IsAccepted`
pub record IsAcceptedWithin (k : Kernel) (c : Conditions) : Type 0 where
  pub has_items : 0 < product k.sizes
  pub is_pair_safe : (l : Launch) → Fits k l → Meets c l → IsPairSafeWithin c.contents (at_launch k l) c.budget
  pub without_lines : c.contents ≡ [] → IsAccepted k c

-- by the check that reads conditions of version 1 alone, and by the wide one
abbrev pub IsAcceptedBy : (is_wide : Bool) → Kernel → Conditions → Type 0
IsAcceptedBy false k c = IsAccepted k c
IsAcceptedBy true k c = IsAcceptedWithin k c

-- the conditions have the kernel's parameters
pub record HasParameters (k : Kernel) (c : Conditions) : Type 0 where
  pub arguments : length c.arguments ≡ length k.arguments
  pub buffers : length c.lengths ≡ length k.buffers

-- and the headline holds there, however many bits sizes have
abbrev pub HasHeadline : Kernel → Conditions → Type 0
HasHeadline k c = (w : Width) (l : Launch) → Fits k l → Meets c l → Headline (on_device w (at_launch k l)) c.budget
