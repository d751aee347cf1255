-- The headline at each launch that meets the conditions, and what it is to be accepted where no line says what buffers hold.
use Rattle.std.proofs.Common.{◌≡◌, ℕ, ◌<◌, ◌↔◌, Bool, true, false, List, [], refl, subst}
use Rattle.semantics.specs.Launch.{Kernel, Launch, Fits, product}
use Rattle.semantics.specs.Conditions.{Content, Conditions, Meets}
use Rattle.semantics.specs.Contents.{IsKept}
use Rattle.semantics.specs.Word.{Width, Exact}
use Rattle.semantics.specs.Setup.{Setup, at_launch, on_device, group_size}
use Rattle.semantics.specs.Memory.{opening_memory}
use Rattle.semantics.specs.Safety.{IsPairSafe, IsPairSafeWithin}
use Rattle.semantics.specs.Headline.{Headline}
use Rattle.cert_check.specs.Accepting.{IsAccepted, IsAcceptedWithin, IsAcceptedBy, HasHeadline}

-- by the law of pair-safety without lines
pub accepted_within : (k : Kernel) (c : Conditions) → ((s : Setup) (bound : ℕ) → IsPairSafeWithin [] s bound ↔ IsPairSafe s bound) → 0 < product k.sizes → ((l : Launch) → Fits k l → Meets c l → IsPairSafeWithin c.contents (at_launch k l) c.budget) → IsAcceptedWithin k c
accepted_within k c law some safe = record {
  has_items = some;
  is_pair_safe = safe;
  without_lines = λ none. record { has_items = some; is_pair_safe = λ l f m. (law (at_launch k l) c.budget).0 (subst (λ cs. IsPairSafeWithin cs (at_launch k l) c.budget) none (safe l f m)) };
}

-- by the laws of the headline on devices and of memories that launches begin with
pub has_headline : (k : Kernel) (c : Conditions) → ((w : Width) (cs : List Content) (s : Setup) (bound : ℕ) → 0 < group_size s → IsPairSafeWithin cs (on_device Exact s) bound → IsKept (on_device Exact s) cs (opening_memory (on_device Exact s)) → Headline (on_device w s) bound) → ((s : Setup) (d : Conditions) → Fits s.kernel s.launch → Meets d s.launch → IsKept s d.contents (opening_memory s)) → IsAcceptedWithin k c → HasHeadline k c
unfolding group_size
has_headline k c law kept a w l f m = law w c.contents (at_launch k l) c.budget a.has_items (a.is_pair_safe l f m) (kept (at_launch k l) c f m)

-- the check that is not wide reads no lines
pub accepted_by : (is_wide : Bool) (k : Kernel) (c : Conditions) → (is_wide ≡ false → c.contents ≡ []) → IsAcceptedWithin k c → IsAcceptedBy is_wide k c
accepted_by false k c none a = a.without_lines (none refl)
accepted_by true k c none a = a
