-- What the program promises where it says that a kernel is accepted, where it gives the buffers of a launch, and where it gives a canonical
-- text: all of it is said of bytes and of the definitions, and no type of the code stands in it.
use Rattle.std.specs.Prelude.{◌≡◌, ℕ, List, Bool, map, codes}
use Rattle.semantics.specs.Word.{Word, Width}
use Rattle.semantics.specs.Launch.{Launch, Fits}
use Rattle.semantics.specs.Conditions.{Conditions, Meets}
use Rattle.semantics.specs.Setup.{Setup, at_launch, on_device}
use Rattle.semantics.specs.Rounds.{IsDefined}
use Rattle.texts.specs.Canonical.{canonical}
use Rattle.launch_text.specs.ConditionsText.{IsConditionsText}
use Rattle.launch_text.specs.LaunchReading.{number}
use Rattle.launch_text.specs.LaunchSpelling.{IsLaunchText}
use Rattle.launch_text.specs.LaunchText.{buffers_text}
use Rattle.types.specs.Scope.{Bits32}
use Rattle.reading.specs.Kernels as plain
use Rattle.reading.specs.Texts as plain_texts
use Rattle.kernel_reading.specs.Kernels.{Kernel, Source}
use Rattle.kernel_reading.specs.Texts.{IsTextOf}
use Rattle.cert_check.specs.Accepting.{HasHeadline}
use Rattle.executor.specs.Ends.{IsResultOf, EndsEvery, HaveKinds}

-- the bytes are the text of the kernel, by the grammar, and the text of the conditions, case by case, which is of version 2 only
-- where the check is the wide one; and at each launch that meets these the headline holds
pub record AreSafeTexts (is_wide : Bool) (kernel : Source) (conditions : List ℕ) (k : Kernel) (c : Conditions) : Type 0 where
  pub kernel_text : IsTextOf kernel k
  pub conditions_text : IsConditionsText is_wide k.names.parameters conditions c
  pub headline : HasHeadline k.core c

abbrev pub accepted_line : List ℕ
accepted_line = codes "accepted\n"

-- a kernel at a launch on a device
abbrev pub launched : Width → Kernel → Launch → Setup
launched w k l = on_device w (at_launch k.core l)

-- the launch is that of the bytes, case by case, and meets the conditions; what is written are the buffers that have the numbers of the
-- result by rounds, which is defined, and with which every run that is over ends, each number a word of its parameter's kind; all this on
-- each device
pub record IsRun (k : Kernel) (c : Conditions) (launch written : List ℕ) (l : Launch) (b : List (List Word)) : Type 0 where
  pub launch_text : IsLaunchText k.names.parameters launch l
  pub fits : Fits k.core l
  pub meets : Meets c l
  pub defined : (w : Width) → IsDefined (launched w k l) c.budget
  pub result : (w : Width) → IsResultOf (launched w k l) c.budget (map (map number) b)
  pub every : (w : Width) → EndsEvery (launched w k l) (map (map number) b)
  pub kinds : HaveKinds k.core.buffers b
  pub text : written ≡ buffers_text k.names.parameters b

abbrev pub IsAcceptedText : (is_wide : Bool) → (kernel : Source) (conditions written : List ℕ) → Type 0
IsAcceptedText is_wide kernel conditions written = (k : Kernel) × (c : Conditions) × AreSafeTexts is_wide kernel conditions k c × (written ≡ accepted_line)

abbrev pub IsResultText : (is_wide : Bool) → (kernel : Source) (conditions launch written : List ℕ) → Type 0
IsResultText is_wide kernel conditions launch written =
    (k : Kernel) × (c : Conditions) × (l : Launch) × (b : List (List Word)) × AreSafeTexts is_wide kernel conditions k c × IsRun k c launch written l b

-- the bytes are the text of a kernel, by the grammar, and what is written is the canonical text of its tree
abbrev pub IsPrintedText : (kernel written : List ℕ) → Type 0
IsPrintedText kernel written = (k : plain.Kernel) × plain_texts.IsTextOf (plain.text_for Bits32 kernel) k × (written ≡ canonical k.tree)
