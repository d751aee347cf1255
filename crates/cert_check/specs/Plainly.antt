-- What a refusal says of a plain kernel, once its three texts are read.
use Rattle.kernel_reading.specs.Kernels.{Source}
use Rattle.std.specs.Prelude.{◌≡◌, ◌<◌, ◌⊎◌, ℕ, zero, suc, List, length, Bool, true, false, Result, Ok, Err}
use Rattle.semantics.specs.Launch as semantics
use Rattle.semantics.specs.Conditions.{Conditions}
use Rattle.certificate_text.specs.Certificate.{Certificate}
use Rattle.launch_text.specs.ConditionsReading.{Lined, meant}
use Rattle.kernel_names.specs.NameMap.{NameMap}
use Rattle.kernel_names.specs.View.{names_seen}
use Rattle.typed_kernels.specs.TypedKernel.{TypedKernel}
use Rattle.core_code.specs.View.{kernel as core_seen}
use Rattle.walk_trees.specs.Trees.{Obligation}
use Rattle.facts.specs.declared.error.WalkError.TheVariants as walks
use Rattle.plain_kernels.specs.Domains.{domain}
use Rattle.plain_kernels.specs.Claims.{is_range}
use Rattle.plain_kernels.specs.Kernels.{IsPlain, has_signed}
use Rattle.entry_check.specs.Entries.{has_entry, is_refuted, is_past}
use Rattle.entry_check.specs.Lacking.{IsNumbered, owing, said, steps_of}
use Rattle.arrivals.specs.Places.{places}
use Rattle.obligations.specs.Notes.{Notes}
use Rattle.certificate_notes.specs.Noted.{stated}
use Rattle.certificate_notes.specs.Noting.{lacks}
use Rattle.cert_check.specs.Breadth.{text_says}
use Rattle.cert_check.specs.Refusing.{AreRead, IsSaid}
use Rattle.cert_check.specs.declared.accepted.Accepted.{Accepted}
use Rattle.cert_check.specs.declared.error.CheckError.{CheckError}
use Rattle.cert_check.specs.declared.error.CheckError.TheVariants as errors
use Rattle.entry_check.specs.declared.error.ShowError.{ShowError}
use Rattle.entry_check.specs.declared.error.ShowError.TheVariants as shows

-- a claim of a range is named only where the certificate has an entry for it, and then some value is an `int` parameter
abbrev pub IsOwnRange : semantics.Kernel → Certificate → (number : ℕ) → Type 0
IsOwnRange k cert n = is_range k n ≡ true → (has_entry cert.entries n ≡ true) × (has_signed k.arguments k.body ≡ true)

-- the obligation of this number has no entry that fits it and refutes its facts
abbrev pub IsUnrefuted : semantics.Kernel → NameMap → Conditions → Notes → Certificate → (number : ℕ) → Type 0
IsUnrefuted k names c n cert m = (o : Obligation) × IsNumbered 0 (owing domain k c n cert.entries) m o × (is_refuted (said n (stated k names)) cert.entries m o ≡ false)

-- 0: the certificate names what the kernel lacks, or has an entry past the last; a number is that of an obligation that is not shown;
-- there are over 65,536 obligations; or the stores outnumber the budget. No form leaves i64, and no place has many paths
abbrev pub TellsPlain : semantics.Kernel → NameMap → Conditions → Certificate → ShowError → Type 0
TellsPlain k names c cert (shows.NotShown zero) = (lacks k names (places k.body) cert ≡ true) ⊎ ((n : Notes) × IsSaid k names cert n × (is_past cert.entries (length (owing domain k c n cert.entries)) ≡ true))
TellsPlain k names c cert (shows.NotShown (suc m)) = (n : Notes) × IsSaid k names cert n × IsUnrefuted k names c n cert (suc m) × IsOwnRange k cert (suc m)
TellsPlain k names c cert (shows.ManyPaths s) = ⊥
TellsPlain k names c cert (shows.Walk walks.TooMany) = (n : Notes) × IsSaid k names cert n × (65536 < length (owing domain k c n cert.entries))
TellsPlain k names c cert (shows.Walk walks.TooLarge) = ⊥
TellsPlain k names c cert (shows.Walk walks.Memory) = Unit {0}
TellsPlain k names c cert shows.OverBudget = (n : Notes) × IsSaid k names cert n × (c.budget < steps_of k n)
TellsPlain k names c cert shows.Memory = Unit {0}

-- the texts that come first are read, and the kernel is not plain: no barrier of a plain one is missed, and it has few paths
abbrev pub IsNotPlain : (is_wide : Bool) → (kernel : Source) (conditions : List ℕ) → Type 0
IsNotPlain is_wide kernel conditions = (typed : TypedKernel) × (found : Lined) × AreRead is_wide typed found kernel conditions × (IsPlain (core_seen typed.1) (meant found) → ⊥)

-- the texts are read, and where the kernel is plain the error tells this of it; the check is the wide one, or it is not
abbrev pub OnPlainBy : (is_wide : Bool) → Result Accepted CheckError → (kernel : Source) (conditions certificate : List ℕ) → Type 0
OnPlainBy is_wide (Err (errors.Show e)) kernel conditions certificate =
    (typed : TypedKernel) × (found : Lined) × (cert : Certificate) × AreRead is_wide typed found kernel conditions × (text_says is_wide certificate ≡ Ok cert)
    × (IsPlain (core_seen typed.1) (meant found) → TellsPlain (core_seen typed.1) (names_seen typed.0) (meant found) cert e)
OnPlainBy is_wide (Err (errors.Missed site)) kernel conditions certificate = IsNotPlain is_wide kernel conditions
OnPlainBy is_wide (Err (errors.ManyPaths site)) kernel conditions certificate = IsNotPlain is_wide kernel conditions
OnPlainBy is_wide (Err (errors.Kernel e)) kernel conditions certificate = Unit {0}
OnPlainBy is_wide (Err (errors.Conditions e)) kernel conditions certificate = Unit {0}
OnPlainBy is_wide (Err (errors.Certificate e)) kernel conditions certificate = Unit {0}
OnPlainBy is_wide (Ok a) kernel conditions certificate = Unit {0}

-- of the check of conditions of version 1, and of certificates of versions 1 and 2
abbrev pub OnPlain : Result Accepted CheckError → (kernel : Source) (conditions certificate : List ℕ) → Type 0
OnPlain answer kernel conditions certificate = OnPlainBy false answer kernel conditions certificate
