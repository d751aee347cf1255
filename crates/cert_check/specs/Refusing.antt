-- What a refusal says of the three texts: those before the refused one are read, and its fault is the first of its text.
use Rattle.std.specs.Prelude.{◌≡◌, ◌⊎◌, ℕ, zero, suc, List, [], Bool, true, false, Option, Some, None, Result, Ok, Err}
use Rattle.semantics.specs.Launch as semantics
use Rattle.semantics.specs.Conditions.{Conditions}
use Rattle.certificate_text.specs.Certificate.{Certificate}
use Rattle.kernel_names.specs.NameMap.{NameMap}
use Rattle.launch_text.specs.ConditionsReading.{Lined, conditions_of, meant}
use Rattle.kernel_names.specs.View.{names_seen}
use Rattle.typed_kernels.specs.TypedKernel.{TypedKernel}
use Rattle.core_code.specs.View.{kernel as core_seen}
use Rattle.core_code.specs.declared.tree.Site.{Site}
use Rattle.kernel_reading.specs.Kernels.{read, Source}
use Rattle.kernel_reading.specs.Answers as reading
use Rattle.launch_text.specs.Answers as launches
use Rattle.certificate.specs.Certificates.{Says}
use Rattle.plain_kernels.specs.Domains.{domain}
use Rattle.arrivals.specs.Loops.{unmet}
use Rattle.arrivals.specs.Places.{places}
use Rattle.core_code.specs.View.{site as site_seen}
use Rattle.obligations.specs.Notes.{Notes}
use Rattle.obligations.specs.Listing.{all_trees}
use Rattle.certificate_notes.specs.Noted.{Noted, noted, stated}
use Rattle.certificate_notes.specs.Noting.{lacks, notes_by}
use Rattle.walk.specs.Unfound.{IsFirstOfMany}
use Rattle.kernel_names.specs.NameMap.{site_at}
use Rattle.entry_check.specs.Lacking.{PassesOf, TellsOf, with_entries}
use Rattle.cert_check.specs.Breadth.{text_says}
use Rattle.cert_check.specs.declared.accepted.Accepted.{Accepted}
use Rattle.cert_check.specs.declared.error.CheckError.{CheckError}
use Rattle.cert_check.specs.declared.error.CheckError.TheVariants as errors
use Rattle.entry_check.specs.declared.error.ShowError.{ShowError}
use Rattle.entry_check.specs.declared.error.ShowError.TheVariants as shows

-- the kernel is read, to this names and core
abbrev pub IsRead : TypedKernel → (kernel : Source) → Type 0
IsRead typed kernel = read kernel ≡ Ok (reading.kernel_seen typed)

-- and the conditions, of its parameters; of version 2 where the check is the wide one
abbrev pub AreRead : (is_wide : Bool) → TypedKernel → Lined → (kernel : Source) (conditions : List ℕ) → Type 0
AreRead is_wide typed found kernel conditions = IsRead typed kernel × (conditions_of is_wide (names_seen typed.0).parameters conditions ≡ Ok found)

-- what a certificate says of a kernel's places and loops, where it names nothing that the kernel lacks
abbrev pub IsSaid : semantics.Kernel → NameMap → Certificate → Notes → Type 0
IsSaid k names cert n = (m : Noted) × (noted k names (places k.body) cert ≡ Some m) × (n ≡ notes_by m [])

-- what the error tells of a kernel with its names under conditions, with a certificate: that it names what the kernel lacks, else what is
-- not shown. That there are too many paths is told with its place in the source
abbrev pub Shows : semantics.Kernel → NameMap → Conditions → Certificate → ShowError → Type 0
Shows k names c cert (shows.ManyPaths s) = ⊥
Shows k names c cert (shows.NotShown zero) = (lacks k names (places k.body) cert ≡ true) ⊎ ((n : Notes) × IsSaid k names cert n × TellsOf domain k c (stated k names) n cert.entries (shows.NotShown 0))
Shows k names c cert (shows.NotShown (suc m)) = (n : Notes) × IsSaid k names cert n × TellsOf domain k c (stated k names) n cert.entries (shows.NotShown (suc m))
Shows k names c cert (shows.Walk e) = (n : Notes) × IsSaid k names cert n × TellsOf domain k c (stated k names) n cert.entries (shows.Walk e)
Shows k names c cert shows.OverBudget = (n : Notes) × IsSaid k names cert n × TellsOf domain k c (stated k names) n cert.entries shows.OverBudget
Shows k names c cert shows.Memory = Unit {0}

-- each loop with a barrier meets one on each way through
abbrev pub AreMet : TypedKernel → Type 0
AreMet typed = unmet (core_seen typed.1).body ≡ None

-- the kernel and the conditions are read, the kernel's barriers are met, and the certificate is read; the check is the wide one, or it is
-- not
abbrev pub AllReadBy : (is_wide : Bool) → TypedKernel → Lined → Certificate → (kernel : Source) (conditions certificate : List ℕ) → Type 0
AllReadBy is_wide typed found cert kernel conditions certificate = AreRead is_wide typed found kernel conditions × AreMet typed × (text_says is_wide certificate ≡ Ok cert)

-- over 256 paths come to an end from a place whose statement begins there
abbrev pub HasManyPathsAt : Site → TypedKernel → Conditions → Certificate → Type 0
HasManyPathsAt site typed c cert =
    (n : Notes) × (s : Option ℕ) × IsSaid (core_seen typed.1) (names_seen typed.0) cert n × IsFirstOfMany s (all_trees domain (core_seen typed.1) c (with_entries cert.entries n)) × (site_seen site ≡ site_at (names_seen typed.0) s)

abbrev pub RefusesBy : (is_wide : Bool) → CheckError → (kernel : Source) (conditions certificate : List ℕ) → Type 0
RefusesBy is_wide (errors.Kernel e) kernel conditions certificate = reading.Refuses e (read kernel)
RefusesBy is_wide (errors.Conditions e) kernel conditions certificate = (typed : TypedKernel) × IsRead typed kernel × launches.Refuses e (conditions_of is_wide (names_seen typed.0).parameters conditions)
RefusesBy is_wide (errors.Missed site) kernel conditions certificate =
    (typed : TypedKernel) × (found : Lined) × (loop : ℕ) × AreRead is_wide typed found kernel conditions × (unmet (core_seen typed.1).body ≡ Some loop) × (site_seen site ≡ site_at (names_seen typed.0) (Some loop))
RefusesBy is_wide (errors.Certificate e) kernel conditions certificate = (typed : TypedKernel) × (found : Lined) × AreRead is_wide typed found kernel conditions × AreMet typed × Says (Err e) (text_says is_wide certificate)
RefusesBy is_wide (errors.ManyPaths site) kernel conditions certificate = (typed : TypedKernel) × (found : Lined) × (cert : Certificate) × AllReadBy is_wide typed found cert kernel conditions certificate × HasManyPathsAt site typed (meant found) cert
RefusesBy is_wide (errors.Show e) kernel conditions certificate = (typed : TypedKernel) × (found : Lined) × (cert : Certificate) × AllReadBy is_wide typed found cert kernel conditions certificate × Shows (core_seen typed.1) (names_seen typed.0) (meant found) cert e

abbrev pub TellsBy : (is_wide : Bool) → Result Accepted CheckError → (kernel : Source) (conditions certificate : List ℕ) → Type 0
TellsBy is_wide (Ok a) kernel conditions certificate = Unit {0}
TellsBy is_wide (Err e) kernel conditions certificate = RefusesBy is_wide e kernel conditions certificate

-- what is accepted: the kernel's barriers are met, the certificate is read, it names nothing that the kernel lacks, and with it nothing
-- stops the check
abbrev pub IsPassedBy : (is_wide : Bool) → TypedKernel → Conditions → (certificate : List ℕ) → Type 0
IsPassedBy is_wide typed c certificate =
    AreMet typed × (cert : Certificate) × (n : Notes) × (text_says is_wide certificate ≡ Ok cert) × IsSaid (core_seen typed.1) (names_seen typed.0) cert n × PassesOf domain (core_seen typed.1) c (stated (core_seen typed.1) (names_seen typed.0)) n cert.entries

-- of the check of conditions of version 1, and of certificates of versions 1 and 2
abbrev pub Refuses : CheckError → (kernel : Source) (conditions certificate : List ℕ) → Type 0
Refuses e kernel conditions certificate = RefusesBy false e kernel conditions certificate

abbrev pub Tells : Result Accepted CheckError → (kernel : Source) (conditions certificate : List ℕ) → Type 0
Tells answer kernel conditions certificate = TellsBy false answer kernel conditions certificate

abbrev pub IsPassed : TypedKernel → Conditions → (certificate : List ℕ) → Type 0
IsPassed typed c certificate = IsPassedBy false typed c certificate
