-- What the steps of the check tell one another of a kernel and conditions that are read.
use Rattle.std.specs.Prelude.{◌≡◌, ◌≤◌, ℕ, List, Bool, Some, Ok, Err}
use Rattle.std.specs.List.{All}
use Rattle.semantics.specs.Launch as semantics
use Rattle.semantics.specs.Conditions.{Conditions}
use Rattle.certificate_text.specs.Certificate.{Certificate}
use Rattle.kernel_names.specs.NameMap.{NameMap}
use Rattle.kernel_names.specs.View.{names_seen}
use Rattle.typed_kernels.specs.TypedKernel.{TypedKernel}
use Rattle.core_code.specs.View.{kernel as core_seen, site as site_seen}
use Rattle.certificate.specs.Certificates.{Says}
use Rattle.launch_text.specs.declared.error.LaunchTextError.TheVariants as launches
use Rattle.arrivals.specs.Loops.{unmet}
use Rattle.walk_trees.specs.Shown.{IsShownWithProducts}
use Rattle.obligations.specs.Notes.{Notes}
use Rattle.obligations.specs.Telling.{TellsOfItems}
use Rattle.obligations.specs.Limits.{AreLimits}
use Rattle.obligations.specs.Listing.{all_trees}
use Rattle.obligations.specs.Shown.{obligations}
use Rattle.certificate_notes.specs.Noted.{stated}
use Rattle.walk.specs.Unfound.{IsFirstOfMany}
use Rattle.kernel_names.specs.NameMap.{site_at}
use Rattle.plain_kernels.specs.Domains.{domain}
use Rattle.entry_check.specs.Lacking.{PassesOf, steps_of, with_entries}
use Rattle.entry_check.specs.declared.error.ShowError.{ShowError}
use Rattle.entry_check.specs.declared.error.ShowError.TheVariants as shows
use Rattle.cert_check.specs.Breadth.{text_says}
use Rattle.cert_check.specs.Refusing.{IsSaid, Shows, AreMet, HasManyPathsAt}
use Rattle.cert_check.specs.declared.error.CheckError.{CheckError}
use Rattle.cert_check.specs.declared.error.CheckError.TheVariants as errors

-- by what is said of its places and loops all is shown of a kernel, and its steps are within the budget
abbrev pub IsShownBy : semantics.Kernel → Conditions → Notes → Type 0
IsShownBy k c n = TellsOfItems n × AreLimits n × All IsShownWithProducts (obligations domain k c n) × (steps_of k n ≤ c.budget)

abbrev pub AllIsShown : semantics.Kernel → Conditions → Type 0
AllIsShown k c = (n : Notes) × IsShownBy k c n

-- with what a certificate says nothing stops the check
abbrev pub PassesWith : semantics.Kernel → NameMap → Conditions → Certificate → Type 0
PassesWith k names c cert = (n : Notes) × IsSaid k names cert n × PassesOf domain k c (stated k names) n cert.entries

-- what an error tells that is not told with its place as yet
abbrev pub Unshown : semantics.Kernel → NameMap → Conditions → Certificate → ShowError → Type 0
Unshown k names c cert (shows.NotShown m) = Shows k names c cert (shows.NotShown m)
Unshown k names c cert (shows.ManyPaths s) = (n : Notes) × IsSaid k names cert n × IsFirstOfMany s (all_trees domain k c (with_entries cert.entries n))
Unshown k names c cert (shows.Walk e) = Shows k names c cert (shows.Walk e)
Unshown k names c cert shows.OverBudget = Shows k names c cert shows.OverBudget
Unshown k names c cert shows.Memory = Unit {0}

-- an error as it is told of a source
abbrev pub IsTold : NameMap → ShowError → CheckError → Type 0
IsTold names (shows.ManyPaths s) (errors.ManyPaths site) = site_seen site ≡ site_at names s
IsTold names (shows.ManyPaths s) (errors.Kernel e) = ⊥
IsTold names (shows.ManyPaths s) (errors.Conditions e) = ⊥
IsTold names (shows.ManyPaths s) (errors.Missed site) = ⊥
IsTold names (shows.ManyPaths s) (errors.Certificate e) = ⊥
IsTold names (shows.ManyPaths s) (errors.Show e) = ⊥
IsTold names (shows.NotShown m) told = told ≡ errors.Show (shows.NotShown m)
IsTold names (shows.Walk e) told = told ≡ errors.Show (shows.Walk e)
IsTold names shows.OverBudget told = told ≡ errors.Show shows.OverBudget
IsTold names shows.Memory told = told ≡ errors.Show shows.Memory

-- what an error tells once the kernel and the conditions are read; want of memory may be told as theirs; the check is the wide one, or it
-- is not
abbrev pub StopsBy : (is_wide : Bool) → TypedKernel → Conditions → (certificate : List ℕ) → CheckError → Type 0
StopsBy is_wide typed c certificate (errors.Kernel e) = ⊥
StopsBy is_wide typed c certificate (errors.Conditions e) = e ≡ launches.Memory
StopsBy is_wide typed c certificate (errors.Missed site) = (loop : ℕ) × (unmet (core_seen typed.1).body ≡ Some loop) × (site_seen site ≡ site_at (names_seen typed.0) (Some loop))
StopsBy is_wide typed c certificate (errors.Certificate e) = AreMet typed × Says (Err e) (text_says is_wide certificate)
StopsBy is_wide typed c certificate (errors.ManyPaths site) = (cert : Certificate) × AreMet typed × (text_says is_wide certificate ≡ Ok cert) × HasManyPathsAt site typed c cert
StopsBy is_wide typed c certificate (errors.Show e) = (cert : Certificate) × AreMet typed × (text_says is_wide certificate ≡ Ok cert) × Shows (core_seen typed.1) (names_seen typed.0) c cert e
