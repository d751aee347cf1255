-- The line of a finding: what is wrong, whether it is confirmed, and each site with the work-item that comes there.
use Rattle.std.specs.Prelude.{ℕ, zero, suc, ◌+◌, List, [], ◌∷◌, ◌++◌, codes, Option, Some, None}
use Rattle.std.specs.List.{slice_get}
use Rattle.std.specs.Fmt.{decimal}
use Rattle.semantics.specs.Core.{Site}
use Rattle.semantics.specs.Word.{Fault, DivisionByZero, Overflow, OutOfBounds}
use Rattle.semantics.specs.Launch.{Three}
use Rattle.semantics.specs.World.{Event}
use Rattle.findings.specs.Findings.{FindingKind, Race, Divergence, Faults, Sizes, Bound, Values, Spot, Store, Load, Barrier, End, At, WorkItem, Finding}

abbrev pub fault_text : Fault → List ℕ
fault_text DivisionByZero = codes "fault F1"
fault_text Overflow = codes "fault F2"
fault_text OutOfBounds = codes "fault F3"

abbrev pub kind_text : FindingKind → List ℕ
kind_text Race = codes "race"
kind_text Divergence = codes "divergence"
kind_text (Faults f) = fault_text f
kind_text Sizes = codes "fault F4"
kind_text Bound = codes "bound"
kind_text Values = codes "values"

abbrev pub grade_text : Option (List Event) → List ℕ
grade_text None = codes " possible"
grade_text (Some events) = codes " confirmed"

abbrev pub site_text : Site → List ℕ
site_text s = decimal s.line ++ (codes ":" ++ decimal s.column)

abbrev pub spot_text : Spot → List ℕ
spot_text (Store s) = codes "store " ++ site_text s
spot_text (Load s) = codes "load " ++ site_text s
spot_text (Barrier s) = codes "barrier " ++ site_text s
spot_text End = codes "end"
spot_text (At s) = site_text s

abbrev pub ids_text : Three ℕ → List ℕ
ids_text t = decimal t.x ++ (codes " " ++ (decimal t.y ++ (codes " " ++ decimal t.z)))

-- who comes there, where that is known
abbrev pub item_text : Option WorkItem → List ℕ
item_text None = []
item_text (Some i) = codes " by group " ++ (ids_text i.group ++ (codes " local " ++ ids_text i.local))

abbrev pub separator : ℕ → List ℕ
separator zero = codes ": "
separator (suc n) = codes ", "

-- sites from the n-th on, each with the item of its number
abbrev pub sites_text : (n : ℕ) → List Spot → List WorkItem → List ℕ
sites_text n [] items = []
sites_text n (s ∷ ss) items = separator n ++ (spot_text s ++ (item_text (slice_get items n) ++ sites_text (n + 1) ss items))

abbrev pub finding_text : Finding → List ℕ
finding_text f = kind_text f.kind ++ (grade_text f.schedule ++ (sites_text 0 f.sites f.items ++ codes "\n"))
