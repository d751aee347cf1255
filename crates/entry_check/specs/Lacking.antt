-- What an error tells of what is to be shown.
use Rattle.std.specs.Prelude.{◌≡◌, ◌<◌, ◌≤◌, ◌⊎◌, ℕ, zero, suc, ◌+◌, List, length, get_or, Option, Bool, true, false}
use Rattle.semantics.specs.Launch.{Kernel}
use Rattle.semantics.specs.Conditions.{Conditions}
use Rattle.domain.specs.declared.Domain.{Ghosts}
use Rattle.certificate_text.specs.Certificate.{Entry}
use Rattle.facts.specs.declared.error.WalkError.{WalkError}
use Rattle.facts.specs.declared.error.WalkError.TheVariants as walks
use Rattle.walk_trees.specs.Trees.{Obligation}
use Rattle.obligations.specs.Notes.{Notes}
use Rattle.obligations.specs.Limits.{turns_at}
use Rattle.obligations.specs.Listing.{all_trees}
use Rattle.obligations.specs.Fitting.{trees_fit}
use Rattle.obligations.specs.Shown.{obligations}
use Rattle.two_thread.specs.Listed.{nth_fits}
use Rattle.walk.specs.Fitting.{own_fits}
use Rattle.walk.specs.Unfound.{HaveFewPaths, IsFirstOfMany, IsUnlisted}
use Rattle.loop_bounds.specs.Costs.{cost}
use Rattle.entry_check.specs.Entries.{Said, Stating, has_entry, is_refuted, is_past}
use Rattle.entry_check.specs.declared.error.ShowError.{ShowError}
use Rattle.entry_check.specs.declared.error.ShowError.TheVariants as errors

-- an obligation that is not shown: its own forms are of i64, the domain does not settle it, it is needed or has an entry, and no entry that
-- fits refutes its facts
abbrev pub IsLacking : Said → List Entry → (fit : Bool) → (number : ℕ) → Obligation → Type 0
IsLacking s es fit n o = (fit ≡ true) × (o.settled ≡ false) × ((o.needed ≡ true) ⊎ (has_entry es n ≡ true)) × (is_refuted s es n o ≡ false)

-- one that passes: its own forms are of i64, and the domain settles it, or it is not needed and has no entry, or its entry refutes its
-- facts
abbrev pub Passes : Said → List Entry → (fit : Bool) → (number : ℕ) → Obligation → Type 0
Passes s es fit n o = (fit ≡ true) × ((o.settled ≡ true) ⊎ (((o.needed ≡ false) × (has_entry es n ≡ false)) ⊎ (is_refuted s es n o ≡ true)))

-- an obligation of a list has this number, counted on from those before the list
abbrev pub IsNumbered : (before : ℕ) → List Obligation → (number : ℕ) → Obligation → Type 0
IsNumbered before os n o = (i : ℕ) × (n ≡ before + (i + 1)) × (i < length os) × (o ≡ get_or os i o)

-- each obligation of a list passes; by their numbers it is told whether their own forms are of i64
abbrev pub AllPass : Said → List Entry → (fits : List Bool) → (before : ℕ) → List Obligation → Type 0
AllPass s es fits before os = (n : ℕ) (o : Obligation) → IsNumbered before os n o → Passes s es (nth_fits fits n) n o

-- each whose number is below this one passes
abbrev pub PassBelow : Said → List Entry → (fits : List Bool) → (before : ℕ) → List Obligation → (number : ℕ) → Type 0
PassBelow s es fits before os n = (m : ℕ) (o : Obligation) → m < n → IsNumbered before os m o → Passes s es (nth_fits fits m) m o

-- the obligation of this number is not shown, and each before it passes
abbrev pub Stops : Said → List Entry → (fits : List Bool) → (before : ℕ) → List Obligation → (number : ℕ) → Type 0
Stops s es fits before os n = (o : Obligation) × IsNumbered before os n o × IsLacking s es (nth_fits fits n) n o × PassBelow s es fits before os n

-- the own forms of one of them are not of i64, and each before it passes
abbrev pub HasUnfit : Said → List Entry → (fits : List Bool) → (before : ℕ) → List Obligation → Type 0
HasUnfit s es fits before os = (n : ℕ) × (o : Obligation) × IsNumbered before os n o × (nth_fits fits n ≡ false) × PassBelow s es fits before os n

-- of one obligation alone: this is its number, and it is not shown
abbrev pub IsStopped : Said → List Entry → (fit : Bool) → (own : ℕ) → Obligation → (number : ℕ) → Type 0
IsStopped s es fit own o n = (n ≡ own) × IsLacking s es fit n o

-- an error that comes of what is to be shown: `stops` is what its number says, `many` what a statement with too many paths says, `walk`
-- what an error of a walk says
abbrev pub TellsBy : (stops : ℕ → Type 0) → (many : Option ℕ → Type 0) → (walk : WalkError → Type 0) → ShowError → Type 0
TellsBy stops many walk (errors.NotShown n) = stops n
TellsBy stops many walk (errors.ManyPaths s) = many s
TellsBy stops many walk (errors.Walk e) = walk e
TellsBy stops many walk errors.OverBudget = ⊥
TellsBy stops many walk errors.Memory = Unit {0}

-- an error of a walk: `many` is what it says of too many, `unfit` what it says of a form that is not of i64
abbrev pub WalkTells : (many unfit : Type 0) → WalkError → Type 0
WalkTells many unfit walks.TooMany = many
WalkTells many unfit walks.TooLarge = unfit
WalkTells many unfit walks.Memory = Unit {0}

-- 0, where all pass and an entry is past the last obligation, or the number of the first that is not shown
abbrev pub Lacks : Said → List Entry → (fits : List Bool) → List Obligation → (number : ℕ) → Type 0
Lacks s es fits os zero = AllPass s es fits 0 os × (is_past es (length os) ≡ true)
Lacks s es fits os (suc n) = Stops s es fits 0 os (suc n)

-- nothing stops the check: each obligation passes, and no entry is past the last
abbrev pub ArePassed : Said → List Entry → (fits : List Bool) → List Obligation → Type 0
ArePassed s es fits os = AllPass s es fits 0 os × (is_past es (length os) ≡ false)

-- what is said, where these entries are
abbrev pub with_entries : List Entry → Notes → Notes
with_entries es n = record { same = n.same; facts = n.facts; congruences = n.congruences; multiples = n.multiples; ranking = n.ranking; visible = n.visible; quotient = n.quotient; has_entry = has_entry es; is_wide = n.is_wide; joins = n.joins }

-- all that is to be shown, and whether the own forms of each are of i64
abbrev pub owing : {E : Type 0} → Ghosts E → Kernel → Conditions → Notes → List Entry → List Obligation
owing g k c n es = obligations g k c (with_entries es n)

abbrev pub owing_fits : {E : Type 0} → Ghosts E → Kernel → Conditions → Notes → List Entry → List Bool
owing_fits g k c n es = own_fits g k c (with_entries es n)

-- they are listed: few paths from each place, 65,536 obligations at most, and all forms of trees, and what denies their claims, are of i64
abbrev pub AreListed : {E : Type 0} → Ghosts E → Kernel → Conditions → Notes → List Entry → Type 0
AreListed g k c n es = HaveFewPaths (all_trees g k c (with_entries es n)) × (length (owing g k c n es) ≤ 65536) × (trees_fit (all_trees g k c (with_entries es n)) ≡ true)

-- what a certificate says beside its entries
abbrev pub said : Notes → Stating → Said
said n m = record { quotient = n.quotient; stated = m }

-- of a kernel: nothing stops the check, once they are listed
abbrev pub PassesOf : {E : Type 0} → Ghosts E → Kernel → Conditions → Stating → Notes → List Entry → Type 0
PassesOf g k c m n es = ArePassed (said n m) es (owing_fits g k c n es) (owing g k c n es) × AreListed g k c n es

-- once they are listed, 0 or the number of the first that is not shown
abbrev pub LacksOf : {E : Type 0} → Ghosts E → Kernel → Conditions → Stating → Notes → List Entry → (number : ℕ) → Type 0
LacksOf g k c m n es number = AreListed g k c n es × Lacks (said n m) es (owing_fits g k c n es) (owing g k c n es) number

-- once they are listed, the own forms of one are not of i64, and each before it passes
abbrev pub UnfitOf : {E : Type 0} → Ghosts E → Kernel → Conditions → Stating → Notes → List Entry → Type 0
UnfitOf g k c m n es = AreListed g k c n es × HasUnfit (said n m) es (owing_fits g k c n es) 0 (owing g k c n es)

-- what an error of a walk tells: there are too many to be listed; or a form is not of i64, for which they are not listed, or it is one of
-- the own forms of one of them
abbrev pub TellsOfWalk : {E : Type 0} → Ghosts E → Kernel → Conditions → Stating → Notes → List Entry → WalkError → Type 0
TellsOfWalk g k c m n es =
    WalkTells (IsUnlisted g k c (with_entries es n) walks.TooMany) (IsUnlisted g k c (with_entries es n) walks.TooLarge ⊎ UnfitOf g k c m n es)

-- what an error tells of what is to be shown
abbrev pub TellsOwing : {E : Type 0} → Ghosts E → Kernel → Conditions → Stating → Notes → List Entry → ShowError → Type 0
TellsOwing g k c m n es =
    TellsBy (LacksOf g k c m n es) (λ s. IsFirstOfMany s (all_trees g k c (with_entries es n))) (TellsOfWalk g k c m n es)

-- how many steps an item takes at most, by what is said of the kernel's loops
abbrev pub steps_of : Kernel → Notes → ℕ
steps_of k n = cost (turns_at n) k.body

-- what an error tells of a kernel. The budget comes last: an item may take more steps than it has, and nothing else stops the check
abbrev pub TellsOf : {E : Type 0} → Ghosts E → Kernel → Conditions → Stating → Notes → List Entry → ShowError → Type 0
TellsOf g k c m n es (errors.NotShown number) = LacksOf g k c m n es number
TellsOf g k c m n es (errors.ManyPaths s) = IsFirstOfMany s (all_trees g k c (with_entries es n))
TellsOf g k c m n es (errors.Walk e) = TellsOfWalk g k c m n es e
TellsOf g k c m n es errors.OverBudget = PassesOf g k c m n es × (c.budget < steps_of k n)
TellsOf g k c m n es errors.Memory = Unit {0}
