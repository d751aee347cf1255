-- The number of a refusal, and where it points.
use Rattle.std.specs.Prelude.{ℕ, Option, Some, None}
use Rattle.facts.specs.Numbers as walk_numbers
use Rattle.facts.specs.declared.error.WalkError.{WalkError}
use Rattle.facts.specs.declared.error.WalkError.TheVariants as walks
use Rattle.walk.specs.declared.error.FindError.{FindError}
use Rattle.walk.specs.declared.error.FindError.TheVariants as finds
use Rattle.entry_check.specs.declared.error.Pointer.{Pointer}
use Rattle.entry_check.specs.declared.error.Pointer.TheVariants.{At, Number}
use Rattle.entry_check.specs.declared.error.ShowError.{ShowError}
use Rattle.entry_check.specs.declared.error.ShowError.TheVariants as shows

-- 90 is want of memory, everywhere
abbrev pub show_number : ShowError → ℕ
show_number (shows.NotShown n) = 52
show_number (shows.ManyPaths s) = 53
show_number (shows.Walk e) = walk_numbers.error_number e
show_number shows.OverBudget = 56
show_number shows.Memory = 90

abbrev pub walk_place : WalkError → Option Pointer
walk_place walks.TooMany = Some (At 1 1)
walk_place walks.TooLarge = None
walk_place walks.Memory = None

-- what is not shown, to the number of an obligation, or 0; where a statement has too many paths the source tells where it is
abbrev pub show_place : ShowError → Option Pointer
show_place (shows.NotShown n) = Some (Number n)
show_place (shows.ManyPaths s) = None
show_place (shows.Walk e) = walk_place e
show_place shows.OverBudget = None
show_place shows.Memory = None

abbrev pub show_of : FindError → ShowError
show_of (finds.ManyPaths s) = shows.ManyPaths s
show_of (finds.Walk e) = shows.Walk e
