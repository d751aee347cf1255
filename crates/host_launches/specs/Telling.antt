-- What a host is told of its launch: that it meets the conditions, or the first thing that is wrong with it.
use Rattle.std.specs.Prelude.{ℕ, List, [], ◌∷◌, length, Bool, true, false, Option, None, Some, Result, Ok, Err}
use Rattle.semantics.specs.Launch as launches
use Rattle.launch.specs.Unmet.{unmet_by}
use Rattle.launch.specs.View.{counts}
use Rattle.launch.specs.declared.conditions.Content.{Content}
use Rattle.launch.specs.declared.conditions.Conditions.{Conditions}
use Rattle.launch.specs.declared.launches.Counts.{Counts}
use Rattle.host_launches.specs.declared.given.Argument.{Argument}
use Rattle.host_launches.specs.declared.given.Range.{Range}
use Rattle.host_launches.specs.declared.given.Refusal.{Refusal}
use Rattle.host_launches.specs.declared.shapes.Shape.{Shape}
use Rattle.host_launches.specs.Refusing.{refusal, fine, on, when}
use Rattle.host_launches.specs.Sizes.{groups_of}
use Rattle.host_launches.specs.Fitting.{arguments_fit}
use Rattle.host_launches.specs.Kinds.{are_parameters}
use Rattle.host_launches.specs.Numbers.{words_of, lengths_of}

-- the launch of these numbers, with no buffers as yet
abbrev pub launch_of : Counts → Range → List Shape → List Argument → launches.Launch
launch_of g r ss gs = record { groups = counts g; arguments = words_of ss gs; buffers = []; fill = r.fill; machine = launches.silent }

-- the numbers are those of a launch of the kernel
abbrev pub groups_told : launches.Kernel → List Shape → Range → List Argument → Result Counts Refusal
groups_told k ss r gs =
    on (groups_of k.sizes r) (λ g. on (arguments_fit ss gs) (λ u. when (are_parameters k ss) 41 (length ss) (Ok g)))

abbrev pub on_line : Option ℕ → Result (Unit {0}) Refusal → Result (Unit {0}) Refusal
on_line None next = next
on_line (Some line) next = Err (refusal 40 line)

-- a line says what a buffer holds, and the host does not answer for it
abbrev pub unsaid : (is_held : Bool) → List Content → Result (Unit {0}) Refusal
unsaid true xs = fine
unsaid false [] = fine
unsaid false (x ∷ xs) = Err (refusal 45 x.line)

abbrev pub met_told : Conditions → launches.Launch → (lengths : List ℕ) → (is_held : Bool) → Result (Unit {0}) Refusal
met_told c l ns is_held = on_line (unmet_by c l ns) (unsaid is_held c.contents.items)

abbrev pub all_told : launches.Kernel → List Shape → Conditions → Range → List Argument → (is_held : Bool) → Result (Unit {0}) Refusal
all_told k ss c r gs is_held = on (groups_told k ss r gs) (λ g. met_told c (launch_of g r ss gs) (lengths_of ss gs) is_held)
