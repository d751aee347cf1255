-- How many variables a place has.
use Rattle.std.specs.Prelude.{ℕ, Option, ◌≡◌, ◌||◌, true, length}
use Rattle.std.specs.Option.{is_some}
use Rattle.semantics.specs.Launch.{Kernel}
use Rattle.obligations.specs.Roots.{kinds}

-- a barrier and a loop have the kernel's variables; of the entry nothing is asked
abbrev pub HasSlots : Kernel → Option ℕ → Option ℕ → ℕ → Type 0
HasSlots k anchor head n = (is_some anchor || is_some head) ≡ true → n ≡ length (kinds k)
