-- A kernel of one item that sets its variable to what the device gives.
use Rattle.std.proofs.Common.{◌≡◌, ◌≢◌, ℕ, ℤ, pos, List, [], ◌∷◌, Option, Some, None, refl, ap, ◌∙◌, sym, get_or}
use Rattle.semantics.specs.Word.{Uint, Exact, zero_word}
use Rattle.semantics.specs.Core.{Term, Literal, Opaque, Set, none, one}
use Rattle.semantics.specs.Launch.{Three, Machine, silent, Kernel, Launch}
use Rattle.semantics.specs.Machines.{with_machine}
use Rattle.semantics.specs.Setup.{Setup, group_size, group_count}
use Rattle.semantics.specs.Evaluation.{evaluate}
use Rattle.semantics.specs.Ask.{ask}
use Rattle.semantics.specs.Solo.{opening}
use Rattle.semantics.specs.World.{World, Event, Step, opening_world, put_item, happens, run}

abbrev unit : Three ℕ
unit = record { x = 1; y = 1; z = 1 }

abbrev nought : Term
nought = Literal Uint (pos 0)

abbrev kernel : Kernel
kernel = record { sizes = unit; buffers = []; arguments = []; arrays = []; variables = Uint ∷ []; body = one (Set 0 0 (Opaque 0 0 Uint nought nought nought)) none }

abbrev launch : Launch
launch = record { groups = unit; arguments = []; buffers = []; fill = 0; machine = silent }

abbrev pub setup : Setup
setup = record { kernel = kernel; launch = launch; width = Exact }

abbrev pub loud : Machine
loud o = pos 1

abbrev pub events : List Event
events = Step 0 ∷ []

-- what the variable of the item is in the end
abbrev variable : Option World → ℤ
variable None = pos 2
variable (Some w) = (get_or (w.items 0).variables 0 zero_word).value

abbrev on : Machine → Option World
on m = run (with_machine m setup) events (opening_world (with_machine m setup))

silently : variable (on silent) ≡ pos 0
unfolding happens opening_world opening put_item ask evaluate group_size group_count
silently = refl

loudly : variable (on loud) ≡ pos 1
unfolding happens opening_world opening put_item ask evaluate group_size group_count
loudly = refl

pub differ : on silent ≢ on loud
differ h = let e : pos 0 ≡ pos 1 = sym silently ∙ ap variable h ∙ loudly in cc
