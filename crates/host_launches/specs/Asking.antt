-- What the code has of a host's numbers.
use Rattle.std.specs.Prelude.{◌≡◌, ◌⊎◌, [], ℕ, List, map, Result, Ok, Err}
use Rattle.semantics.specs.Launch.{Kernel}
use Rattle.words.specs.View.{word}
use Rattle.launch.specs.declared.launches.Counts.{Counts}
use Rattle.host_launches.specs.declared.asking.Asked.{Asked}
use Rattle.host_launches.specs.declared.given.Argument.{Argument}
use Rattle.host_launches.specs.declared.given.Range.{Range}
use Rattle.host_launches.specs.declared.given.Refusal.{Refusal}
use Rattle.host_launches.specs.declared.shapes.Shape.{Shape}
use Rattle.host_launches.specs.Refusing.{memory}
use Rattle.host_launches.specs.Numbers.{words_of, lengths_of}
use Rattle.host_launches.specs.Telling.{groups_told}

-- an answer is that one, unless memory was refused
abbrev pub GivesGroups : Result Counts Refusal → Result Counts Refusal → Type 0
GivesGroups (Ok g) told = told ≡ Ok g
GivesGroups (Err e) told = (e ≡ memory) ⊎ (told ≡ Err e)

-- of numbers that are those of a launch
pub record HasNumbers (g : Counts) (ss : List Shape) (n : ℕ) (gs : List Argument) (a : Asked) : Type 0 where
  pub groups : a.launch.groups ≡ g
  pub words : map word a.launch.arguments.items ≡ words_of ss gs
  pub lengths : a.lengths.items ≡ lengths_of ss gs
  pub fill : a.launch.fill ≡ n
  pub buffers : a.launch.buffers.words.items ≡ []

abbrev pub GivesNumbers : Counts → List Shape → (fill : ℕ) → List Argument → Result Asked Refusal → Type 0
GivesNumbers g ss fill gs (Ok a) = HasNumbers g ss fill gs a
GivesNumbers g ss fill gs (Err e) = e ≡ memory

-- the launch has the numbers, and no buffers as yet
pub record IsAsked (k : Kernel) (ss : List Shape) (r : Range) (gs : List Argument) (a : Asked) : Type 0 where
  pub told : groups_told k ss r gs ≡ Ok a.launch.groups
  pub numbers : HasNumbers a.launch.groups ss r.fill gs a

abbrev pub GivesAsked : Kernel → List Shape → Range → List Argument → Result Asked Refusal → Type 0
GivesAsked k ss r gs (Ok a) = IsAsked k ss r gs a
GivesAsked k ss r gs (Err e) = (e ≡ memory) ⊎ (groups_told k ss r gs ≡ Err e)
