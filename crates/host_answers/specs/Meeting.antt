-- What a host is promised of a launch.
use Rattle.std.specs.Prelude.{◌≡◌, ◌⊎◌, ℕ, List, [], map, Bool, Some, None, Err}
use Rattle.std.specs.List.{All}
use Rattle.semantics.specs.Word.{Width}
use Rattle.semantics.specs.Launch.{Launch}
use Rattle.semantics.specs.Conditions.{IsHeld}
use Rattle.semantics.specs.Setup.{at_launch, on_device}
use Rattle.semantics.specs.Headline.{Headline}
use Rattle.types.specs.Scope.{Devices}
use Rattle.kernel_reading.specs.Kernels.{Kernel}
use Rattle.launch.specs.declared.conditions.Conditions.{Conditions}
use Rattle.launch_text.specs.ConditionsReading.{Lined, meant}
use Rattle.launch_text.specs.View.{lined}
use Rattle.host_launches.specs.declared.given.Argument.{Argument}
use Rattle.host_launches.specs.declared.given.Range.{Range}
use Rattle.host_launches.specs.declared.shapes.Shape.{Shape}
use Rattle.host_launches.specs.Launches.{IsLaunchOf, Suits, AllMeet}
use Rattle.host_launches.specs.Refusing.{refusal}
use Rattle.host_launches.specs.Telling.{all_told}
use Rattle.host_shapes.specs.Meant as shapes
use Rattle.host_shapes.specs.Shapes.{shapes_of}
use Rattle.host_answers.specs.Options.{source_for}
use Rattle.host_answers.specs.Answers.{AreRead, IsTrueRefusal}
use Rattle.host_answers.specs.declared.answer.Answer.{Answer}

-- the parameters of the text ask for these
abbrev pub AreShapes : Devices → (kernel conditions : List ℕ) → List Shape → Type 0
AreShapes d kernel conditions ss = shapes_of (source_for d kernel conditions) ≡ Some (map shapes.meant ss)

-- the numbers are those of a launch of the kernel, and each launch of these numbers whose buffers hold what the lines say meets the conditions
pub record IsMet (d : Devices) (kernel conditions : List ℕ) (r : Range) (gs : List Argument) (k : Kernel) (c : Lined) (ss : List Shape) : Type 0 where
  pub are_read : AreRead d kernel conditions k c
  pub are_shapes : AreShapes d kernel conditions ss
  pub suits : Suits k.core ss r gs
  pub all_meet : AllMeet k.core ss (meant c) r gs

abbrev pub AreMet : Devices → (kernel conditions : List ℕ) → Range → List Argument → Type 0
AreMet d kernel conditions r gs = (k : Kernel) × (c : Lined) × (ss : List Shape) × IsMet d kernel conditions r gs k c ss

-- the first thing that is wrong with the launch is told
pub record IsUnmet (d : Devices) (kernel conditions : List ℕ) (r : Range) (gs : List Argument) (is_held : Bool) (a : Answer) (k : Kernel) (c : Conditions) (ss : List Shape) : Type 0 where
  pub are_read : AreRead d kernel conditions k (lined c)
  pub are_shapes : AreShapes d kernel conditions ss
  pub told : all_told k.core ss c r gs is_held ≡ Err (refusal a.number a.place)
  pub column : a.column ≡ 0

-- a parameter has a type of which no size is known
pub record HasNoShapes (d : Devices) (kernel conditions : List ℕ) (a : Answer) : Type 0 where
  pub are_none : shapes_of (source_for d kernel conditions) ≡ None
  pub number : a.number ≡ 41
  pub place : a.place ≡ 0

abbrev pub IsTrueUnmet : Devices → (kernel conditions : List ℕ) → Range → List Argument → (is_held : Bool) → Answer → Type 0
IsTrueUnmet d kernel conditions r gs is_held a =
    IsTrueRefusal d kernel conditions [] a ⊎ (HasNoShapes d kernel conditions a ⊎ ((a.number ≡ 90)
    ⊎ ((k : Kernel) × (c : Conditions) × (ss : List Shape) × IsUnmet d kernel conditions r gs is_held a k c ss)))

-- at each launch of these numbers whose buffers hold what the lines say the headline holds, however many bits sizes have
pub record IsSafeLaunch (d : Devices) (kernel conditions : List ℕ) (r : Range) (gs : List Argument) (k : Kernel) (c : Lined) (ss : List Shape) : Type 0 where
  pub is_met : IsMet d kernel conditions r gs k c ss
  pub headline : (w : Width) (l : Launch) → IsLaunchOf k.core ss r gs l → All (IsHeld l) (meant c).contents → Headline (on_device w (at_launch k.core l)) (meant c).budget

abbrev pub AreSafeLaunches : Devices → (kernel conditions : List ℕ) → Range → List Argument → Type 0
AreSafeLaunches d kernel conditions r gs = (k : Kernel) × (c : Lined) × (ss : List Shape) × IsSafeLaunch d kernel conditions r gs k c ss
