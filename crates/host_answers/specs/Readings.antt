-- What the code has read of a kernel and its conditions, and what it answers of a launch of it.
use Rattle.std.specs.Prelude.{◌≡◌, ◌≢◌, ℕ, List, Bool, Option, Some, None, Result, Ok, Err, Vec, IsOk, IfErr}
use Rattle.std.specs.declared.alloc.Global.{Global}
use Rattle.semantics.specs.Launch as launch
use Rattle.semantics.specs.Conditions.{ConditionsFit}
use Rattle.core_code.specs.View.{kernel as core_seen}
use Rattle.types.specs.Scope.{Devices}
use Rattle.kernel_reading.specs.Answers.{kernel_seen}
use Rattle.launch.specs.View.{conditions as conditions_seen}
use Rattle.launch.specs.declared.conditions.Conditions.{Conditions}
use Rattle.launch_text.specs.View.{lined}
use Rattle.host_launches.specs.declared.given.Argument.{Argument}
use Rattle.host_launches.specs.declared.given.Range.{Range}
use Rattle.host_launches.specs.declared.given.Refusal.{Refusal}
use Rattle.host_launches.specs.declared.shapes.Shape.{Shape}
use Rattle.host_launches.specs.Launches.{Suits, AllMeet}
use Rattle.host_launches.specs.Refusing.{refusal, Tells}
use Rattle.host_launches.specs.Telling.{all_told}
use Rattle.host_shapes.specs.Meant.{all_meant}
use Rattle.host_shapes.specs.Shapes.{shapes_of}
use Rattle.host_answers.specs.Options.{source_for}
use Rattle.host_answers.specs.Answers.{AreRead}
use Rattle.host_answers.specs.declared.meeting.Reading.{Reading}

pub record IsReading (d : Devices) (kernel conditions : List ℕ) (r : Reading) : Type 0 where
  pub are_read : AreRead d kernel conditions (kernel_seen r.typed) (lined r.conditions)
  pub fit : ConditionsFit (core_seen r.typed.1) (conditions_seen r.conditions)
  pub shapes : all_meant r.shapes ≡ shapes_of (source_for d kernel conditions)

-- an answer of a launch, where the parameters ask for these
pub record Answers (k : launch.Kernel) (c : Conditions) (r : Range) (gs : List Argument) (is_held : Bool) (ss : List Shape) (answer : Result (Unit {0}) Refusal) : Type 0 where
  pub told : Tells answer (all_told k ss c r gs is_held)
  pub numbered : IfErr answer (λ e. e.number ≢ 0)
  pub suits : IsOk answer → Suits k ss r gs
  pub met : IsOk answer → AllMeet k ss (conditions_seen c) r gs

-- where one of them asks for nothing, no argument is its own
abbrev pub AnswersBy : launch.Kernel → Conditions → Range → List Argument → (is_held : Bool) → Option (Vec Shape Global) → Result (Unit {0}) Refusal → Type 0
AnswersBy k c r gs is_held None answer = answer ≡ Err (refusal 41 0)
AnswersBy k c r gs is_held (Some ss) answer = Answers k c r gs is_held ss.items answer
