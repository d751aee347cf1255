-- What the code's names, values and faults stand for.
use denote.Ref.{Bor}
use Rattle.std.specs.Prelude.{ℕ, ◌≡◌, List, map, Option, Some, None, Result, Ok, Err}
use Rattle.semantics.specs.Core as core
use Rattle.core_code.specs.View.{array, site, term}
use Rattle.core_code.specs.declared.tree.Term.{Term}
use Rattle.words.specs.View.{kind}
use Rattle.opencl_terms.specs.Answers.{value_type}
use Rattle.opencl_terms.specs.Types as types
use Rattle.opencl_terms.specs.View.{scalar}
use Rattle.opencl_terms.specs.declared.scalars.Scalar.{Scalar}
use Rattle.opencl_effects.specs.View.{mark}
use Rattle.opencl_values.specs.Singles as singles
use Rattle.opencl_values.specs.Faults as faults
use Rattle.opencl_values.specs.Faults.{Checked}
use Rattle.opencl_values.specs.Scope as scope
use Rattle.opencl_values.specs.declared.error.Construct.{Construct}
use Rattle.opencl_values.specs.declared.error.Construct.TheVariants as constructs
use Rattle.opencl_values.specs.declared.error.Fault.{Fault}
use Rattle.opencl_values.specs.declared.error.Fault.TheVariants as variants
use Rattle.opencl_values.specs.declared.error.ValueError.{ValueError}
use Rattle.opencl_values.specs.declared.error.ValueError.TheVariants as errors
use Rattle.opencl_values.specs.declared.scope.Meaning.{Meaning}
use Rattle.opencl_values.specs.declared.scope.Meaning.TheVariants as meanings
use Rattle.opencl_values.specs.declared.scope.Binding.{Binding}
use Rattle.opencl_values.specs.declared.scope.Drawn.{Drawn}
use Rattle.opencl_values.specs.declared.scope.Names.{Names}
use Rattle.opencl_values.specs.declared.singles.Single.{Single}
use Rattle.opencl_values.specs.declared.wholes.Value.{Value}

abbrev pub construct : Construct → faults.Construct
construct constructs.Vector = faults.Vector
construct constructs.Pointer = faults.Pointer
construct constructs.Effect = faults.Effect
construct constructs.Function = faults.Function
construct constructs.Choice = faults.Choice
construct constructs.Repetition = faults.Repetition
construct constructs.PrivateArray = faults.PrivateArray
construct constructs.InitialList = faults.InitialList
construct constructs.Atomic = faults.Atomic
construct constructs.Image = faults.Image
construct constructs.Long = faults.Long
construct constructs.Half = faults.Half
construct constructs.Double = faults.Double
construct constructs.SizeShift = faults.SizeShift
construct constructs.DeviceSize = faults.DeviceSize
construct constructs.Outside = faults.Outside
construct constructs.LocalScalar = faults.LocalScalar
construct constructs.ConstantVariable = faults.ConstantVariable

abbrev pub fault : Fault → faults.Fault
fault variants.UnknownName = faults.UnknownName
fault variants.NameTwice = faults.NameTwice
fault variants.WrongType = faults.WrongType
fault variants.WriteToConst = faults.WriteToConst
fault variants.BarrierFlags = faults.BarrierFlags
fault variants.JumpOutside = faults.JumpOutside
fault variants.TooMany = faults.TooMany
fault variants.Unset = faults.Unset
fault variants.LocalLength = faults.LocalLength
fault (variants.LeftOut c) = faults.LeftOut (construct c)

-- the number that an error is printed under
abbrev pub error_number : ValueError → ℕ
error_number (errors.At f s) = faults.fault_number (fault f)
error_number errors.Memory = 90

-- an error is the definition's, unless memory was refused
abbrev pub Refuses : {A : Type 0} → ValueError → Checked A → Type 0
Refuses (errors.At f s) answer = answer ≡ faults.refused (fault f) (site s)
Refuses errors.Memory answer = Unit {0}

-- an answer is the definition's, by what its value stands for
abbrev pub Gives : {A B : Type 0} → (A → B) → Result A ValueError → Checked B → Type 0
Gives seen (Ok a) answer = answer ≡ Ok (seen a)
Gives seen (Err e) answer = Refuses e answer

abbrev pub maybe_row : Option (ℕ × Term) → Option (ℕ × core.Term)
maybe_row None = None
maybe_row (Some r) = Some (r.0, term r.1)

abbrev pub maybe_scalar : Option Scalar → Option types.Scalar
maybe_scalar None = None
maybe_scalar (Some s) = Some (scalar s)

abbrev pub meaning : Meaning → scope.Meaning
meaning (meanings.Variable t slot constant) = scope.VariableOf (value_type t) slot constant
meaning (meanings.Array a t lengths constant) = scope.ArrayOf (array a) (value_type t) lengths.items constant
meaning (meanings.Own a t lengths constant row) = scope.OwnOf (array a) (value_type t) lengths.items constant (term row)
meaning (meanings.Pointer a t constant row over slot) = scope.PointerOf (array a) (value_type t) constant (maybe_row row) (maybe_scalar over) slot
meaning (meanings.Number bits) = scope.NumberOf bits
meaning (meanings.Type t) = scope.TypeOf (value_type t)
meaning meanings.Unread = scope.UnreadOf

abbrev pub meaning_in : Option (Bor Meaning) → Option scope.Meaning
meaning_in None = None
meaning_in (Some m) = Some (meaning m.now)

abbrev pub binding : Binding → scope.Binding
binding b = record { name = b.name.now; meaning = meaning b.meaning }

abbrev pub bindings : List Binding → List scope.Binding
bindings visible = map binding visible

abbrev pub drawn : Drawn → scope.Drawn
drawn d = record { mark = mark d.mark; type = value_type d.of; slot = d.slot }

abbrev pub drawn_by : Option (Bor Drawn) → Option scope.Drawn
drawn_by None = None
drawn_by (Some d) = Some (drawn d.now)

abbrev pub maybe_drawn : Option Drawn → Option scope.Drawn
maybe_drawn None = None
maybe_drawn (Some d) = Some (drawn d)

abbrev pub all_drawn : List Drawn → List scope.Drawn
all_drawn ds = map drawn ds

abbrev pub names : Names → scope.Names
names n = record { ids = kind n.ids; visible = bindings n.visible.now; drawn = all_drawn n.drawn.now }

abbrev pub single : Single → singles.Single
single v = singles.single (scalar v.scalar) (term v.term)

abbrev pub singles_seen : List Single → List singles.Single
singles_seen vs = map single vs

abbrev pub value : Value → types.Value
value v = types.value_of (value_type v.of) (map term v.terms.items)

abbrev pub values : List Value → List types.Value
values vs = map value vs
