-- What the code's answers stand for.
use Rattle.std.specs.Prelude.{◌≡◌, ℕ, Option, None, Some, Result, Ok, Err}
use Rattle.semantics.specs.Core as core
use Rattle.semantics.specs.Word as word
use Rattle.types.specs.TypeFaults as rules
use Rattle.types.specs.TypeFaults.{Checked}
use Rattle.types.specs.Typing as typing
use Rattle.words.specs.View.{kind}
use Rattle.core_code.specs.View.{site}
use Rattle.words.specs.declared.word.Kind.{Kind}
use Rattle.core_code.specs.View.{array, term}
use Rattle.core_code.specs.declared.tree.Array.{Array}
use Rattle.types.specs.declared.error.TypeFault.{TypeFault}
use Rattle.types.specs.declared.error.TypeFault.TheVariants as faults
use Rattle.types.specs.declared.error.TypeError.{TypeError}
use Rattle.types.specs.declared.error.TypeError.TheVariants as errors
use Rattle.types.specs.declared.conversions.TypedTerm.{TypedTerm}

abbrev pub fault : TypeFault → rules.TypeFault
fault faults.UnknownName = rules.UnknownName
fault faults.NameTwice = rules.NameTwice
fault faults.WrongType = rules.WrongType
fault faults.WriteToConst = rules.WriteToConst
fault faults.ArrayInBlock = rules.ArrayInBlock
fault faults.LoadInCompoundIndex = rules.LoadInCompoundIndex
fault faults.BarrierFlags = rules.BarrierFlags
fault faults.LeftOutWord = rules.LeftOutWord
fault faults.JumpOutsideLoop = rules.JumpOutsideLoop

-- the number that an error is printed under, and its place, where it has one
abbrev pub error_number : TypeError → ℕ
error_number (errors.At f s) = rules.type_fault_number (fault f)
error_number errors.Memory = 90

abbrev pub error_place : TypeError → Option (ℕ × ℕ)
error_place (errors.At f s) = Some (s.line, s.column)
error_place errors.Memory = None

-- an error is the definition's, unless memory was refused
abbrev pub Refuses : {A : Type 0} → TypeError → Checked A → Type 0
Refuses (errors.At f s) answer = answer ≡ rules.refused (fault f) (site s)
Refuses errors.Memory answer = Unit {0}

abbrev pub typed_term : TypedTerm → typing.TypedTerm
typed_term t = typing.typed (kind t.kind) (term t.term)

abbrev pub IsTyped : Result TypedTerm TypeError → Checked typing.TypedTerm → Type 0
IsTyped (Ok t) answer = answer ≡ Ok (typed_term t)
IsTyped (Err e) answer = Refuses e answer

abbrev pub IsArrayOf : Result (Array × Kind) TypeError → Checked (core.Array × word.Kind) → Type 0
IsArrayOf (Ok a) answer = answer ≡ Ok (array a.0, kind a.1)
IsArrayOf (Err e) answer = Refuses e answer

-- the same of any answer, by what its value stands for
abbrev pub Gives : {A B : Type 0} → (A → B) → Result A TypeError → Checked B → Type 0
Gives seen (Ok a) answer = answer ≡ Ok (seen a)
Gives seen (Err e) answer = Refuses e answer
