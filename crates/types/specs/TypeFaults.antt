-- Why a tree is no well-typed kernel, and where (ours).
use Rattle.std.specs.Prelude.{ℕ, Bool, true, false, Option, Some, None, Result, Ok, Err}
use Rattle.semantics.specs.Core.{Site}

pub data TypeFault : Type 0 where
  UnknownName : TypeFault
  NameTwice : TypeFault
  WrongType : TypeFault
  WriteToConst : TypeFault
  ArrayInBlock : TypeFault
  LoadInCompoundIndex : TypeFault
  BarrierFlags : TypeFault
  LeftOutWord : TypeFault
  JumpOutsideLoop : TypeFault

-- the number that each is printed under
abbrev pub type_fault_number : TypeFault → ℕ
type_fault_number UnknownName = 20
type_fault_number NameTwice = 21
type_fault_number WrongType = 22
type_fault_number WriteToConst = 23
type_fault_number ArrayInBlock = 24
type_fault_number LoadInCompoundIndex = 25
type_fault_number BarrierFlags = 26
type_fault_number LeftOutWord = 27
type_fault_number JumpOutsideLoop = 28

-- what typing gives, or its first fault with its place
abbrev pub Checked : Type 0 → Type 0
Checked A = Result A (TypeFault × Site)

abbrev pub refused : {A : Type 0} → TypeFault → Site → Checked A
refused fault site = Err (fault, site)

-- goes on from a value
abbrev pub then : {A B : Type 0} → Checked A → (A → Checked B) → Checked B
then (Ok a) go = go a
then (Err e) go = Err e

abbrev pub when : {A : Type 0} → Bool → TypeFault → Site → A → Checked A
when true fault site a = Ok a
when false fault site a = Err (fault, site)

abbrev pub found : {A : Type 0} → Option A → TypeFault → Site → Checked A
found (Some a) fault site = Ok a
found None fault site = Err (fault, site)
