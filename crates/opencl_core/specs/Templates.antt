-- The functions of a file, each written out once, apart from all kernels, to be put where it is called (C99 6.5.2.2, 6.9.1; OpenCL 1.2,
-- 6.8). The slots of such a text are counted from 0, its statements from 1; its buffers are its parameters that are pointers.
use Rattle.std.specs.Prelude.{ℕ, List, [], ◌∷◌, Bool, true, false, cond, ◌||◌, Option, None, Some, Ok, Err, bytes_eq}
use Rattle.semantics.specs.Word.{Kind}
use Rattle.semantics.specs.Core as core
use Rattle.kernel_names.specs.NameMap.{Variable, Standing}
use Rattle.opencl_terms.specs.Types.{ValueType}
use Rattle.opencl_effects.specs.Effects as effects
use Rattle.opencl_values.specs.Faults.{Checked}

-- a parameter: a value in slots, one for each component, or an array of a space with the type of its elements, and with the slot of an
-- offset, unless it is a whole array
pub data Taken : Type 0 where
  TakesValue : (type : ValueType) (slot : ℕ) → Taken
  TakesArray : (space : core.Space) (element : ValueType) (is_constant : Bool) (offset : Option ℕ) → Taken

-- the value that a function returns is in slots from one on
pub record Returned : Type 0 where
  pub type : ValueType
  pub slot : ℕ

pub record Text : Type 0 where
  pub parameters : List Taken
  pub result : Option Returned
  pub slots : List Kind
  pub count : ℕ
  pub body : core.Statements
  pub standings : List Standing
  pub variables : List Variable

-- a function is written out for whole arrays, and once more for pointers with an offset. Where it could not be, it has the fault, which
-- counts where it is called. `stores` says whether it may store to what its parameters point to, or meets a barrier
pub record Template : Type 0 where
  pub name : List ℕ
  pub stores : Bool
  pub whole : Checked Text
  pub moved : Checked Text

abbrev pub is_named : List Template → (name : List ℕ) → Bool
is_named [] name = false
is_named (t ∷ ts) name = bytes_eq t.name name || is_named ts name

abbrev pub unless : Bool → Template → Option Template
unless true t = None
unless false t = Some t

-- the function of a name, unless there are two (ours: some compilers know overloaded functions)
abbrev pub template_named : List Template → (name : List ℕ) → Option Template
template_named [] name = None
template_named (t ∷ ts) name = cond (bytes_eq t.name name) (unless (is_named ts name) t) (template_named ts name)

-- whether a barrier is met in statements
abbrev mutual
  pub waits : core.Statement → Bool
  waits (core.Set n slot t) = false
  waits (core.Store n a s i t) = false
  waits (core.If n t a b) = any_waits a || any_waits b
  waits (core.Loop n t body update) = any_waits body || any_waits update
  waits (core.Barrier n local global) = true
  waits (core.Return n) = false
  waits (core.Break n loop) = false
  waits (core.Continue n loop) = false

  pub any_waits : core.Statements → Bool
  any_waits core.none = false
  any_waits (core.one s ss) = waits s || any_waits ss

abbrev pub text_waits : Checked Text → Bool
text_waits (Ok x) = any_waits x.body
text_waits (Err e) = false

-- (what stands beside a call is evaluated before it or behind it: a barrier between them orders accesses as a store does)
abbrev pub as_helper : Template → effects.Helper
as_helper t = record { name = t.name; stores = t.stores }

-- what a `return` does: a kernel ends; the value of a function goes into a slot, and it is the last statement on its way
pub data Returning : Type 0 where
  OfKernel : Returning
  OfFunction : (result : Option Returned) → Returning
