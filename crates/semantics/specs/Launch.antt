-- A kernel's outer form, and what a launch gives it (OpenCL 1.2, 3.2 and 5.8).
use Rattle.std.specs.Prelude.{ℕ, ◌≤◌, ◌<◌, ◌^◌, ◌*◌, ◌≡◌, ℤ, pos, List, length, true}
use Rattle.std.specs.List.{All, AllZip}
use Rattle.semantics.specs.Word.{Kind, Word, in_kind}
use Rattle.semantics.specs.Core.{Statements}

-- one of each dimension
pub record Three (A : Type 0) : Type 0 where
  pub x : A
  pub y : A
  pub z : A

abbrev pub product : Three ℕ → ℕ
product t = t.x * t.y * t.z

pub record LocalArray : Type 0 where
  pub kind : Kind
  pub length : ℕ

-- local sizes; element kinds of the buffer parameters; kinds of the value parameters, which take the first slots;
-- local arrays; kinds of the private variables, which take the slots that follow; the body
pub record Kernel : Type 0 where
  pub sizes : Three ℕ
  pub buffers : List Kind
  pub arguments : List Kind
  pub arrays : List LocalArray
  pub variables : List Kind
  pub body : Statements

-- an operation that is not reckoned, as it is done: which one, where it stands, by which item and when (by the trail of what it has
-- left), and with which operands
pub record Operation : Type 0 where
  pub operation : ℕ
  pub place : ℕ
  pub item : ℕ
  pub moment : List ℕ
  pub first : ℤ
  pub second : ℤ
  pub third : ℤ

-- what a device gives for each: any numbers, of which the 32 bits are taken (ours)
abbrev pub Machine : Type 0
Machine = Operation → ℤ

-- the one that gives 0: texts of launches say nothing of a machine, and mean this one (ours)
abbrev pub silent : Machine
silent o = pos 0

-- group counts, an argument for each value parameter, a list of numbers for each buffer parameter, each with memory of
-- its own, the word that fills local arrays, and what the device gives for operations that are not reckoned
pub record Launch : Type 0 where
  pub groups : Three ℕ
  pub arguments : List Word
  pub buffers : List (List ℤ)
  pub fill : ℕ
  pub machine : Machine

abbrev pub IsCount : ℕ → Type 0
IsCount n = (1 ≤ n) × (n ≤ 65536)

-- an argument is a number of its parameter's kind
abbrev pub IsArgument : Kind → Word → Type 0
IsArgument k w = (w.kind ≡ k) × (in_kind k w.value ≡ true)

-- a buffer has numbers of its parameter's kind, at most as many as a `uint` counts
abbrev pub IsBuffer : Kind → List ℤ → Type 0
IsBuffer k b = (length b ≤ 4294967295) × All (λ z. in_kind k z ≡ true) b

-- the launch is one of this kernel: one argument a value parameter, one buffer a buffer parameter
pub record Fits (kernel : Kernel) (launch : Launch) : Type 0 where
  pub count_x : IsCount launch.groups.x
  pub count_y : IsCount launch.groups.y
  pub count_z : IsCount launch.groups.z
  pub arguments : AllZip IsArgument kernel.arguments launch.arguments
  pub buffers : AllZip IsBuffer kernel.buffers launch.buffers
  pub fill : launch.fill < 2 ^ 31
