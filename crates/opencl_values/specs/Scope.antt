-- Which names are visible, and what they mean (C99 6.2.1 and 6.2.3).
use Rattle.std.specs.Prelude.{ℕ, List, [], ◌∷◌, Bool, cond, Option, Some, None, bytes_eq}
use Rattle.semantics.specs.Word.{Kind}
use Rattle.semantics.specs.Core.{Site, Array, Term}
use Rattle.opencl_terms.specs.Types.{Scalar, ValueType}
use Rattle.opencl_effects.specs.Marks as marks
use Rattle.opencl_effects.specs.Marks.{Mark}

-- a variable has a slot; an array has the lengths of its dimensions, the outermost first, of which a buffer has none. A private array is a
-- row of a local array, which has one for each item of a group: `lengths` are those of the dimensions of the row. A pointer is an array
-- with an offset, an `int` that its slot has; where that is a private array it has its length and its row, too; where a buffer's elements
-- are seen as ones of another type, `over` is the buffer's scalar. A number is an enumeration's constant, an `int` of these 32 bits; a type
-- is a name that a `typedef` made. What the file declares beside the kernel is not read: such a name has no meaning of its own, but hides
-- built-in functions and constants
pub data Meaning : Type 0 where
  VariableOf : (type : ValueType) (slot : ℕ) (is_constant : Bool) → Meaning
  ArrayOf : (array : Array) (element : ValueType) (lengths : List ℕ) (is_constant : Bool) → Meaning
  OwnOf : (array : Array) (element : ValueType) (lengths : List ℕ) (is_constant : Bool) (row : Term) → Meaning
  PointerOf : (array : Array) (element : ValueType) (is_constant : Bool) (row : Option (ℕ × Term)) (over : Option Scalar) (slot : ℕ) → Meaning
  NumberOf : (bits : ℕ) → Meaning
  TypeOf : (type : ValueType) → Meaning
  UnreadOf : Meaning

pub record Binding : Type 0 where
  pub name : List ℕ
  pub meaning : Meaning

-- one of two, the first where there is one
abbrev pub or_else : {A : Type 0} → Option A → Option A → Option A
or_else (Some a) b = Some a
or_else None b = b

-- names stand in order of their declaration, those of an inner block behind those around it. So the last of a name hides the others
-- (6.2.1p4)
abbrev pub meaning_with : (so_far : Option Meaning) → (visible : List Binding) → (name : List ℕ) → Option Meaning
meaning_with m [] name = m
meaning_with m (b ∷ bs) name = meaning_with (cond (bytes_eq b.name name) (Some b.meaning) m) bs name

abbrev pub meaning_of : (visible : List Binding) → (name : List ℕ) → Option Meaning
meaning_of visible name = meaning_with None visible name

-- the value of an expression with effects that was written out before, by its sort and its site: it is kept in variables from a slot on.
-- All tokens of a macro have one site, so a site alone tells no expressions apart
pub record Drawn : Type 0 where
  pub mark : Mark
  pub type : ValueType
  pub slot : ℕ

-- what the terms of expressions depend on: the kind of ids and sizes, the visible names, and what was written out before
pub record Names : Type 0 where
  pub ids : Kind
  pub visible : List Binding
  pub drawn : List Drawn

abbrev pub drawn_in : List Drawn → Mark → Option Drawn
drawn_in [] m = None
drawn_in (d ∷ ds) m = cond (marks.is_same d.mark m) (Some d) (drawn_in ds m)

abbrev pub drawn_at : Names → marks.Sort → Site → Option Drawn
drawn_at names sort site = drawn_in names.drawn (record { sort = sort; site = site })
