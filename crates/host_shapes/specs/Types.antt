-- Parameters of OpenCL C by their types (OpenCL 1.2, 6.1 and 6.9 a and k).
use Rattle.std.specs.Prelude.{ℕ, List, [], ◌∷◌, ◌++◌, length, Bool, true, false, cond, nat_eq, nat_le, bytes_eq, Option, Some, None, Result, Ok, Err}
use Rattle.texts.specs.Surface as surface
use Rattle.semantics.specs.Word as word
use Rattle.host_launches.specs.declared.shapes.Scalar.{Scalar}
use Rattle.host_launches.specs.declared.shapes.Scalar.TheVariants as scalars
use Rattle.launch_text.specs.HeadReading.{LocalCount}
use Rattle.opencl_files.specs.FileTree.{Parameter, KernelText}
use Rattle.opencl_terms.specs.Types as types
use Rattle.opencl_tree.specs.Types.{Space, Global, Local, Constant, Private, Qualifiers}
use Rattle.opencl_tree.specs.Tree.{Expression}
use Rattle.opencl_values.specs.Faults.{Checked}
use Rattle.opencl_values.specs.Names.{type_of_base}
use Rattle.opencl_values.specs.Scope.{Binding}
use Rattle.opencl_reading.specs.FileTypes.{with_aliases}
use Rattle.host_shapes.specs.Meant.{Meant, ValueOf, BufferOf, LocalOf}

-- those whose size is the device's own are none
abbrev pub scalar_of : types.Scalar → Option Scalar
scalar_of types.Boolean = None
scalar_of types.Char = Some scalars.Char
scalar_of types.Uchar = Some scalars.Uchar
scalar_of types.Short = Some scalars.Short
scalar_of types.Ushort = Some scalars.Ushort
scalar_of types.Int = Some scalars.Int
scalar_of types.Uint = Some scalars.Uint
scalar_of types.Long = Some scalars.Long
scalar_of types.Size = None
scalar_of types.Float = Some scalars.Float

abbrev pub after : {A B : Type 0} → Option A → (A → Option B) → Option B
after None go = None
after (Some a) go = go a

-- a scalar and a width, of at most 16
abbrev pub element_in : types.ValueType → Option (Scalar × ℕ)
element_in t = after (scalar_of t.scalar) (λ s. cond (nat_le t.width 16) (Some (s, t.width)) None)

abbrev pub element_by : Checked types.ValueType → Option (Scalar × ℕ)
element_by (Ok t) = element_in t
element_by (Err e) = None

abbrev pub element_of : (visible : List Binding) → Parameter → Option (Scalar × ℕ)
element_of names p = element_by (type_of_base names p.base p.site)

abbrev pub count_among : List LocalCount → (name : List ℕ) → Option ℕ
count_among [] name = None
count_among (l ∷ ls) name = cond (bytes_eq l.name name) (Some l.count) (count_among ls name)

-- what the head says of the name
abbrev pub count_of : List LocalCount → (name : Option (List ℕ)) → Option ℕ
count_of ls None = None
count_of ls (Some name) = count_among ls name

-- so many components
abbrev pub local_with : Scalar × ℕ → Option ℕ → Option Meant
local_with e None = None
local_with e (Some count) = Some (LocalOf e.0 1 count)

-- without a star a value; a pointer is one into global, constant or local memory
abbrev pub value_in : Scalar × ℕ → Option Space → Option Meant
value_in e None = Some (ValueOf e.0 e.1)
value_in e (Some Private) = Some (ValueOf e.0 e.1)
value_in e (Some s) = None

abbrev pub pointer_in : List LocalCount → Parameter → Scalar × ℕ → Option Space → Option Meant
pointer_in ls p e None = None
pointer_in ls p e (Some Private) = None
pointer_in ls p e (Some Global) = Some (BufferOf e.0 e.1)
pointer_in ls p e (Some Constant) = Some (BufferOf e.0 e.1)
pointer_in ls p e (Some Local) = local_with e (count_of ls p.name)

abbrev pub by_stars : List LocalCount → Parameter → Scalar × ℕ → Option Meant
by_stars ls p e =
    cond (nat_eq (length p.stars) 0) (value_in e p.qualifiers.space) (cond (nat_eq (length p.stars) 1) (pointer_in ls p e p.qualifiers.space) None)

abbrev pub shape_with : List LocalCount → Parameter → Scalar × ℕ → Option Meant
shape_with ls p e = cond (nat_eq (length p.dimensions) 0) (by_stars ls p e) None

abbrev pub shape_of : (visible : List Binding) → List LocalCount → Parameter → Option Meant
shape_of names ls p = after (element_of names p) (shape_with ls p)

-- behind those of the parameters in front
abbrev pub with_shapes : List Meant → (visible : List Binding) → List LocalCount → List Parameter → Option (List Meant)
with_shapes done names ls [] = Some done
with_shapes done names ls (p ∷ ps) = after (shape_of names ls p) (λ m. with_shapes (done ++ m ∷ []) names ls ps)

abbrev pub shapes_in : List LocalCount → KernelText → Option (List Meant)
shapes_in ls t = with_shapes [] (with_aliases t.aliases []) ls t.header.parameters

-- parameters of a plain text
abbrev pub number_of : word.Kind → Option Scalar
number_of word.Int = Some scalars.Int
number_of word.Uint = Some scalars.Uint
number_of word.Size = None

abbrev pub plain_buffer : word.Kind → Option Meant
plain_buffer k = after (number_of k) (λ s. Some (BufferOf s 1))

abbrev pub plain_value : word.Kind → Option Meant
plain_value k = after (number_of k) (λ s. Some (ValueOf s 1))

abbrev pub plain_shape : surface.Parameter → Option Meant
plain_shape (surface.Buffer constant kind site name) = plain_buffer kind
plain_shape (surface.Value kind site name) = plain_value kind

abbrev pub with_plain : List Meant → List surface.Parameter → Option (List Meant)
with_plain done [] = Some done
with_plain done (p ∷ ps) = after (plain_shape p) (λ m. with_plain (done ++ m ∷ []) ps)
