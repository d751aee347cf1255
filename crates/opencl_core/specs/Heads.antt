-- The parameters of kernels (OpenCL 1.2, 6.9 a and k).
use Rattle.std.specs.Prelude.{ℕ, ◌+◌, List, [], ◌∷◌, ◌++◌, length, Bool, true, false, cond, not, ◌||◌, Option, None, Some, Ok, bytes_eq, codes, nat_eq, nat_lt}
use Rattle.semantics.specs.Word.{Kind}
use Rattle.semantics.specs.Core as core
use Rattle.semantics.specs.Core.{Site}
use Rattle.texts.specs.Surface as surface
use Rattle.kernel_names.specs.NameMap.{NameMap}
use Rattle.opencl_files.specs.FileTree.{Parameter}
use Rattle.opencl_tree.specs.Types.{Space, Global, Local, Constant, Private, Qualifiers}
use Rattle.opencl_tree.specs.Tree.{Expression}
use Rattle.opencl_terms.specs.Types.{Scalar, Boolean, Int, Size, ValueType, kind_of, stored_kind, is_narrow, is_vector}
use Rattle.opencl_terms.specs.Conversions.{converted}
use Rattle.opencl_values.specs.Faults.{Checked, WrongType, TooMany, NameTwice, LocalLength, LeftOut, Pointer, refused, then, when, found}
use Rattle.opencl_values.specs.Scope.{ArrayOf, VariableOf}
use Rattle.opencl_values.specs.Names.{type_of_base}
use Rattle.opencl_values.specs.Wholes.{places}
use Rattle.opencl_core.specs.Rooms.{Room, set, next_slots, declared, with_slot}
use Rattle.opencl_core.specs.Declaring.{has_elements, element_of_type, has_place, local_declared, most_elements}

-- how many elements an array has that a launch gives a `__local` pointer
pub record LocalCount : Type 0 where
  pub name : List ℕ
  pub count : ℕ

abbrev pub count_of : List LocalCount → (name : List ℕ) → Option ℕ
count_of [] name = None
count_of (l ∷ ls) name = cond (bytes_eq l.name name) (Some l.count) (count_of ls name)

abbrev pub with_parameter : surface.Parameter → Room → Room
with_parameter p r = record r { names = record r.names { parameters = r.names.parameters ++ p ∷ [] } }

-- whether a parameter so far has a name
abbrev pub name_given : surface.Parameter → List ℕ
name_given (surface.Buffer constant kind site name) = name
name_given (surface.Value kind site name) = name

abbrev pub is_given : (name : List ℕ) → List surface.Parameter → Bool
is_given name [] = false
is_given name (p ∷ ps) = bytes_eq (name_given p) name || is_given name ps

-- a parameter with its name and its type
pub record Named : Type 0 where
  pub site : Site
  pub name : List ℕ
  pub type : ValueType

abbrev pub buffer_kept : Named → (constant : Bool) → Scalar → Room → Room
buffer_kept p constant s r = with_parameter (surface.Buffer constant (stored_kind s) p.site p.name) (record r { buffers = r.buffers ++ stored_kind s ∷ [] })

-- the number of the next buffer
abbrev pub next_buffer : Site → Room → Checked ℕ
next_buffer at r = when (has_place r) TooMany at (length r.buffers)

abbrev pub declare_buffer : Named → (constant : Bool) → Room → Checked Room
declare_buffer p constant r =
    then (element_of_type p.site p.type) (λ s. then (next_buffer p.site r) (λ n.
    then (declared p.site p.name (ArrayOf (record { space = core.Global; number = n }) p.type [] constant) r) (λ d.
    Ok (buffer_kept p constant s d))))

-- a `__local` pointer is an array of as many elements as the launch gives it
abbrev pub declare_local_pointer : List LocalCount → Named → (constant : Bool) → Room → Checked Room
declare_local_pointer ls p constant r =
    then (found (count_of ls p.name) LocalLength p.site) (λ n.
    local_declared p.site p.name (record { type = p.type; count = n; lengths = []; is_constant = constant }) r)

-- a narrow value parameter has any `int` in a launch, of which the kernel sees the low bits
abbrev pub narrowed : Site → (slot : ℕ) → Scalar → Room → Checked Room
narrowed at slot s r =
    cond (is_narrow s) (set slot (converted r.ids Int s at (core.Variable slot)) at r) (Ok r)

abbrev pub narrow_all : Site → (slot : ℕ) → Scalar → (places : List ℕ) → Room → Checked Room
narrow_all at slot s [] r = Ok r
narrow_all at slot s (n ∷ ns) r = then (narrowed at (slot + n) s r) (narrow_all at slot s ns)

-- launches give the components of a vector `n` one by one, as `n_s0`, `n_s1` and so on (ours)
abbrev pub suffix_of : (place : ℕ) → List ℕ
suffix_of n =
    cond (nat_eq n 0) (codes "_s0") (cond (nat_eq n 1) (codes "_s1") (cond (nat_eq n 2) (codes "_s2") (cond (nat_eq n 3) (codes "_s3") (
    cond (nat_eq n 4) (codes "_s4") (cond (nat_eq n 5) (codes "_s5") (cond (nat_eq n 6) (codes "_s6") (cond (nat_eq n 7) (codes "_s7") (
    cond (nat_eq n 8) (codes "_s8") (cond (nat_eq n 9) (codes "_s9") (cond (nat_eq n 10) (codes "_sa") (cond (nat_eq n 11) (codes "_sb") (
    cond (nat_eq n 12) (codes "_sc") (cond (nat_eq n 13) (codes "_sd") (cond (nat_eq n 14) (codes "_se") (codes "_sf")))))))))))))))

abbrev pub component_name : Named → (place : ℕ) → List ℕ
component_name p n = cond (is_vector p.type) (p.name ++ suffix_of n) p.name

abbrev pub argument_kept : Named → Scalar → (name : List ℕ) → Room → Room
argument_kept p s name r = with_parameter (surface.Value (kind_of r.ids s) p.site name) (with_slot (kind_of r.ids s) r)

-- names of parameters are different in a launch, those of components too
abbrev pub add_argument : Named → Scalar → (place : ℕ) → Room → Checked Room
add_argument p s n r =
    when (not (is_given (component_name p n) r.names.parameters)) NameTwice p.site (argument_kept p s (component_name p n) r)

abbrev pub add_arguments : Named → Scalar → (places : List ℕ) → Room → Checked Room
add_arguments p s [] r = Ok r
add_arguments p s (n ∷ ns) r = then (add_argument p s n r) (add_arguments p s ns)

abbrev pub add_and_narrow : Named → Scalar → (slot : ℕ) → Room → Checked Room
add_and_narrow p s slot r = then (add_arguments p s (places p.type.width) r) (narrow_all p.site slot s (places p.type.width))

-- a `bool` and a size have no size of their own (6.9 k)
abbrev pub is_argument : Scalar → Bool
is_argument Boolean = false
is_argument Size = false
is_argument s = true

abbrev pub argument_of_type : Site → ValueType → Checked Scalar
argument_of_type at t = when (is_argument t.scalar) WrongType at t.scalar

abbrev pub declare_argument : Named → (is_constant : Bool) → Room → Checked Room
declare_argument p is_constant r =
    then (argument_of_type p.site p.type) (λ s. then (next_slots p.site p.type.width r) (λ slot.
    then (declared p.site p.name (VariableOf p.type slot is_constant) r) (add_and_narrow p s slot)))

abbrev pub declare_pointer : List LocalCount → Named → Qualifiers → Option Space → Room → Checked Room
declare_pointer ls p q (Some Global) r = declare_buffer p q.constant r
declare_pointer ls p q (Some Constant) r = declare_buffer p true r
declare_pointer ls p q (Some Local) r = declare_local_pointer ls p q.constant r
declare_pointer ls p q (Some Private) r = refused WrongType p.site
declare_pointer ls p q None r = refused WrongType p.site

abbrev pub declare_value : Named → Qualifiers → Option Space → Room → Checked Room
declare_value p q None r = declare_argument p q.constant r
declare_value p q (Some Private) r = declare_argument p q.constant r
declare_value p q (Some s) r = refused WrongType p.site

-- by its stars
abbrev pub declare_named : List LocalCount → Named → Qualifiers → List Qualifiers → Room → Checked Room
declare_named ls p q stars r =
    cond (nat_eq (length stars) 0) (declare_value p q q.space r)
    (cond (nat_eq (length stars) 1) (declare_pointer ls p q q.space r) (refused WrongType p.site))

abbrev pub has_no_dimensions : List (Option Expression) → Bool
has_no_dimensions [] = true
has_no_dimensions (d ∷ ds) = false

abbrev pub named_by : Parameter → Room → Checked Named
named_by p r =
    then (found p.name WrongType p.site) (λ name. then (type_of_base r.visible p.base p.site) (λ t.
    when (has_no_dimensions p.dimensions) (LeftOut Pointer) p.site (record { site = p.site; name = name; type = t })))

abbrev pub is_new : Named → Room → Checked Named
is_new n r = when (not (is_given n.name r.names.parameters)) NameTwice n.site n

abbrev pub new_named : Parameter → Room → Checked Named
new_named p r = then (named_by p r) (λ n. is_new n r)

abbrev pub declare_parameter : List LocalCount → Parameter → Room → Checked Room
declare_parameter ls p r = then (new_named p r) (λ n. declare_named ls n p.qualifiers p.stars r)

abbrev pub declare_parameters : List LocalCount → List Parameter → Room → Checked Room
declare_parameters ls [] r = Ok r
declare_parameters ls (p ∷ ps) r = then (declare_parameter ls p r) (declare_parameters ls ps)
