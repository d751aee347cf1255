-- What built-in functions make of vectors (OpenCL 1.2, 6.12): of each component, with scalars beside them copied, or of all.
use Rattle.std.specs.Prelude.{ℕ, List, [], ◌∷◌, ◌++◌, length, Bool, true, false, cond, not, ◌||◌, ◌&&◌, nat_eq, Ok}
use Rattle.semantics.specs.Word as word
use Rattle.semantics.specs.Word.{Kind}
use Rattle.semantics.specs.Core.{Site, Term, Unary, Compare, Select, Opaque}
use Rattle.opencl_tree.specs.Tree.{Expressions}
use Rattle.opencl_terms.specs.Types.{Scalar, Char, Short, Uchar, Ushort, Int, Float, ValueType, Value, type_of, value_of, is_vector, is_float, is_narrow, scalar_number}
use Rattle.opencl_terms.specs.Conversions.{int}
use Rattle.opencl_terms.specs.Components.{all_bits}
use Rattle.opencl_terms.specs.Operations as operations
use Rattle.opencl_values.specs.Calls as calls
use Rattle.opencl_values.specs.Calls.{Call, dimension_of, id_value, offset_value}
use Rattle.opencl_values.specs.Faults.{Checked, WrongType, LeftOut, Vector, refused, then, when}
use Rattle.opencl_values.specs.Functions.{Form, IdOf, Converts, Saturates, BitsAs, Integers, Floats, Tests, Reduces, Spreads, Offset, Absolute, Product24, Sum24, Scaled, Exponent, Selects, Shuffles, Joins, Mixes, Tops, Missing, count_of}
use Rattle.opencl_values.specs.Choices.{select_called, shuffle_called, join_called, mix_called, tops_called}
use Rattle.opencl_values.specs.Saturation.{has_bits_of}
use Rattle.opencl_values.specs.Singles.{Single, single, alone}
use Rattle.opencl_values.specs.Widened.{Wide}
use Rattle.opencl_values.specs.Wholes.{whole, components_of, places}
use Rattle.opencl_values.specs.Vectors.{gathered}

-- the type of the first vector
abbrev pub type_among : (otherwise : ValueType) → List Value → ValueType
type_among t [] = t
type_among t (v ∷ vs) = cond (is_vector v.type) v.type (type_among t vs)

-- vectors have one width, and one scalar but in `ldexp` and its kin
abbrev pub is_strict : Form → Bool
is_strict Scaled = false
is_strict f = true

abbrev pub is_alike : (strict : Bool) → ValueType → Value → Bool
is_alike strict t v =
    not (is_vector v.type) || (nat_eq v.type.width t.width && (not strict || nat_eq (scalar_number v.type.scalar) (scalar_number t.scalar)))

abbrev pub are_alike : (strict : Bool) → ValueType → List Value → Bool
are_alike strict t [] = true
are_alike strict t (v ∷ vs) = is_alike strict t v && are_alike strict t vs

-- whether a function takes vectors of a scalar
abbrev pub is_whole : Scalar → Bool
is_whole s = not (is_float s || is_narrow s)

abbrev pub takes_vectors : Form → Scalar → Bool
takes_vectors (Floats n) s = is_float s
takes_vectors (Tests n) s = is_float s
takes_vectors (Reduces n) s = is_float s
takes_vectors (Spreads n) s = is_float s
takes_vectors Scaled s = is_float s
takes_vectors Exponent s = is_float s
takes_vectors (Integers n) s = not (is_float s)
takes_vectors Absolute s = not (is_float s)
takes_vectors Product24 s = is_whole s
takes_vectors Sum24 s = is_whole s
takes_vectors (Converts to) s = false
takes_vectors (Saturates to) s = false
takes_vectors (BitsAs to) s = false
takes_vectors f s = true

abbrev pub negative : Call → Term
negative c = Unary word.Negate word.Int c.site (calls.argument c 0)

-- `abs` of a narrow component is below 2^31
abbrev pub absolute_narrow : Call → Term
absolute_narrow c = Select (Compare word.Less word.Int (calls.argument c 0) (int 0)) (negative c) (calls.argument c 0)

abbrev pub absolute : Call → Term
absolute c = cond (is_narrow c.to) (absolute_narrow c) (calls.term_made Absolute c)

abbrev pub unsigned_of : Scalar → Scalar
unsigned_of Char = Uchar
unsigned_of Short = Ushort
unsigned_of s = calls.absolute_scalar s

abbrev pub component_scalar : Form → Scalar → Scalar
component_scalar Absolute s = unsigned_of s
component_scalar f s = calls.scalar_made f s

-- tests of vectors give 0 or -1 (6.12.6)
abbrev pub component_term : Form → Call → Term
component_term (Tests n) c = all_bits c.site (calls.test c)
component_term Absolute c = absolute c
component_term f c = calls.term_made f c

abbrev pub call_of : (ids : Kind) → (operation : ℕ) → Site → Scalar → List Single → Call
call_of ids n site to vs = record { ids = ids; operation = n; to = to; site = site; arguments = vs }

-- an operation that is not reckoned, of all components
abbrev pub reduced : (operation : ℕ) → (so_far : Term) → List Term → Term
reduced n t [] = t
reduced n t (u ∷ us) = reduced n (Opaque n 0 word.Uint t u operations.nothing) us

abbrev pub all_reduced : (ids : Kind) → (operation : ℕ) → Site → List Value → Term
all_reduced ids n site vs = reduced n operations.nothing (gathered ids site Float [] vs)

abbrev pub called_at : (ids : Kind) → Form → (operation : ℕ) → Site → Scalar → List Value → (place : ℕ) → Term
called_at ids (Spreads k) n site to vs p = all_reduced ids n site vs
called_at ids f n site to vs p = component_term f (call_of ids n site to (components_of vs p))

abbrev pub called_behind : (ids : Kind) → Form → (operation : ℕ) → Site → Scalar → List Value → (so_far : List Term) → (places : List ℕ) → List Term
called_behind ids f n site to vs ts [] = ts
called_behind ids f n site to vs ts (p ∷ ps) = called_behind ids f n site to vs (ts ++ called_at ids f n site to vs p ∷ []) ps

abbrev pub vector_called : (ids : Kind) → Form → (operation : ℕ) → Site → ValueType → List Value → Value
vector_called ids (Reduces k) n site t vs = whole (single Float (all_reduced ids n site vs))
vector_called ids f n site t vs =
    value_of (type_of (component_scalar f t.scalar) t.width) (called_behind ids f n site t.scalar vs [] (places t.width))

abbrev pub has_count : Form → ValueType → List Value → Bool
has_count f t vs = nat_eq (length vs) (count_of f) && (are_alike (is_strict f) t vs && takes_vectors f t.scalar)

abbrev pub vector_result : (ids : Kind) → Form → (operation : ℕ) → Site → List Value → ValueType → Checked Value
vector_result ids f n site vs t = when (has_count f t vs) WrongType site (vector_called ids f n site t vs)

abbrev pub scalar_result : (ids : Kind) → Form → (operation : ℕ) → Site → List Value → Checked Value
scalar_result ids f n site vs = then (calls.result_of ids f n site (components_of vs 0)) (λ s. Ok (whole s))

abbrev pub result_for : (ids : Kind) → Form → (operation : ℕ) → Site → List Value → ValueType → Checked Value
result_for ids f n site vs t = cond (is_vector t) (vector_result ids f n site vs t) (scalar_result ids f n site vs)

abbrev pub result_of : (ids : Kind) → Form → (operation : ℕ) → Site → List Value → Checked Value
result_of ids Selects n site vs = select_called site vs
result_of ids Shuffles n site vs = shuffle_called site vs
result_of ids Joins n site vs = join_called site vs
result_of ids Mixes n site vs = mix_called site vs
result_of ids (Tops is_all) n site vs = tops_called is_all site vs
result_of ids f n site vs = result_for ids f n site vs (type_among (alone Int) vs)

abbrev pub called : (ids : Kind) → Form → (operation : ℕ) → Site → Expressions → Checked (List Value) → Checked Value
called ids (IdOf f) n site arguments values = then (dimension_of site arguments) (λ d. Ok (whole (id_value ids f d)))
called ids Offset n site arguments values = then (dimension_of site arguments) (λ d. Ok (whole (offset_value ids)))
called ids (Missing c) n site arguments values = refused (LeftOut c) site
called ids f n site arguments values = then values (result_of ids f n site)

-- a conversion of a vector gives one of as many components (6.2.3), its bits as another type component by component (6.2.4.2). Bits that
-- make components of another size are left out
abbrev pub may_reread : Form → Scalar → Bool
may_reread (BitsAs to) s = has_bits_of s to
may_reread f s = true

abbrev pub wide_made : (ids : Kind) → Wide → Site → Value → Value
wide_made ids w site v =
    value_of (type_of (component_scalar w.form v.type.scalar) w.width)
    (called_behind ids w.form 0 site v.type.scalar (v ∷ []) [] (places w.width))

abbrev pub wide_result : (ids : Kind) → Wide → Site → List Value → Checked Value
wide_result ids w site (v ∷ []) =
    when (nat_eq v.type.width w.width && may_reread w.form v.type.scalar) (LeftOut Vector) site (wide_made ids w site v)
wide_result ids w site vs = refused WrongType site
