-- What built-in functions make of the values of their arguments (OpenCL 1.2, 6.2.3, 6.2.4 and 6.12). Each argument is evaluated on each
-- path, as in C, since an access in it is one of the item's.
use Rattle.std.specs.Prelude.{ℕ, zero, suc, pos, List, [], ◌∷◌, length, Bool, true, false, cond, not, nat_eq, nat_le, Ok}
use Rattle.semantics.specs.Word as word
use Rattle.semantics.specs.Word.{Kind}
use Rattle.semantics.specs.Core.{Site, Function, Term, Literal, Id, Unary, Binary, Convert, Compare, And, Select, Minimum, Maximum, Opaque}
use Rattle.opencl_tree.specs.Tree.{Expression, Integer, Expressions, nothing, also}
use Rattle.opencl_terms.specs.Types.{Scalar, Int, Uint, Size, Float, promoted, common, is_float, is_narrow, kind_of}
use Rattle.opencl_terms.specs.Types as types
use Rattle.opencl_terms.specs.Conversions.{int, uint, narrowed}
use Rattle.opencl_terms.specs.Operations as operations
use Rattle.opencl_values.specs.Faults.{Checked, Fault, WrongType, LeftOut, Long, refused, then, when}
use Rattle.opencl_values.specs.Singles.{Single, single, as_scalar}
use Rattle.opencl_values.specs.Saturation.{saturated_from, reread, has_bits_of}
use Rattle.opencl_values.specs.Functions.{Form, IdOf, Converts, Saturates, BitsAs, Integers, Floats, Tests, Reduces, Spreads, Offset, Lesser, Greater, Clamped, Absolute, Product24, Sum24, Scaled, FromBits, Exponent, Selects, Shuffles, Joins, Mixes, Tops, Dimensions, Missing, count_of}

-- a call: the kind of sizes, the number of the operation, the scalar of all arguments, where it stands, the arguments
pub record Call : Type 0 where
  pub ids : Kind
  pub operation : ℕ
  pub to : Scalar
  pub site : Site
  pub arguments : List Single

-- the argument of a number, from 0, as a scalar; 0 stands for one that there is not
abbrev pub argument_in : (ids : Kind) → (to : Scalar) → Site → List Single → (place : ℕ) → Term
argument_in ids to site [] n = operations.nothing
argument_in ids to site (v ∷ vs) zero = as_scalar ids to site v
argument_in ids to site (v ∷ vs) (suc n) = argument_in ids to site vs n

abbrev pub argument_as : (to : Scalar) → Call → (place : ℕ) → Term
argument_as to c n = argument_in c.ids to c.site c.arguments n

abbrev pub argument : Call → (place : ℕ) → Term
argument c n = argument_as c.to c n

abbrev pub kind_in : Call → Kind
kind_in c = kind_of c.ids c.to

-- an operation that is not reckoned, of arguments of one scalar
abbrev pub unreckoned_as : (to : Scalar) → (gives : Kind) → Call → Term
unreckoned_as to k c = Opaque c.operation 0 k (argument_as to c 0) (argument_as to c 1) (argument_as to c 2)

-- a narrow component is the low bits of a word that is not reckoned
abbrev pub unreckoned : Call → Term
unreckoned c = cond (is_narrow c.to) (narrowed c.to c.site (unreckoned_as c.to word.Uint c)) (unreckoned_as c.to (kind_in c) c)

-- of floats a function is not reckoned
abbrev pub or_unreckoned : Call → Term → Term
or_unreckoned c t = cond (is_float c.to) (unreckoned c) t

-- `min` and `max` (6.12.3)
abbrev pub lesser : Call → Term
lesser c = Minimum (argument c 0) (argument c 1)

abbrev pub greater : Call → Term
greater c = Maximum (argument c 0) (argument c 1)

-- `clamp`: where the bounds are crossed its result is undefined
abbrev pub are_ordered : Call → Term
are_ordered c = Compare word.AtMost (kind_in c) (argument c 1) (argument c 2)

abbrev pub between : Call → Term
between c = Minimum (Maximum (argument c 0) (argument c 1)) (argument c 2)

abbrev pub clamped : Call → Term
clamped c = Select (are_ordered c) (between c) (unreckoned c)

-- `abs` of an `int` is a `uint`
abbrev pub negative_as_uint : Call → Term
negative_as_uint c = Binary word.Subtract word.Uint c.site (uint 0) (Convert word.Uint c.site (argument c 0))

abbrev pub absolute_int : Call → Term
absolute_int c =
    Select (Compare word.Less word.Int (argument c 0) (int 0)) (negative_as_uint c) (Convert word.Uint c.site (argument c 0))

abbrev pub absolute_from : (to : Scalar) → Call → Term
absolute_from Int c = absolute_int c
absolute_from to c = argument c 0

abbrev pub absolute_scalar : (to : Scalar) → Scalar
absolute_scalar Int = Uint
absolute_scalar to = to

-- a number of 24 bits, -2^23 to 2^23 - 1, or below 2^24, is what it is cut to. Where what is known of its ends says so, this test has one way
abbrev pub cut_int : Call → (place : ℕ) → Term
cut_int c n = Minimum (Maximum (argument c n) (Unary word.Negate word.Int c.site (int 8388608))) (int 8388607)

abbrev pub cut_to_24_bits : (to : Scalar) → Call → (place : ℕ) → Term
cut_to_24_bits Int c n = cut_int c n
cut_to_24_bits to c n = Minimum (argument c n) (Literal (kind_in c) (pos 16777215))

abbrev pub has_24_bits : Call → (place : ℕ) → Term
has_24_bits c n = Compare word.Equal (kind_in c) (cut_to_24_bits c.to c n) (argument c n)

abbrev pub have_24_bits : Call → Term
have_24_bits c = And (has_24_bits c 0) (has_24_bits c 1)

abbrev pub product : Call → Term
product c = Binary word.Multiply (kind_in c) c.site (argument c 0) (argument c 1)

-- `mul24` and `mad24`: of factors of more than 24 bits implementation-defined
abbrev pub product24 : Call → Term
product24 c = Select (have_24_bits c) (product c) (unreckoned c)

abbrev pub sum : Call → Term
sum c = Binary word.Add (kind_in c) c.site (product c) (argument c 2)

abbrev pub sum24 : Call → Term
sum24 c = Select (have_24_bits c) (sum c) (unreckoned c)

-- a float and an `int`, as `ldexp` takes them
abbrev pub scaled : Call → Term
scaled c = Opaque c.operation 0 word.Uint (argument_as Float c 0) (argument_as Int c 1) operations.nothing

-- an `int` of 0 or 1, by what a test of floats gives (6.12.6)
abbrev pub test : Call → Term
test c = Compare word.Unequal word.Uint (unreckoned_as Float word.Uint c) operations.nothing

-- how many dimensions a launch has, 1 to 3: no one knows which (6.12.1)
abbrev pub dimensions : Call → Term
dimensions c = Binary word.Add word.Uint c.site (Binary word.Remainder word.Uint c.site (unreckoned_as Uint word.Uint c) (uint 3)) (uint 1)

abbrev pub first_in : List Single → Single
first_in [] = single Uint operations.nothing
first_in (v ∷ vs) = v

abbrev pub saturated_first : (to : Scalar) → Call → Single → Term
saturated_first to c v = saturated_from c.ids c.site v.scalar to v.term

abbrev pub reread_first : (to : Scalar) → Call → Single → Term
reread_first to c v = reread c.ids c.site v.scalar to v.term

-- a function of integers gives one of as many bits, so those of a `long` are left out
abbrev pub is_word : Scalar → Bool
is_word types.Long = false
is_word s = not (is_float s)

-- whether a function takes arguments of these types
abbrev pub takes : Form → Call → Bool
takes (IdOf f) c = false
takes Offset c = false
takes (Missing construct) c = false
takes (BitsAs to) c = has_bits_of (first_in c.arguments).scalar to
takes (Integers n) c = is_word c.to
takes Absolute c = is_word c.to
takes Product24 c = is_word c.to
takes Sum24 c = is_word c.to
takes f c = true

-- the scalar that it gives
abbrev pub scalar_made : Form → (to : Scalar) → Scalar
scalar_made (Converts s) to = s
scalar_made (Saturates s) to = s
scalar_made (BitsAs s) to = s
scalar_made (Floats n) to = Float
scalar_made (Tests n) to = Int
scalar_made (Reduces n) to = Float
scalar_made (Spreads n) to = Float
scalar_made Absolute to = absolute_scalar to
scalar_made Scaled to = Float
scalar_made FromBits to = Float
scalar_made Exponent to = Int
scalar_made Dimensions to = Uint
scalar_made f to = to

abbrev pub term_made : Form → Call → Term
term_made (Converts s) c = argument_as s c 0
term_made (Saturates s) c = saturated_first s c (first_in c.arguments)
term_made (BitsAs s) c = reread_first s c (first_in c.arguments)
term_made (Integers n) c = unreckoned c
term_made (Floats n) c = unreckoned_as Float word.Uint c
term_made (Tests n) c = test c
term_made (Reduces n) c = unreckoned_as Float word.Uint c
term_made (Spreads n) c = unreckoned_as Float word.Uint c
term_made Lesser c = or_unreckoned c (lesser c)
term_made Greater c = or_unreckoned c (greater c)
term_made Clamped c = or_unreckoned c (clamped c)
term_made Absolute c = absolute_from c.to c
term_made Product24 c = product24 c
term_made Sum24 c = sum24 c
term_made Scaled c = scaled c
term_made FromBits c = unreckoned_as Uint word.Uint c
term_made Exponent c = unreckoned_as Float word.Int c
term_made (IdOf f) c = operations.nothing
term_made Offset c = operations.nothing
term_made Selects c = operations.nothing
term_made Shuffles c = operations.nothing
term_made Joins c = operations.nothing
term_made Mixes c = operations.nothing
term_made (Tops is_all) c = operations.nothing
term_made Dimensions c = dimensions c
term_made (Missing construct) c = operations.nothing

abbrev pub untaken : Scalar → Fault
untaken types.Long = LeftOut Long
untaken s = WrongType

abbrev pub made : Form → Call → Checked Single
made f c = when (takes f c) (untaken c.to) c.site (single (scalar_made f c.to) (term_made f c))

-- the scalar to which all arguments are converted (C99 6.3.1.8)
abbrev pub scalar_with : (so_far : Scalar) → List Single → Scalar
scalar_with s [] = s
scalar_with s (v ∷ vs) = scalar_with (common s (promoted v.scalar)) vs

abbrev pub call_with : (ids : Kind) → (operation : ℕ) → Site → List Single → Call
call_with ids n site vs = record { ids = ids; operation = n; to = scalar_with Int vs; site = site; arguments = vs }

abbrev pub result_of : (ids : Kind) → Form → (operation : ℕ) → Site → List Single → Checked Single
result_of ids f n site vs = cond (nat_eq (length vs) (count_of f)) (made f (call_with ids n site vs)) (refused WrongType site)

-- a work-item function takes one number of the text, 0 to 2 (ours: above 2 devices do not agree), and gives a size
abbrev pub dimension_of : Site → Expressions → Checked ℕ
dimension_of site (also (Integer at kind n) nothing) = when (nat_le n 2) WrongType at n
dimension_of site arguments = refused WrongType site

abbrev pub id_value : (ids : Kind) → Function → (dimension : ℕ) → Single
id_value ids f d = single Size (Id ids f d)

-- no launch has an offset (5.8)
abbrev pub offset_value : (ids : Kind) → Single
offset_value ids = single Size (Literal ids (pos 0))
