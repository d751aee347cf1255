-- What the code's forms of functions stand for.
use denote.Ref.{Bor}
use Rattle.std.specs.Prelude.{ℕ, List}
use Rattle.core_code.specs.View.{function}
use Rattle.opencl_terms.specs.View.{scalar}
use Rattle.opencl_values.specs.Faults as faults
use Rattle.opencl_values.specs.Functions as functions
use Rattle.opencl_values.specs.View.{construct}
use Rattle.opencl_values.specs.declared.error.Construct.{Construct}
use Rattle.opencl_values.specs.declared.functions.Form.{Form}
use Rattle.opencl_values.specs.declared.functions.Form.TheVariants as forms

abbrev pub form : Form → functions.Form
form (forms.IdOf f) = functions.IdOf (function f)
form (forms.Converts to) = functions.Converts (scalar to)
form (forms.Saturates to) = functions.Saturates (scalar to)
form (forms.BitsAs to) = functions.BitsAs (scalar to)
form (forms.Integers n) = functions.Integers n
form (forms.Floats n) = functions.Floats n
form (forms.Tests n) = functions.Tests n
form (forms.Reduces n) = functions.Reduces n
form (forms.Spreads n) = functions.Spreads n
form forms.Offset = functions.Offset
form forms.Lesser = functions.Lesser
form forms.Greater = functions.Greater
form forms.Clamped = functions.Clamped
form forms.Absolute = functions.Absolute
form forms.Product24 = functions.Product24
form forms.Sum24 = functions.Sum24
form forms.Scaled = functions.Scaled
form forms.FromBits = functions.FromBits
form forms.Exponent = functions.Exponent
form forms.Selects = functions.Selects
form forms.Shuffles = functions.Shuffles
form forms.Joins = functions.Joins
form forms.Mixes = functions.Mixes
form (forms.Tops is_all) = functions.Tops is_all
form forms.Dimensions = functions.Dimensions
form (forms.Missing c) = functions.Missing (construct c)

-- an entry of a table of functions, and of one of beginnings
abbrev pub form_entry : Bor (List ℕ) × Form → List ℕ × functions.Form
form_entry e = (e.0.now, form e.1)

abbrev pub construct_entry : Bor (List ℕ) × Construct → List ℕ × faults.Construct
construct_entry e = (e.0.now, construct e.1)

abbrev pub form_place : Form × ℕ → functions.Form × ℕ
form_place e = (form e.0, e.1)
