-- What the code answers, as the definition has it.
use Rattle.std.specs.Prelude.{ℕ, ◌≡◌, List, map, string_bytes, Vec, Option, Some, None, Result, Ok, Err}
use Rattle.std.specs.declared.alloc.Global.{Global}
use Rattle.semantics.specs.Core.{Site}
use Rattle.semantics.specs.Launch.{Three}
use Rattle.core_code.specs.View as core
use Rattle.kernel_names.specs.View.{names_seen}
use Rattle.typed_kernels.specs.TypedKernel.{TypedKernel}
use Rattle.opencl_tokens.specs.Seen as tokens
use Rattle.opencl_tokens.specs.Faults.{Answered}
use Rattle.opencl_tokens.specs.Joining as joining
use Rattle.opencl_tokens.specs.declared.joining.Joined.{Joined}
use Rattle.opencl_tokens.specs.declared.TokenError.{TokenError}
use Rattle.opencl_tokens.specs.declared.TokenError.TheVariants as token_errors
use Rattle.opencl_files.specs.View as files
use Rattle.opencl_files.specs.declared.errors.FileError.TheVariants as file_errors
use Rattle.opencl_values.specs.View as values
use Rattle.opencl_values.specs.declared.error.ValueError.TheVariants as value_errors
use Rattle.opencl_values.specs.declared.error.Construct.TheVariants as constructs
use Rattle.opencl_values.specs.declared.error.Fault.TheVariants as value_faults
use Rattle.core_code.specs.declared.tree.Site.{Site as Site_seen}
use Rattle.opencl_core.specs.Kernels.{Written}
use Rattle.opencl_core.specs.View.{three}
use Rattle.opencl_reading.specs.FileNames as names
use Rattle.opencl_reading.specs.Kernels as kernels
use Rattle.opencl_reading.specs.Kernels.{Read, OfText, OfFile, OfCore, NoSizes, OtherSizes, NoSuchLocal, Unsound}
use Rattle.opencl_values.specs.Scope.{Binding}
use Rattle.opencl_reading.specs.declared.FileText.{FileText}
use Rattle.opencl_reading.specs.declared.names.Looking.{Looking}
use Rattle.opencl_reading.specs.declared.error.OpenClError.{OpenClError}
use Rattle.opencl_reading.specs.declared.error.OpenClError.TheVariants as errors

abbrev pub looking : Looking → names.Looking
looking l = record { depth = l.depth; is_due = l.is_due; within = l.within }

abbrev pub written : TypedKernel → Written
written (names, found) = record { core = core.kernel found; names = names_seen names }

-- an error is the definition's, unless memory was refused; `as` puts a fault among those of another reading
abbrev pub Tells : {F A : Type 0} → (into : kernels.Fault → F) → OpenClError → Result A (F × Site) → Type 0
Tells into (errors.Text (token_errors.At f s)) answer = answer ≡ Err (into (OfText (tokens.fault f)), tokens.site s)
Tells into (errors.File (file_errors.At f s)) answer = answer ≡ Err (into (OfFile (files.fault f)), core.site s)
Tells into (errors.Core (value_errors.At f s)) answer = answer ≡ Err (into (OfCore (values.fault f)), core.site s)
Tells into (errors.NoSizes s) answer = answer ≡ Err (into NoSizes, core.site s)
Tells into (errors.OtherSizes s) answer = answer ≡ Err (into OtherSizes, core.site s)
Tells into (errors.NoSuchLocal s) answer = answer ≡ Err (into NoSuchLocal, core.site s)
Tells into (errors.Unsound s) answer = answer ≡ Err (into Unsound, core.site s)
Tells into e answer = Unit {0}

abbrev pub Refuses : OpenClError → Read → Type 0
Refuses e answer = Tells kernels.same e answer

abbrev pub Gives : Result TypedKernel OpenClError → Read → Type 0
Gives (Ok typed) answer = answer ≡ Ok (written typed)
Gives (Err error) answer = Refuses error answer

-- joined lines of several texts
abbrev pub JoinsAll : Result (Vec Joined Global) TokenError → Answered joining.Joined → Type 0
JoinsAll (Ok js) answer = answer ≡ Ok (map tokens.joined js.items)
JoinsAll (Err e) answer = tokens.Fails e answer

abbrev pub GivesSizes : Result (List ℕ) OpenClError → Result (Three ℕ) (kernels.Fault × Site) → Type 0
GivesSizes (Ok sizes) answer = answer ≡ Ok (three sizes)
GivesSizes (Err error) answer = Tells kernels.same error answer

-- the number that an error is printed under, and its place, where it has one
abbrev pub error_number : OpenClError → ℕ
error_number (errors.Text e) = tokens.error_number e
error_number (errors.File e) = files.error_number e
error_number (errors.Core e) = values.error_number e
error_number (errors.NoSizes s) = 35
error_number (errors.OtherSizes s) = 35
error_number (errors.NoSuchLocal s) = 35
error_number (errors.Unsound s) = 19
error_number errors.Memory = 90

abbrev pub error_place : OpenClError → Option (ℕ × ℕ)
error_place (errors.Text (token_errors.At f s)) = Some (s.line, s.column)
error_place (errors.File (file_errors.At f s)) = Some (s.line, s.column)
error_place (errors.Core (value_errors.At f s)) = Some (s.line, s.column)
error_place (errors.NoSizes s) = Some (s.line, s.column)
error_place (errors.OtherSizes s) = Some (s.line, s.column)
error_place (errors.NoSuchLocal s) = Some (s.line, s.column)
error_place (errors.Unsound s) = Some (s.line, s.column)
error_place e = None

-- the error of what is too many or too large
abbrev pub too_many : Site_seen → OpenClError
too_many s = errors.Core (value_errors.At value_faults.TooMany s)

-- the error of a file with overloaded functions
abbrev pub overloaded : Site_seen → OpenClError
overloaded s = errors.Core (value_errors.At (value_faults.LeftOut constructs.Outside) s)

-- the names that a file declares beside its kernel
abbrev pub outside : FileText → List Binding
outside f = map names.unread (map string_bytes f.names.items)
