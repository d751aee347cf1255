-- Faults that are handed on.
use Rattle.std.proofs.Common.{ap}
use Rattle.std.specs.Prelude.{Result}
use Rattle.semantics.specs.Core.{Site}
use Rattle.opencl_tokens.specs.declared.TokenError.TheVariants as token_errors
use Rattle.opencl_files.specs.declared.errors.FileError.TheVariants as file_errors
use Rattle.opencl_values.specs.declared.error.ValueError.TheVariants as value_errors
use Rattle.opencl_reading.specs.Answers.{Tells}
use Rattle.opencl_reading.specs.Kernels.{Fault, on, same}
use Rattle.opencl_reading.specs.declared.error.OpenClError.{OpenClError}
use Rattle.opencl_reading.specs.declared.error.OpenClError.TheVariants as errors

pub handed : {A B : Type 0} (e : OpenClError) (r : Result A (Fault × Site)) (next : A → Result B (Fault × Site)) → Tells same e r → Tells same e (on same r next)
handed (errors.Text (token_errors.At f s)) r next h = ap (λ x. on same x next) h
handed (errors.Text token_errors.Memory) r next h = tt
handed (errors.File (file_errors.At f s)) r next h = ap (λ x. on same x next) h
handed (errors.File file_errors.Memory) r next h = tt
handed (errors.Core (value_errors.At f s)) r next h = ap (λ x. on same x next) h
handed (errors.Core value_errors.Memory) r next h = tt
handed (errors.NoSizes s) r next h = ap (λ x. on same x next) h
handed (errors.OtherSizes s) r next h = ap (λ x. on same x next) h
handed (errors.NoSuchLocal s) r next h = ap (λ x. on same x next) h
handed (errors.Unsound s) r next h = ap (λ x. on same x next) h
handed errors.Memory r next h = tt
