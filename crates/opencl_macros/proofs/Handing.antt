-- Faults that are handed on.
use Rattle.std.proofs.Common.{ap}
use Rattle.std.specs.Prelude.{Result}
use Rattle.semantics.specs.Core.{Site}
use Rattle.opencl_macros.specs.Macros.{on}
use Rattle.opencl_macros.specs.Seen.{Fails}
use Rattle.opencl_macros.specs.declared.MacroError.{MacroError}
use Rattle.opencl_macros.specs.declared.MacroError.TheVariants as errors

pub handed : {A B : Type 0} (e : MacroError) (r : Result A Site) (next : A → Result B Site) → Fails e r → Fails e (on r next)
handed (errors.At s) r next h = ap (λ x. on x next) h
handed errors.Memory r next h = tt
