-- What is parsed is in the grammar and within the limits.
use Rattle.std.proofs.Common.{◌≡◌, Bool, true, false, Option, Some, None, Result, Ok, Err, List, refl, ap, sym, ◌∙◌, subst}
use Rattle.std.proofs.lemmas.Bool.{false≢true}
use Rattle.semantics.specs.Core.{Site}
use Rattle.texts.specs.Lexemes.{Lexeme}
use Rattle.texts.specs.Ended.{EndsOnce}
use Rattle.texts.specs.ParseFaults.{ParseFault}
use Rattle.texts.specs.Limits.{deep_statements, Counts, nothing_declared, next, count_parameters, count_statements, measured, within_limits}
use Rattle.texts.specs.KernelLimits.{IsWithinLimits}
use Rattle.texts.specs.KernelGrammar.{IsKernel}
use Rattle.texts.specs.Surface.{Kernel}
use Rattle.parser.specs.Reader.{Attempt, Took, Refused, run}
use Rattle.parser.specs.Kernels.{kernel_reader}
use Rattle.parser.specs.Parsed.{Parsed, judged, finished, parsed}
use Rattle.parser.proofs.SoundKernels.{KernelRead, kernel-sound}

is-ok : {A E : Type 0} → Result A E → Bool
is-ok (Ok a) = true
is-ok (Err e) = false

or-else : {A E : Type 0} → A → Result A E → A
or-else d (Ok a) = a
or-else d (Err e) = d

pub no-error : {A E : Type 0} (e : E) (a : A) → Err e ≡ Ok a → ⊥
unfolding is-ok
no-error e a h = false≢true (ap is-ok h)

ok-back : (k l : Kernel) (r : Parsed) → r ≡ Ok k → r ≡ Ok l → k ≡ l
unfolding or-else
ok-back k l r p q = ap (or-else k) (sym p ∙ q)

-- what is within the limits is not too deep, and counted
measured-back : (o : Option Site) (r : Result Counts Site) (c : Counts) → measured o r ≡ Ok c → (o ≡ None) × ((d : Counts) × (r ≡ Ok d))
measured-back None (Ok d) c h = (refl, (d, refl))
measured-back None (Err site) c h = absurd (no-error _ c h)
measured-back (Some site) r c h = absurd (no-error _ c h)

within : (ts : List Lexeme) (l k : Kernel) (r : Result Counts (ParseFault × Site)) → within_limits l ≡ r → KernelRead ts l → judged l r ≡ Ok k → IsKernel 64 ts k × IsWithinLimits k
unfolding within_limits
within ts l k (Err e) q h same = absurd (no-error e k same)
within ts l k (Ok c) q h same =
    let m = measured-back (deep_statements 1 l.body) (next (count_parameters nothing_declared l.parameters) (λ c. count_statements c l.body)) c q in
    subst (λ k. IsKernel 64 ts k × IsWithinLimits k) (ok-back l k (Ok l) refl same) (h.in_grammar, (m.0, record { local_sizes = h.local_sizes; statements = h.statements; arrays = h.arrays; names = m.1 }))

pub parsed-sound : (ts : List Lexeme) (k : Kernel) → EndsOnce ts → parsed ts ≡ Ok k → IsKernel 64 ts k × IsWithinLimits k
unfolding parsed
parsed-sound ts k once h = by (run kernel_reader ts) refl h
  where
    by : (o : Attempt Kernel) → run kernel_reader ts ≡ o → finished o ≡ Ok k → IsKernel 64 ts k × IsWithinLimits k
    by (Took l rest) q h = within ts l k (within_limits l) refl (kernel-sound ts rest l once q) h
    by (Refused fault rest) q h = absurd (no-error _ k h)
