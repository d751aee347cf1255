-- What follows of it that the reader takes what is in the grammar: each kernel within the limits is parsed, and refusals are true.
use Rattle.std.proofs.Common.{◌≡◌, ℕ, Option, Some, None, Result, Ok, Err, List, ◌∷◌, ◌++◌, refl, ap, sym, ◌∙◌, subst, arith}
use Rattle.semantics.specs.Core.{Site}
use Rattle.texts.specs.Lexemes.{Lexeme}
use Rattle.texts.specs.Ended.{IsShort}
use Rattle.texts.specs.ParseFaults.{ParseFault, Expected, TooDeep, TooMany}
use Rattle.texts.specs.Limits.{deep_statements, Counts, nothing_declared, next, count_parameters, count_statements, measured, within_limits}
use Rattle.texts.specs.KernelLimits.{IsWithinLimits, IsKept}
use Rattle.texts.specs.KernelGrammar.{IsKernel}
use Rattle.texts.specs.Surface.{Kernel}
use Rattle.parser.specs.Reader.{Attempt, Took, Refused, front, run}
use Rattle.parser.specs.Kernels.{kernel_reader}
use Rattle.parser.specs.Fronts.{Before, before}
use Rattle.parser.specs.Parsed.{Parsed, Gives, Says, judged, finished, parsed}
use Rattle.parser.specs.View.{fault}
use Rattle.parser.specs.declared.error.ParseError.{ParseError}
use Rattle.parser.specs.declared.error.ParseError.TheVariants as errors
use Rattle.syntax.specs.View.{kernel}
use Rattle.core_code.specs.View.{site}
use Rattle.syntax.specs.declared.tree.Kernel as code
use Rattle.parser.proofs.Inversion.{not-taken, same-value}
use Rattle.parser.proofs.Locality.{refused_there}
use Rattle.parser.proofs.Options.{not-some}
use Rattle.parser.proofs.Answers.{takes, too_deep, too_many}
use Rattle.parser.proofs.CompleteKernels.{KernelAnswers, answers, kernel-complete}
use Rattle.parser.proofs.Exact.{no-error, parsed-sound}

-- within the limits it is read
read : (ts : List Lexeme) (k : Kernel) → IsShort ts → IsWithinLimits k → KernelAnswers 64 ts k → (rest : List Lexeme) × (run kernel_reader ts ≡ Took k rest)
read ts k short w (answers rest (takes e)) = (rest, e)
read ts k short w (answers rest (too_deep left none e)) = absurd (none (omega arith, w.0))
read ts k short w (answers rest (too_many left none e)) = absurd (none (short, w.1))

counted-whole : (k : Kernel) → IsWithinLimits k → (c : Counts) × (within_limits k ≡ Ok c)
unfolding within_limits
counted-whole k w =
    (w.1.names.0, ap (λ o. measured o (next (count_parameters nothing_declared k.parameters) (λ c. count_statements c k.body))) w.0 ∙ ap (measured None) w.1.names.1)

pub parsed-complete : (ts : List Lexeme) (k : Kernel) → IsShort ts → IsKernel 64 ts k → IsWithinLimits k → parsed ts ≡ Ok k
unfolding parsed
parsed-complete ts k short h w = let r = read ts k short w (kernel-complete h) in ap finished r.1 ∙ ap (judged k) (counted-whole k w).1

-- what is read is the only kernel
only : (ts rest : List Lexeme) (k l : Kernel) (room : ℕ) → run kernel_reader ts ≡ Took k rest → KernelAnswers room ts l → l ≡ k
only ts rest k l room e (answers left (takes q)) = same-value l k left rest (sym q ∙ e)
only ts rest k l room e (answers left (too_deep over none q)) = absurd (not-taken TooDeep over rest k (sym q ∙ e))
only ts rest k l room e (answers left (too_many over none q)) = absurd (not-taken TooMany over rest k (sym q ∙ e))

-- where reading stops, a limit is passed, or another lexeme is due
fault-of : Attempt Kernel → ParseFault
fault-of (Took k rest) = Expected
fault-of (Refused fault rest) = fault

not-kept : (ts rest : List Lexeme) (fault : ParseFault) (room : ℕ) (k : Kernel) → run kernel_reader ts ≡ Refused fault rest → KernelAnswers room ts k → IsKept fault room ts k → ⊥
unfolding fault-of
not-kept ts rest fault room k e (answers left (takes q)) kept = not-taken fault rest left k (sym e ∙ q)
not-kept ts rest fault room k e (answers left (too_deep over none q)) kept = none (subst (λ f. IsKept f room ts k) (ap fault-of (sym e ∙ q)) kept)
not-kept ts rest fault room k e (answers left (too_many over none q)) kept = none (subst (λ f. IsKept f room ts k) (ap fault-of (sym e ∙ q)) kept)

pub refused-truly : (ts : List Lexeme) (fault : ParseFault) (t : Lexeme) (tail : List Lexeme) → run kernel_reader ts ≡ Refused fault (t ∷ tail) →
    Before ts (t ∷ tail) (λ front. (others : List Lexeme) (room : ℕ) (k : Kernel) → IsKernel room (front ++ t ∷ others) k → IsKept fault room (front ++ t ∷ others) k → ⊥)
refused-truly ts fault t tail e = by (refused_there ts fault t tail e)
  where
    by : Before ts (t ∷ tail) (λ front. (others : List Lexeme) → run kernel_reader (front ++ t ∷ others) ≡ Refused fault (t ∷ others)) →
        Before ts (t ∷ tail) (λ front. (others : List Lexeme) (room : ℕ) (k : Kernel) → IsKernel room (front ++ t ∷ others) k → IsKept fault room (front ++ t ∷ others) k → ⊥)
    by (before front eq again) = before front eq (λ others room k h kept. not-kept (front ++ t ∷ others) (t ∷ others) fault room k (again others) (kernel-complete h) kept)

-- the whole answer
error-of : Parsed → ParseFault
error-of (Ok k) = Expected
error-of (Err e) = e.0

judged-truly : (ts : List Lexeme) (l : Kernel) (e : ParseFault × Site) (room : ℕ) → (o : Option Site) (r : Result Counts Site) → deep_statements 1 l.body ≡ o → next (count_parameters nothing_declared l.parameters) (λ c. count_statements c l.body) ≡ r → judged l (measured o r) ≡ Err e → IsKept e.0 room ts l → ⊥
unfolding error-of
judged-truly ts l e room (Some site) r p q h kept =
    let k = subst (λ f. IsKept f room ts l) (sym (ap error-of h)) kept in not-some site (sym p ∙ k.1)
judged-truly ts l e room None (Err site) p q h kept =
    let k = subst (λ f. IsKept f room ts l) (sym (ap error-of h)) kept in no-error site k.1.names.0 (sym q ∙ k.1.names.1)
judged-truly ts l e room None (Ok c) p q h kept = no-error e l (sym h)

pub parsed-truly : (ts : List Lexeme) (e : ParseFault × Site) (room : ℕ) (k : Kernel) → parsed ts ≡ Err e → IsKernel room ts k → IsKept e.0 room ts k → ⊥
unfolding parsed within_limits error-of
parsed-truly ts e room k h g kept = by (run kernel_reader ts) refl h
  where
    by : (o : Attempt Kernel) → run kernel_reader ts ≡ o → finished o ≡ Err e → ⊥
    by (Refused fault rest) q h = not-kept ts rest fault room k q (kernel-complete g) (subst (λ f. IsKept f room ts k) (sym (ap error-of h)) kept)
    by (Took l rest) q h =
        judged-truly ts l e room (deep_statements 1 l.body) (next (count_parameters nothing_declared l.parameters) (λ c. count_statements c l.body)) refl refl h
        (subst (λ k. IsKept e.0 room ts k) (only ts rest l k room q (kernel-complete g)) kept)

pub answered-truly : (answer : Result code.Kernel ParseError) (ts : List Lexeme) → Gives answer (parsed ts) → Says answer ts
answered-truly (Ok k) ts h = λ once. parsed-sound ts (kernel k) once h
answered-truly (Err (errors.At f s)) ts h = λ room k. parsed-truly ts (fault f, site s) room k h
answered-truly (Err errors.Memory) ts h = tt
