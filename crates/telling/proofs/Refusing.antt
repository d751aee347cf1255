-- What a refusal is of texts.
use Rattle.std.proofs.Common.{inl, inr, subst}
use Rattle.std.specs.Prelude.{◌≡◌, ℕ, List, Bool, false, Ok, Err}
use Rattle.semantics.specs.Conditions as meaning
use Rattle.launch_text.specs.LaunchReading.{launch_of}
use Rattle.kernel_reading.specs.Kernels.{Kernel, Source}
use Rattle.launch.specs.View.{conditions as conditions_seen, launch as launch_seen}
use Rattle.launch.specs.declared.conditions.Conditions.{Conditions}
use Rattle.launch.specs.declared.launches.Launch.{Launch}
use Rattle.launch_text.specs.View as reading
use Rattle.launch_text.specs.Answers as launches
use Rattle.launch_text.specs.declared.error.LaunchTextError.{LaunchTextError}
use Rattle.cert_check.specs.Numbers as checks
use Rattle.cert_check.specs.Numbers.{at_line}
use Rattle.cert_check.specs.Refusing.{RefusesBy}
use Rattle.cert_check.specs.declared.error.CheckError.{CheckError}
use Rattle.executor.specs.Numbers as runs
use Rattle.executor.specs.Results.{Answers}
use Rattle.executor.specs.declared.error.RunError.{RunError}
use Rattle.executor.specs.declared.error.RunError.TheVariants.{Unreckoned}
use Rattle.semantics.specs.Machines.{is_reckoned}
use Rattle.telling.specs.Telling.{AreSafeTexts}
use Rattle.telling.specs.Verdicts.{IsRefusal, Checks, Runs}
use Rattle.telling.specs.declared.Verdict.{Verdict}
use Rattle.telling.specs.declared.Verdict.TheVariants as verdicts

module _ (is_wide : Bool) (k : Source) (c p l : List ℕ) where
  pub of_check : (v : Verdict) (e : CheckError) → RefusesBy is_wide e k c p → IsRefusal (checks.error_number e) (checks.error_place e) v → Checks is_wide v k c p
  of_check (verdicts.Done text) e r h = absurd h
  of_check (verdicts.Refused line) e r h = (e, r, h)
  of_check verdicts.OutOfMemory e r h = tt

  pub unaccepted_run : (workers : ℕ) (v : Verdict) (e : CheckError) → RefusesBy is_wide e k c p → IsRefusal (checks.error_number e) (checks.error_place e) v → Runs is_wide v workers k c p l
  unaccepted_run workers (verdicts.Done text) e r h = absurd h
  unaccepted_run workers (verdicts.Refused line) e r h = inl (e, r, h)
  unaccepted_run workers verdicts.OutOfMemory e r h = tt

  pub unreckoned_run : (workers : ℕ) (v : Verdict) (e : RunError) (kernel : Kernel) (conditions : meaning.Conditions) → AreSafeTexts is_wide k c kernel conditions → (is_reckoned kernel.core ≡ false) × (e ≡ Unreckoned)
      → IsRefusal (runs.error_number e) (at_line (runs.error_line e)) v → Runs is_wide v workers k c p l
  unreckoned_run workers v e kernel conditions s r h = of_one v (subst (λ x. IsRefusal (runs.error_number x) (at_line (runs.error_line x)) v) r.1 h)
    where
      of_one : (w : Verdict) → IsRefusal (runs.error_number Unreckoned) (at_line (runs.error_line Unreckoned)) w → Runs is_wide w workers k c p l
      of_one (verdicts.Done text) g = absurd g
      of_one (verdicts.Refused line) g = inr (inl (kernel, conditions, s, r.0, g))
      of_one verdicts.OutOfMemory g = tt

  pub unread_run : (workers : ℕ) (v : Verdict) (e : LaunchTextError) (kernel : Kernel) (conditions : meaning.Conditions) → AreSafeTexts is_wide k c kernel conditions → launches.Refuses e (launch_of kernel.names.parameters l)
      → IsRefusal (launches.error_number e) (at_line (launches.error_place e)) v → Runs is_wide v workers k c p l
  unread_run workers (verdicts.Done text) e kernel conditions s r h = absurd h
  unread_run workers (verdicts.Refused line) e kernel conditions s r h = inr (inr (inl (e, kernel, conditions, s, r, h)))
  unread_run workers verdicts.OutOfMemory e kernel conditions s r h = tt

  pub not_run : (v : Verdict) (e : RunError) (kernel : Kernel) (conditions : Conditions) (launch : Launch) (workers : ℕ) → AreSafeTexts is_wide k c kernel (conditions_seen conditions) → launch_of kernel.names.parameters l ≡ Ok (reading.launch launch)
      → Answers kernel.core conditions (launch_seen launch) workers (Err e) → IsRefusal (runs.error_number e) (at_line (runs.error_line e)) v → Runs is_wide v workers k c p l
  not_run (verdicts.Done text) e kernel conditions launch workers s q r h = absurd h
  not_run (verdicts.Refused line) e kernel conditions launch workers s q r h = inr (inr (inr (e, kernel, conditions, launch, s, q, r, h)))
  not_run verdicts.OutOfMemory e kernel conditions launch workers s q r h = tt
