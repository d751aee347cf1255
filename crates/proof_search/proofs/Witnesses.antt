-- What a replay confirms is true of the kernel under the conditions that the launch meets.
use Rattle.std.specs.Prelude.{List, Option, Some, None, Result, Ok, Err, IfSome, IfOk}
use Rattle.std.specs.declared.alloc.AllocError.{AllocError}
use Rattle.semantics.specs.Conditions.{Conditions, Meets}
use Rattle.semantics.specs.Launch.{Launch, Fits}
use Rattle.semantics.specs.World.{Event}
use Rattle.kernel_reading.specs.Kernels.{Kernel}
use Rattle.kernel_reading.specs.Answers.{kernel_seen}
use Rattle.kernel_names.specs.View.{names_seen}
use Rattle.typed_kernels.specs.TypedKernel.{TypedKernel}
use Rattle.core_code.specs.View.{kernel as core_seen}
use Rattle.launch.specs.View.{conditions as conditions_seen, launch as launch_seen}
use Rattle.launch.specs.declared.conditions.Conditions as code
use Rattle.launch.specs.declared.launches.Launch as launches
use Rattle.work_item.specs.View.{setup_of}
use Rattle.findings.specs.Findings.{Finding}
use Rattle.findings.specs.View.{finding as finding_seen}
use Rattle.findings.specs.declared.finding.Finding as findings
use Rattle.diagnostics.specs.Confirming.{IsConfirmed}
use Rattle.proof_search.specs.Findings.{IsWitness, IsTrue}

scheduled : (k : Kernel) (c : Conditions) (f : Finding) (l : Launch) → IsWitness k c f l → (o : Option (List Event)) → IfSome o (λ events. (l : Launch) × IsWitness k c f l)
scheduled k c f l w None = tt
scheduled k c f l w (Some events) = (l, w)

module _ (t : TypedKernel) (c : code.Conditions) (l : launches.Launch) (fits : Fits (core_seen t.1) (launch_seen l)) (meets : Meets (conditions_seen c) (launch_seen l)) where
  of_finding : (f : findings.Finding) → IsConfirmed (setup_of t.1 l) (names_seen t.0) (finding_seen f) → IsTrue (kernel_seen t) (conditions_seen c) (finding_seen f)
  of_finding f h = scheduled (kernel_seen t) (conditions_seen c) (finding_seen f) (launch_seen l) (record { fits = fits; meets = meets; shown = h }) (finding_seen f).schedule

  of_option : (o : Option findings.Finding) → IfSome o (λ f. IsConfirmed (setup_of t.1 l) (names_seen t.0) (finding_seen f)) → IfSome o (λ f. IsTrue (kernel_seen t) (conditions_seen c) (finding_seen f))
  of_option None h = tt
  of_option (Some f) h = of_finding f h

  pub of_answer : (r : Result (Option findings.Finding) AllocError) → IfOk r (λ o. IfSome o (λ f. IsConfirmed (setup_of t.1 l) (names_seen t.0) (finding_seen f))) → IfOk r (λ o. IfSome o (λ f. IsTrue (kernel_seen t) (conditions_seen c) (finding_seen f)))
  of_answer (Ok o) h = of_option o h
  of_answer (Err e) h = tt
