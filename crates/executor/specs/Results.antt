-- What a run answers.
use Rattle.std.specs.Prelude.{◌≡◌, ◌≤◌, ◌<◌, ◌⊎◌, ℕ, true, false, Result, Ok, Err, Some, None}
use Rattle.semantics.specs.Launch as launches
use Rattle.launch.specs.Unmet.{unmet}
use Rattle.launch.specs.declared.conditions.Conditions.{Conditions}
use Rattle.launch.specs.declared.launches.Buffers.{Buffers}
use Rattle.semantics.specs.Machines.{is_reckoned}
use Rattle.executor.specs.declared.error.RunError.{RunError}
use Rattle.executor.specs.declared.error.RunError.TheVariants as errors

abbrev pub AreWorkers : ℕ → Type 0
AreWorkers n = (1 ≤ n) × (n ≤ 64)

abbrev pub AreNoWorkers : ℕ → Type 0
AreNoWorkers n = (n ≡ 0) ⊎ (64 < n)

-- whether an operation that is not reckoned stands in the kernel; then the first condition that is not met, else too few or too many
-- workers, else buffers or want of memory
abbrev pub Answers : launches.Kernel → Conditions → launches.Launch → ℕ → Result Buffers RunError → Type 0
Answers k c l workers (Ok b) = (is_reckoned k ≡ true) × (unmet c l ≡ None) × AreWorkers workers
Answers k c l workers (Err errors.Unreckoned) = is_reckoned k ≡ false
Answers k c l workers (Err (errors.Condition e)) = (is_reckoned k ≡ true) × (unmet c l ≡ Some e.line)
Answers k c l workers (Err errors.Workers) = (is_reckoned k ≡ true) × (unmet c l ≡ None) × AreNoWorkers workers
Answers k c l workers (Err errors.Memory) = (is_reckoned k ≡ true) × (unmet c l ≡ None) × AreWorkers workers
