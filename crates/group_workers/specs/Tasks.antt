-- What the workers of a run have in common.
use Rattle.std.specs.Prelude.{◌≡◌, ℕ, true}
use Rattle.semantics.specs.Launch.{Fits}
use Rattle.semantics.specs.Setup.{Setup, group_count}
use Rattle.lanes.specs.Lowering.{lowered}
use Rattle.core_code.specs.View.{kernel}
use Rattle.kernel_code.specs.View.{block}
use Rattle.launch.specs.View.{launch}
use Rattle.work_item.specs.Proper.{is_proper}
use Rattle.work_item.specs.View.{setup_of}
use Rattle.lane_groups.specs.Logs.{lane_log}
use Rattle.group_workers.specs.Writing.{Log}
use Rattle.group_workers.specs.declared.task.Task.{Task}

abbrev pub setup : Task → Setup
setup t = setup_of t.core.now t.launch.now

abbrev pub groups : Task → ℕ
groups t = group_count (setup t)

-- the logs of its groups
abbrev pub logs_of : Task → ℕ → Log
logs_of t = lane_log (setup t) t.budget

-- a proper kernel with its lane code at a launch that fits it, the logs of its groups, and their number
pub record IsTask (logs : ℕ → Log) (count : ℕ) (t : Task) : Type 0 where
  pub proper : is_proper (kernel t.core.now) ≡ true
  pub fits : Fits (kernel t.core.now) (launch t.launch.now)
  pub code : block t.code.now ≡ lowered (kernel t.core.now)
  pub own : logs ≡ logs_of t
  pub all : count ≡ groups t
