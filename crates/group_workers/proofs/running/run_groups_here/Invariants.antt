use Rattle.write_log.specs.Written.{words_of}
use Rattle.group_workers.specs.Tasks.{groups, logs_of}
use Rattle.group_workers.proofs.running.run_groups_here.Given as goal

-- the run's own logs, their number, and what the buffers have before
abbrev pub ghosts-run_as_here : goal.ghosts-run_as_here
ghosts-run_as_here a = record { logs = logs_of a.task; count = groups a.task; before = words_of a.buffers.now }
