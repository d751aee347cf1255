use Rattle.std.proofs.Common.{length}
use Rattle.group_workers.proofs.running.run_next.Given as goal

-- the number of workers that are on
abbrev pub ghosts-run_window : goal.ghosts-run_window
ghosts-run_window g a = record { workers = length a.on.now }
