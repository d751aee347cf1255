use Rattle.std.proofs.Common.{◌≡◌, ◌++◌, map, drop}
use Rattle.two_thread.specs.Places.{rows, end_count}
use Rattle.two_thread.proofs.on_path.end_places.Given as goal

abbrev pub invariant-loop-i : goal.invariant-loop-i
invariant-loop-i g l = l.found.items ++ rows l.i (map end_count (drop l.i l.paths)) ≡ rows 0 (map end_count l.paths)
