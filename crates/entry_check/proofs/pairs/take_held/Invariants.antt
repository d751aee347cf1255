use Rattle.std.proofs.Common.{◌≡◌, ◌++◌, drop}
use Rattle.entry_check.specs.Rows.{TakesPairs, all_pairs, held_rows, left_rows}
use Rattle.entry_check.specs.Tallies.{IsSound}
use Rattle.entry_check.proofs.pairs.take_held.Given as goal

abbrev pub invariant-loop-i : goal.invariant-loop-i
invariant-loop-i g l = record {
  held : l.met.paths.items ≡ l.fn.met.paths.items;
  sound : IsSound l.tally;
  takes : TakesPairs g.D.Domain l.asked l.kind (all_pairs l.asked l.terrain l.kind (held_rows l.kind l.fn.met ++ left_rows g.D.Domain l.terrain l.kind l.behind)) (all_pairs l.asked l.terrain l.kind (drop l.i (held_rows l.kind l.fn.met) ++ left_rows g.D.Domain l.terrain l.kind l.behind)) l.fn.tally l.tally;
}
