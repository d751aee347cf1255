use Rattle.std.proofs.Common.{◌≡◌, drop, map, []}
use Rattle.kernel_names.specs.View.{standing}
use Rattle.certificate_notes.specs.Scenes.{all_around}
use Rattle.certificate_notes.proofs.scenes.around_of.Given as goal

abbrev pub invariant-loop-standing : goal.invariant-loop-standing
invariant-loop-standing l = all_around l.number (map standing (drop l.standing-index l.statements)) l.around.items ≡ all_around l.number (map standing l.statements) []
