use Rattle.std.proofs.Common.{◌≡◌, [], drop}
use Rattle.core_code.specs.View.{site}
use Rattle.opencl_values.specs.Members.{picked_behind}
use Rattle.opencl_values.proofs.members.picked_by.Given as goal

abbrev pub invariant-loop-letter : goal.invariant-loop-letter
invariant-loop-letter l =
    picked_behind (site l.at) l.width l.numbered l.picked.items (drop l.letter-index l.letters) ≡ picked_behind (site l.at) l.width l.numbered [] l.letters
