use Rattle.std.proofs.Common.{◌≡◌, drop}
use Rattle.opencl_parser.specs.TypeNames as names
use Rattle.opencl_parser.specs.View.{all_known}
use Rattle.opencl_parser.proofs.type_words.look_up.Given as goal

abbrev pub invariant-loop-known : goal.invariant-loop-known
invariant-loop-known l = names.known (all_known (drop l.known-index l.types)) l.name ≡ names.known (all_known l.types) l.name
