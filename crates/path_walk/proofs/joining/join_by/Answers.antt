use Rattle.std.proofs.Common.{sym, ◌∙◌}
use Rattle.linear.specs.Forms.{form}
use Rattle.path_walk.proofs.BitPlaces.{found_bit}
use Rattle.path_walk.proofs.joining.join_by.Goals as goal

pub bit_times-number-requires : goal.bit_times-number-requires
bit_times-number-requires g c = found_bit (form c.args.right.now) c.in-Some.lowest (sym c.bit_in.ensures ∙ c.in-Some.is)

pub with_bit-requires-clause-few : goal.with_bit-requires-clause-few
with_bit-requires-clause-few g c = found_bit (form c.args.right.now) c.in-Some.lowest (sym c.bit_in.ensures ∙ c.in-Some.is)
