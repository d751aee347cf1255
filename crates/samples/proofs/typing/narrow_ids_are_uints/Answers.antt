use Rattle.std.proofs.Common.{refl}
use Rattle.types.specs.Typing.{type_of, types_of, function_named, left_out_names, is_left_out}
use Rattle.samples.proofs.typing.narrow_ids_are_uints.Goals as goal

pub returns : goal.returns
unfolding type_of types_of function_named left_out_names is_left_out
returns c = record { added = refl; shifted = refl; least = refl }
