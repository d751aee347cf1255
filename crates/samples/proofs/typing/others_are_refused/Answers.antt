use Rattle.std.proofs.Common.{refl}
use Rattle.types.specs.Scope.{reserved_names, called_names, is_taken}
use Rattle.types.specs.Typing.{type_of, types_of, function_named, left_out_names, is_left_out}
use Rattle.types.specs.Elaboration.{elaborate_assignment, elaborate_declaration, elaborate_statement, elaborate_all, elaborate_inside, elaborate}
use Rattle.samples.proofs.typing.others_are_refused.Goals as goal

pub returns : goal.returns
unfolding reserved_names called_names is_taken type_of types_of function_named left_out_names is_left_out elaborate_assignment elaborate_declaration elaborate_statement elaborate_all elaborate_inside elaborate
returns c = record { own_initialiser = refl; shadowed = refl; constant = refl; loaded_index = refl; inner_array = refl; barrier = refl; called = refl; compilers = refl; renamed = refl }
