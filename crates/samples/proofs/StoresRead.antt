-- Four stores, read by computation.
use Rattle.std.proofs.Common.{◌≡◌, ℕ, ◌≤◌, arith, refl, sym, subst, []}
use Rattle.std.specs.Prelude.{Ok, pos, ◌≤ℤ◌}
use Rattle.std.proofs.lemmas.Int.{ints}
use Rattle.semantics.specs.Launch.{Kernel}
use Rattle.semantics.specs.Conditions.{Conditions}
use Rattle.plain_kernels.specs.Kernels.{Alone, Times, Plus, TimesPlus, Number, BroughtNumber, BroughtParameter, Plain, ArePlain, IsPlain, last_index}
use Rattle.texts.specs.Signs.{signs}
use Rattle.texts.specs.Reserved.{reserved_words}
use Rattle.texts.specs.Limits.{within_limits}
use Rattle.types.specs.Scope.{Bits32, reserved_names, called_names, is_taken}
use Rattle.types.specs.Typing.{type_of, types_of, function_named, left_out_names, is_left_out}
use Rattle.types.specs.Elaboration.{elaborate_assignment, elaborate_declaration, elaborate_statement, elaborate_all, elaborate_inside, elaborate}
use Rattle.parser.specs.Expressions.{chain, ranked, more_arguments, arguments, inside, operand_reader, expression_reader}
use Rattle.parser.specs.Heads.{ended}
use Rattle.parser.specs.Kernels.{buffer_reader, value_reader, parameter_reader, more_parameters, parameters_reader, sizes_reader, attribute_reader, kernel_reader}
use Rattle.parser.specs.Parsed.{parsed}
use Rattle.parser.specs.Statements.{assigned_reader, index_reader, assignment_reader, declaration_reader, first_reader, tested, parts_reader, head_reader, items, named, array_reader, statement_reader, body_reader, block_reader, item_reader}
use Rattle.reading.specs.Kernels.{read, text_for}
use Rattle.samples.specs.Stores.{stores, kernel_of}

pub stores_read : read (text_for Bits32 stores) ≡ Ok (kernel_of (read (text_for Bits32 stores)))
unfolding read signs reserved_words within_limits reserved_names called_names is_taken type_of types_of function_named left_out_names is_left_out elaborate_assignment elaborate_declaration elaborate_statement elaborate_all elaborate_inside elaborate chain ranked more_arguments arguments inside operand_reader expression_reader ended buffer_reader value_reader parameter_reader more_parameters parameters_reader sizes_reader attribute_reader kernel_reader parsed assigned_reader index_reader assignment_reader declaration_reader first_reader tested parts_reader head_reader items named array_reader statement_reader body_reader block_reader item_reader
stores_read = refl

-- the last index of each is below 2^32
near : (f z : ℕ) → f ≤ 2 → z ≤ 3 → last_index 4 (pos 1024) f z ≤ℤ pos 4294967295
near f z a b = omega (arith, ints, a, b)

abbrev pub found : Kernel
found = (kernel_of (read (text_for Bits32 stores))).core

pub are_plain : ArePlain found.arguments found.sizes.x (pos 1024) found.body
unfolding read signs reserved_words within_limits reserved_names called_names is_taken type_of types_of function_named left_out_names is_left_out elaborate_assignment elaborate_declaration elaborate_statement elaborate_all elaborate_inside elaborate chain ranked more_arguments arguments inside operand_reader expression_reader ended buffer_reader value_reader parameter_reader more_parameters parameters_reader sizes_reader attribute_reader kernel_reader parsed assigned_reader index_reader assignment_reader declaration_reader first_reader tested parts_reader head_reader items named array_reader statement_reader body_reader block_reader item_reader
are_plain = (
  Plain _ _ _ _ 1 0 _ Alone (near 1 0 (omega arith) (omega arith)) (Number 1 refl),
  (
    Plain _ _ _ _ 2 0 _ (Times _ _ 2 refl) (near 2 0 (omega arith) (omega arith)) (BroughtParameter _ 0 (omega arith)),
    (
      Plain _ _ _ _ 1 3 _ (Plus _ _ 3 refl) (near 1 3 (omega arith) (omega arith)) (BroughtNumber _ 1 refl),
      (
        Plain _ _ _ _ 2 3 _ (TimesPlus _ _ _ _ 2 3 refl refl) (near 2 3 (omega arith) (omega arith)) (Number 7 refl),
        tt,
      ),
    ),
  ),
)

pub plain_there : (c : Conditions) → c.groups.x.high ≡ pos 1024 → c.contents ≡ [] → IsPlain found c
plain_there c e free = (subst (λ z. ArePlain found.arguments found.sizes.x z found.body) (sym e) are_plain, free)
