-- The name of a well-typed kernel.
use Rattle.std.proofs.Common.{◌≡◌, Bool, true, false, ◌||◌, Ok, refl}
use Rattle.std.specs.Prelude.{not}
use Rattle.semantics.specs.Core.{Site}
use Rattle.semantics.specs.Launch as launch
use Rattle.texts.specs.Surface.{Kernel}
use Rattle.types.specs.TypeFaults.{TypeFault, NameTwice, Checked, then, when}
use Rattle.types.specs.Scope.{Devices, Scope, empty_scope, is_one_of, reserved_names, called_names, is_compilers, is_renamed, is_taken, begins_underscored, may_name_kernel}
use Rattle.types.specs.Elaboration.{elaborate, elaborate_inside}

passes : (b : Bool) (fault : TypeFault) (site : Site) (outside : Scope) (go : Scope → Checked launch.Kernel) (core : launch.Kernel) → then (when b fault site outside) go ≡ Ok core → b ≡ true
passes true fault site outside go core h = refl
passes false fault site outside go core h = absurd cc

apart : (a b c d e : Bool) → not (a || (b || (c || (d || e)))) ≡ true → (c ≡ false) × ((b ≡ false) × (a ≡ false))
apart true b c d e h = absurd cc
apart false true c d e h = absurd cc
apart false false true d e h = absurd cc
apart false false false d e h = (refl, (refl, refl))

pub not-called : (d : Devices) (k : Kernel) (core : launch.Kernel) → elaborate d k ≡ Ok core → (is_one_of reserved_names k.name ≡ false) × ((is_one_of called_names k.name ≡ false) × (begins_underscored k.name ≡ false))
unfolding elaborate is_taken
not-called d k core h =
    apart (begins_underscored k.name) (is_one_of called_names k.name) (is_one_of reserved_names k.name) (is_compilers k.name) (is_renamed k.name)
    (passes (may_name_kernel k.name) NameTwice k.name_site (empty_scope d) (λ outside. elaborate_inside d k) core h)
