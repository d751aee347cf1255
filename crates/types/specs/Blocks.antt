-- Statements behind others, and blocks.
use Rattle.std.specs.Prelude.{ℕ, Ok}
use Rattle.semantics.specs.Core as core
use Rattle.texts.specs.Surface as surface
use Rattle.types.specs.TypeFaults.{Checked, then}
use Rattle.types.specs.Scope.{Scope, leave_block}
use Rattle.types.specs.Typing.{type_of}
use Rattle.types.specs.Elaboration.{Elaborated, elaborated, single, join, elaborate_assignment, Around, InLoop, inside, elaborate_all}

-- what is typed comes behind these statements
abbrev pub behind : core.Statements → Checked Elaborated → Checked Elaborated
behind before answer = then answer (λ e. Ok (elaborated (join before e.statements) e.scope))

-- a block that stands there: at its end its names go
abbrev pub block : Around → Scope → surface.Statements → Checked Elaborated
block around outer body = then (elaborate_all (inside around) outer body) (λ b. Ok (elaborated b.statements (leave_block outer b.scope)))

-- the test and the update of a loop
abbrev pub turn : Scope → surface.Expression → surface.Assignment → Checked (core.Term × core.Statement)
turn scope test update = then (type_of scope.devices scope.visible test) (λ t. then (elaborate_assignment scope update) (λ u. Ok (t.term, u)))

-- a loop with an update, its scope that of its first part
abbrev pub repeated : Scope → ℕ → surface.Expression → surface.Assignment → surface.Statements → Checked Elaborated
repeated scope n test update body =
    then (turn scope test update) (λ u. then (block (InLoop n) scope body) (λ x. Ok (elaborated (single (core.Loop n u.0 x.statements (single u.1))) x.scope)))

-- the second part of an `if`, after its first
abbrev pub otherwise : Around → Scope → ℕ → core.Term → core.Statements → surface.Statements → Checked Elaborated
otherwise around scope n test taken skipped =
    then (block around scope skipped) (λ x. Ok (elaborated (single (core.If n test taken x.statements)) x.scope))
