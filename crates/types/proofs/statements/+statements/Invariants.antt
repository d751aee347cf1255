use Rattle.std.proofs.Common.{◌≡◌, drop}
use Rattle.texts.specs.Declarations.{declared_by}
use Rattle.types.specs.Elaboration as elaboration
use Rattle.syntax.specs.View.{statements as stmts}
use Rattle.core_code.specs.View.{statements}
use Rattle.types.specs.Names.{scope_seen}
use Rattle.types.specs.Arounds.{around}
use Rattle.types.specs.Blocks.{behind}
use Rattle.types.specs.Rooms.{HasRoom}
use Rattle.types.proofs.statements.+statements.Given as goal

abbrev pub invariant-elaborate_all-loop-s : goal.invariant-elaborate_all-loop-s
invariant-elaborate_all-loop-s l = record {
  room : HasRoom (scope_seen l.scope) (declared_by (stmts (drop l.s-index l.body)));
  same : behind (statements l.out.items) (elaboration.elaborate_all (around l.around) (scope_seen l.scope) (stmts (drop l.s-index l.body))) ≡ behind (statements l.initial.out.items) (elaboration.elaborate_all (around l.around) (scope_seen l.initial.scope) (stmts l.body));
}
