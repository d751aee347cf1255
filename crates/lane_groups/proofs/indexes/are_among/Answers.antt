use Rattle.std.proofs.Common.{refl, subst}
use Rattle.semantics.specs.Word.{Word}
use Rattle.lane_groups.specs.Registers.{lane_word}
use Rattle.lane_groups.specs.Sources.{IsAmong}
use Rattle.lane_groups.proofs.Flagged.{flag_more}
use Rattle.lane_groups.proofs.indexes.are_among.Goals as goal

pub loop-lane-preserved : goal.loop-lane-preserved
loop-lane-preserved c =
    flag_more (λ k. IsAmong c.args.length (lane_word c.args.indexes k)) c.loop-lane.all _ c.is_among-all.result c.loop-lane.lane refl c.loop-lane.invariant
    (λ t. subst (λ (w : Word). IsAmong c.args.length w) c.own.ensures (c.is_among-all.ensures t))
