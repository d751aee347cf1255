use Rattle.std.proofs.Common.{rules, ◌∙◌, SFits, w64}
use Rattle.std.proofs.lemmas.Int.{to_z-of_z}
use Rattle.path_walk.proofs.BitPlaces.{no_width, wider}
use Rattle.path_walk.proofs.widths.widest.Goals as goal

pub loop-smaller-init : goal.loop-smaller-init
loop-smaller-init c = no_width _

pub loop-smaller-preserved : goal.loop-smaller-preserved
loop-smaller-preserved c =
    let z : SFits w64 c.width_or-found.result = search rules in
    to_z-of_z w64 c.width_or-found.result z ∙ wider c.loop-smaller.smaller _ _ c.width_or-found.result c.loop-smaller.invariant c.width_or-found.ensures
