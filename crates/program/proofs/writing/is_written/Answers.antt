use Rattle.std.proofs.Common.{length-drop, take, arith, sym, subst}
use Rattle.std.specs.Io.KnownBytes.{Appends}
use Rattle.std.proofs.KnownBytes.{Appends-kept}
use Rattle.std.proofs.lemmas.List.{take_rest}
use Rattle.program.proofs.Gains.{gained}
use Rattle.program.proofs.writing.is_written.Goals as goal
use Rattle.program.proofs.writing.is_written.Goals.{in-Ok, in-Err}

pub loop-preserved : goal.loop-preserved
loop-preserved g c =
    let old = g.W.Write.contents c.args.to.now in
    let new = g.W.Write.contents c.write.new.self in
    let text = c.args.text.now in
    let so_far = c.loop.invariant.taken in
    elim c.match-write.branch [
      | in-Ok w ↦
          let bound = simp (take_rest, length-drop) at w.in-Ok.ensures.bound in record {
            within = omega arith;
            taken = subst (λ n. Appends old new (take n text)) (sym w.at-is) (gained old _ new text c.loop.at w.in-Ok.taken so_far w.in-Ok.ensures.bytes);
          }
      | in-Err w ↦ record {
        within = omega arith;
        taken = subst (λ n. Appends old new (take n text)) (sym w.at-is) (Appends-kept old _ new _ so_far w.in-Err.ensures.bytes);
      }
    ]
