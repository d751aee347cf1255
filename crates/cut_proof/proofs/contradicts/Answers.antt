use Rattle.std.proofs.Common.{rules, SFits, w64}
use Rattle.std.proofs.lemmas.Int.{to_z-of_z}
use Rattle.cut_proof.proofs.Entries.{alone, not_alone}
use Rattle.cut_proof.proofs.contradicts.Goals as goal

pub returns-then-is_empty : goal.returns-then-is_empty
returns-then-is_empty c =
    let f : SFits w64 c.constant_part.result = search rules in
    simp to_z-of_z (alone _ _ c.constant_part.result _ _ c.terms.ensures c.is_empty.ensures c.if-is_empty.true c.constant_part.ensures)

pub returns-else-is_empty : goal.returns-else-is_empty
returns-else-is_empty c = not_alone _ _ c.args.line.now.constant _ c.terms.ensures c.is_empty.ensures c.if-is_empty.false
