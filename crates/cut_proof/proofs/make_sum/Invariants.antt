use Rattle.std.proofs.Common.{◌≡◌, drop, map}
use Rattle.linear.specs.Forms.{form}
use Rattle.cut_proof.specs.Derivations.{add_parts, nothing}
use Rattle.cut_proof.specs.View.{made_form}
use Rattle.cut_proof.proofs.make_sum.Given as goal

abbrev pub invariant-loop-part : goal.invariant-loop-part
invariant-loop-part l = add_parts (map made_form l.made) l.before (form l.total) (drop l.part-index l.parts) ≡ add_parts (map made_form l.made) 0 nothing l.parts
