use Rattle.std.proofs.Common.{ap, sym, ◌∙◌, ◌-◌, arith, map, Some}
use Rattle.cut_proof.specs.Derivations.{entry}
use Rattle.cut_proof.specs.View.{made_form}
use Rattle.cut_proof.proofs.LineByLine.{made_none, made_is}
use Rattle.cut_proof.proofs.line_named.Goals as goal
use Rattle.cut_proof.proofs.line_named.Goals.{then-number-eq0-via-then-number-eq0, then-number-eq0-via-else-number-eq0+then-made-number}

pub returns-then-number-eq0 : goal.returns-then-number-eq0
returns-then-number-eq0 c = elim c.then-number-eq0.branch [
  | then-number-eq0-via-then-number-eq0 w ↦ ap (entry (map made_form c.args.made.now)) w.if-number-eq0.true
  | then-number-eq0-via-else-number-eq0+then-made-number w ↦ made_none c.args.made.now c.args.number w.if-made-number.true
]

pub returns : goal.returns
returns c = made_is c.args.made.now c.args.number (c.args.number - 1) c.index-made-number.result (omega arith) (omega arith) ∙ ap (λ m. Some (made_form m)) (sym c.index-made-number.is) ∙ ap Some (sym c.form_of.ensures)
