use Rattle.std.proofs.Common.{ap, sym, ◌∙◌, ◌-◌, arith, Some}
use Rattle.linear.specs.Forms.{form, forms}
use Rattle.cut_proof.specs.Derivations.{entry}
use Rattle.cut_proof.proofs.Entries.{entry_none, entry_is}
use Rattle.cut_proof.proofs.named.Goals as goal
use Rattle.cut_proof.proofs.named.Goals.{then-number-eq0-via-then-number-eq0, then-number-eq0-via-else-number-eq0+then-made-number}

pub returns-then-number-eq0 : goal.returns-then-number-eq0
returns-then-number-eq0 c = elim c.then-number-eq0.branch [
  | then-number-eq0-via-then-number-eq0 w ↦ ap (entry (forms c.args.made.now)) w.if-number-eq0.true
  | then-number-eq0-via-else-number-eq0+then-made-number w ↦ entry_none c.args.made.now c.args.number w.if-made-number.true
]

pub returns : goal.returns
returns c = entry_is c.args.made.now c.args.number (c.args.number - 1) c.index-made-number.result (omega arith) (omega arith) ∙ ap (λ f. Some (form f)) (sym c.index-made-number.is)
