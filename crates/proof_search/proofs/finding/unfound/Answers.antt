use Rattle.proof_search.proofs.finding.unfound.Goals as goal

pub returns-in-Walk : goal.returns-in-Walk
returns-in-Walk c = c.unwalked.ensures c.args.typed.now c.args.conditions.now
