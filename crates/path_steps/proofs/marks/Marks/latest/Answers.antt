use Rattle.std.proofs.Common.{◌∙◌}
use Rattle.path_steps.proofs.Marking.{found_none, found_some}
use Rattle.path_steps.proofs.marks.Marks.latest.Goals as goal

pub returns-in-Some : goal.returns-in-Some
returns-in-Some g c = found_some c.args.found c.in-Some.element.now c.args.self.now.from c.args.narrowed.now c.args.symbol.number (c.in-Some.ensures.value ∙ c.requires.1 c.args.symbol.number)

pub returns-in-None : goal.returns-in-None
returns-in-None g c = c.latest.ensures ∙ found_none c.args.found c.args.self.now.from c.args.narrowed.now c.args.symbol.number (c.in-None.ensures.value ∙ c.requires.1 c.args.symbol.number)
