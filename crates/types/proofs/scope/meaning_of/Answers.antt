use Rattle.std.proofs.Common.{ap, ◌∙◌, option_map}
use Rattle.types.specs.Names.{meaning_seen}
use Rattle.types.proofs.Bindings.{looked-up}
use Rattle.types.proofs.scope.meaning_of.Goals as goal

pub returns : goal.returns
returns c = ap (option_map meaning_seen) (c.copied.ensures ∙ c.get.ensures.value) ∙ looked-up c.args.visible.now.entries c.args.name.now
