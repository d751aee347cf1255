use Rattle.std.proofs.Common.{[], sym}
use Rattle.std.proofs.lemmas.List.{append-nil}
use Rattle.telling.proofs.explained.as_told.Goals as goal

pub returns : goal.returns
returns c = ([], sym (append-nil c.args.told.items))
