use Rattle.launch_text.proofs.Versions.{read_alike}
use Rattle.launch_text.proofs.laws.texts_of_version_1_are_read_alike.Goals as goal

pub returns : goal.returns
returns c = read_alike
