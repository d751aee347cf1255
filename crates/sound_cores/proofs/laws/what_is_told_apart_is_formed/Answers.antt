use Rattle.std.proofs.Common.{[]}
use Rattle.sound_cores.proofs.Forming.{told-formed}
use Rattle.sound_cores.proofs.Pointing.{points-numbered}
use Rattle.sound_cores.proofs.laws.what_is_told_apart_is_formed.Goals as goal

pub returns : goal.returns
returns c = record { formed = told-formed; numbered = λ ss t. points-numbered ss [] t.once }
