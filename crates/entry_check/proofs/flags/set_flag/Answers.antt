use Rattle.certificate.specs.View.{entry}
use Rattle.entry_check.proofs.Flagging.{flag_more}
use Rattle.entry_check.proofs.flags.set_flag.Goals as goal

pub returns : goal.returns
returns c = λ es f. flag_more es (entry c.args.entry.now) c.args.flags.now.items c.set_at.new.flags.items c.set_at.ensures f
