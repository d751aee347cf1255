use Rattle.command_line.specs.Words.{texts}
use Rattle.program.specs.Running.{Does}
use Rattle.program.proofs.Verdicts.{output_of}
use Rattle.program.proofs.one_run.tool_watched.Goals as goal

pub returns-in-Ok-clause-output : goal.returns-in-Ok-clause-output
returns-in-Ok-clause-output g c =
    output_of (Does g.F.Files.contents g.F.Files.gives c.args.files.now c.verdict_of.new.files) (texts c.args.words.now) (g.O.Write.contents c.args.out.now) (g.O.Write.contents c.told.new.out) c.told.result
    c.in-Ok.verdict c.in-Ok.ensures.verdict c.told.ensures
