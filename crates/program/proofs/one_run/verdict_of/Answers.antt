use Rattle.std.proofs.Common.{rules, ◌≡◌, [], refl}
use Rattle.std.specs.Prelude.{None}
use Rattle.command_line.specs.Words.{texts}
use Rattle.program.specs.Running as running
use Rattle.program.proofs.one_run.verdict_of.Goals as goal

pub returns-in-Ok-First-clause-verdict : goal.returns-in-Ok-First-clause-verdict
returns-in-Ok-First-clause-verdict g c =
    let wordless : texts c.args.words.now ≡ [] = search rules in
    record {
      request = running.CheckOwn;
      texts = record { kernel = []; conditions = []; certificate = []; launch = [] };
      saved = None;
      asked = wordless;
      done = refl;
      may_write = refl;
      is_told = c.first_verdict.ensures;
    }
