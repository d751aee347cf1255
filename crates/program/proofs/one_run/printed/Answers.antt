use Rattle.std.proofs.Common.{[], refl, subst}
use Rattle.std.specs.Prelude.{None}
use Rattle.telling.specs.Verdicts.{Prints}
use Rattle.program.specs.Running as running
use Rattle.program.proofs.one_run.printed.Goals as goal

pub returns-clause-verdict : goal.returns-clause-verdict
returns-clause-verdict g c = λ ws command name plain.
    let text = c.in_ok-text.text.items in
    record {
      request = running.Print c.args.kernel.now;
      texts = record { kernel = text; conditions = []; certificate = []; launch = [] };
      saved = None;
      asked = (command, name, plain);
      done = (c.text_of.new.files, c.in_ok-text.ensures.given, c.in_ok-text.ensures.text, refl);
      may_write = refl;
      is_told = subst (Prints c.print_text.result) c.deref.ensures.value c.print_text.ensures;
    }
