use Rattle.std.proofs.Common.{◌∙◌}
use Rattle.std.specs.Option.{option_map}
use Rattle.kernel_reading.specs.Kernels.{text_under}
use Rattle.kernel_reading.specs.Sources.{reading as reading_seen}
use Rattle.program.specs.Running.{Does}
use Rattle.program.specs.Verdicts.{Tells, Kept}
use Rattle.program.proofs.Verdicts.{tells, follows}
use Rattle.program.proofs.one_run.proved.Goals as goal

pub returns-clause-verdict : goal.returns-clause-verdict
returns-clause-verdict g c = λ ws command search.
    let f = c.in_ok-sought.ensures.reads in
    let s = c.args.search in
    let before = c.args.files.now in
    let next = c.searched.new.files in
    let after = c.kept.new.files in
    let d = reading_seen s.reading in
    let out = option_map (λ w. w.now) s.out in
    follows c.kept.result (Kept g.F.Files.contents next after out s.is_wide s.workers (text_under d f.1 f.0) f.1) (Tells (Does g.F.Files.contents g.F.Files.gives before after) ws)
    (λ v h. tells g.F.Files.contents g.F.Files.gives before next after ws s.kernel.now s.conditions.now f.0 f.1 s.workers out s.is_wide d v (command, search.kernel, search.conditions, search.workers, search.out, search.wide, search.reading) f.2 h)
    (c.kept.ensures.verdict s.is_wide s.workers (text_under d f.1 f.0) f.1 f.3)

pub returns-clause-others : goal.returns-clause-others
returns-clause-others g c = λ n h. c.kept.ensures.others n h ∙ c.searched.ensures.same n
