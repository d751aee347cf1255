use Rattle.words.specs.View.{kind}
use Rattle.core_code.specs.View.{site}
use Rattle.walk_trees.specs.Contents.{of_buffer}
use Rattle.path_steps.specs.View.{followed, value, setting as seen}
use Rattle.path_steps.proofs.Lines.{keep_none, keep_some}
use Rattle.path_steps.proofs.contents.keep_of_buffer.Goals as goal

pub returns : goal.returns
returns g c =
    let s = seen g.D.Domain c.args.setting.now in
    keep_some s (of_buffer c.args.buffer s.contents) (kind c.args.kind) (site c.args.site) (value c.args.value) c.is_free.result (followed c.args.path.now) (followed c.keep_lines.new.path) c.keep_lines.result c.is_free.ensures c.if-is_free.false c.keep_lines.ensures

pub returns-then-is_free : goal.returns-then-is_free
returns-then-is_free g c =
    let s = seen g.D.Domain c.args.setting.now in
    keep_none s (of_buffer c.args.buffer s.contents) (kind c.args.kind) (site c.args.site) (value c.args.value) c.is_free.result (followed c.args.path.now) c.is_free.ensures c.if-is_free.true
