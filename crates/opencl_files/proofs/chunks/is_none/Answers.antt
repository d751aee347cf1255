use Rattle.std.proofs.Common.{◌≡◌, sym}
use Rattle.opencl_files.proofs.Cutting.{none_if, some_if}
use Rattle.opencl_files.proofs.chunks.is_none.Goals as goal

pub returns-in-empty : goal.returns-in-empty
returns-in-empty c = sym (none_if c.args.stack.now c.in-empty.len_below)

pub returns-in_default : goal.returns-in_default
returns-in_default c = sym (some_if c.args.stack.now c.in_default.len_at_least)
