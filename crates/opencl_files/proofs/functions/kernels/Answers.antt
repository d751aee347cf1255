use Rattle.std.proofs.Common.{◌≡◌, ◌+◌, ap, sym, ◌∙◌, take, drop}
use Rattle.std.specs.Option.{option_map}
use Rattle.opencl_files.specs.Functions as functions
use Rattle.opencl_files.specs.View.{chunks, kernel, kernels}
use Rattle.opencl_files.proofs.Finding.{found_at}
use Rattle.opencl_files.proofs.functions.kernels.Goals as goal

pub loop-at-preserved : goal.loop-at-preserved
loop-at-preserved c =
    let cs = c.args.chunks.now in
    let at = c.loop-at.at in
    c.loop-at.invariant
    ∙ found_at (kernels c.loop-at.found.items) cs at _ (option_map kernel c.kernel_in.result) c.loop-at-test.true c.kernel_in.ensures
    ∙ ap (λ ks. functions.kernels ks (chunks (take (at + 1) cs)) (chunks (drop (at + 1) cs))) (sym c.in_ok-add.ensures)
