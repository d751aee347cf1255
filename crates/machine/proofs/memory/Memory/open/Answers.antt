use Rattle.std.proofs.Common.{length, map, ap, ◌∙◌, refl}
use Rattle.std.specs.Prelude.{pos, replicate}
use Rattle.core_code.specs.View.{kernel}
use Rattle.write_log.specs.Written.{words_of}
use Rattle.work_item.specs.View.{setup_of}
use Rattle.machine.proofs.Openings.{opens, shapes}
use Rattle.machine.proofs.memory.Memory.open.Goals as goal

pub returns-clause-memory : goal.returns-clause-memory
returns-clause-memory c =
    let e = rw c.as_slice.ensures.value at c.in_ok-all_filled.ensures in
    opens (setup_of c.args.core.now c.args.launch.now) c.args.groups c.args.core.now.arrays.items _ _ c.in_ok-copy.ensures e

pub returns-clause-shape : goal.returns-clause-shape
returns-clause-shape c =
    let e = rw c.as_slice.ensures.value at c.in_ok-all_filled.ensures in record {
      buffers = ap (map length) c.in_ok-copy.ensures;
      groups = shapes words_of c.in_ok-all_filled.field-0.items c.args.groups c.args.core.now.arrays.items (pos c.args.launch.now.fill) e
          ∙ ap (λ n. replicate n (map (λ a. a.length) (kernel c.args.core.now).arrays)) c.requires;
      fill = refl;
    }
