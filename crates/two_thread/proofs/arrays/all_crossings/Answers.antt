use Rattle.std.proofs.Common.{◌≡◌, ◌++◌, ap, ◌∙◌, map, length}
use Rattle.semantics.specs.Core.{Global, Local}
use Rattle.core_code.specs.View.{kernel, local_array, statements}
use Rattle.words.specs.View.{kind}
use Rattle.facts.proofs.Unmade.{handed}
use Rattle.launch.specs.View.{conditions}
use Rattle.obligations.specs.Crossings.{crossings_from, is_fenced, crossings}
use Rattle.two_thread.specs.View.{crossing, met_accesses}
use Rattle.two_thread.proofs.ArrayLists.{space_is}
use Rattle.two_thread.proofs.Limits.{over_first, over_last}
use Rattle.two_thread.proofs.arrays.all_crossings.Goals as goal

pub returns-in_err-crossings_from-clause-exact : goal.returns-in_err-crossings_from-clause-exact
returns-in_err-crossings_from-clause-exact g c =
    let us = met_accesses c.args.met.now in
    let k = kernel c.args.core.now in
    let cs = conditions c.args.conditions.now in
    let one = crossings_from k.sizes cs (λ _. c.is_fenced-global.result) us Global 0 c.as_slice-buffers.result.now in
    let d : one ≡ crossings_from k.sizes cs (is_fenced k.body) us Global 0 k.buffers = space_is k.sizes cs us kind c.is_fenced-global.result (is_fenced k.body) Global c.as_slice-buffers.result.now c.args.core.now.buffers.items c.as_slice-buffers.ensures.value (c.is_fenced-global.ensures ∙ ap (λ b. is_fenced (statements b) Global) c.as_slice-body.ensures.value) in
    let rest = crossings_from k.sizes cs (is_fenced k.body) us Local 0 k.arrays in
    handed c.from_residual.result c.in_err-crossings_from.field-0.0 _ _ c.from_residual.ensures
    (over_first c.args.most (length c.new-found.result.items) c.in_err-crossings_from.field-0.0 one rest (crossings k cs us) (ap (λ l. l ++ rest) d) (ap length c.new-found.ensures.items) c.in_err-crossings_from.ensures.exact)

pub returns-in_err-crossings_from-2-clause-exact : goal.returns-in_err-crossings_from-2-clause-exact
returns-in_err-crossings_from-2-clause-exact g c =
    let us = met_accesses c.args.met.now in
    let k = kernel c.args.core.now in
    let cs = conditions c.args.conditions.now in
    let one = crossings_from k.sizes cs (λ _. c.is_fenced-global.result) us Global 0 c.as_slice-buffers.result.now in
    let d : one ≡ crossings_from k.sizes cs (is_fenced k.body) us Global 0 k.buffers = space_is k.sizes cs us kind c.is_fenced-global.result (is_fenced k.body) Global c.as_slice-buffers.result.now c.args.core.now.buffers.items c.as_slice-buffers.ensures.value (c.is_fenced-global.ensures ∙ ap (λ b. is_fenced (statements b) Global) c.as_slice-body.ensures.value) in
    let two = crossings_from k.sizes cs (λ _. c.is_fenced-local.result) us Local 0 c.as_slice-arrays.result.now in
    let e : two ≡ crossings_from k.sizes cs (is_fenced k.body) us Local 0 k.arrays = space_is k.sizes cs us local_array c.is_fenced-local.result (is_fenced k.body) Local c.as_slice-arrays.result.now c.args.core.now.arrays.items c.as_slice-arrays.ensures.value (c.is_fenced-local.ensures ∙ ap (λ b. is_fenced (statements b) Local) c.as_slice-body.ensures.value) in
    handed c.from_residual-in_err-crossings_from-2.result c.in_err-crossings_from-2.field-0.0 _ _ c.from_residual-in_err-crossings_from-2.ensures
    (over_last (crossing us) c.args.most c.in_err-crossings_from-2.field-0.0 c.crossings_from.new.found.items one two (crossings k cs us) (λ i. d i ++ e i) (c.in_ok-crossings_from.ensures.exact ∙ ap (λ l. map (crossing us) l ++ one) c.new-found.ensures.items) c.in_err-crossings_from-2.ensures.exact)

pub returns-clause-exact : goal.returns-clause-exact
returns-clause-exact g c =
    let us = met_accesses c.args.met.now in
    let k = kernel c.args.core.now in
    let cs = conditions c.args.conditions.now in
    let one = crossings_from k.sizes cs (λ _. c.is_fenced-global.result) us Global 0 c.as_slice-buffers.result.now in
    let d : one ≡ crossings_from k.sizes cs (is_fenced k.body) us Global 0 k.buffers = space_is k.sizes cs us kind c.is_fenced-global.result (is_fenced k.body) Global c.as_slice-buffers.result.now c.args.core.now.buffers.items c.as_slice-buffers.ensures.value (c.is_fenced-global.ensures ∙ ap (λ b. is_fenced (statements b) Global) c.as_slice-body.ensures.value) in
    let two = crossings_from k.sizes cs (λ _. c.is_fenced-local.result) us Local 0 c.as_slice-arrays.result.now in
    let e : two ≡ crossings_from k.sizes cs (is_fenced k.body) us Local 0 k.arrays = space_is k.sizes cs us local_array c.is_fenced-local.result (is_fenced k.body) Local c.as_slice-arrays.result.now c.args.core.now.arrays.items c.as_slice-arrays.ensures.value (c.is_fenced-local.ensures ∙ ap (λ b. is_fenced (statements b) Local) c.as_slice-body.ensures.value) in
    c.in_ok-crossings_from-2.ensures.exact ∙ ap (λ l. l ++ two) (c.in_ok-crossings_from.ensures.exact ∙ ap (λ l. map (crossing us) l ++ one) c.new-found.ensures.items) ∙ (λ i. d i ++ e i)
