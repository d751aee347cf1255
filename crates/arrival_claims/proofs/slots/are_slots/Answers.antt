use Rattle.std.proofs.Common.{◌≡◌, ◌+◌, ◌&&◌, length, map, drop, sym, ap, ◌∙◌, arith}
use Rattle.std.proofs.lemmas.List.{length-map}
use Rattle.words.specs.View.{kind}
use Rattle.core_code.specs.View.{kernel}
use Rattle.path_steps.specs.View.{value}
use Rattle.obligations.specs.Roots.{kinds, are_slots}
use Rattle.arrival_claims.proofs.EachSlot.{slots_unequal, count_kinds, next_slot}
use Rattle.arrival_claims.proofs.slots.are_slots.Goals as goal

pub returns-then-values-len : goal.returns-then-values-len
returns-then-values-len c =
    let vs = c.args.values.now in
    let k = kernel c.args.core.now in
    sym (slots_unequal k 0 (kinds k) (map value vs) (λ e. omega (arith, e, count_kinds c.args.core.now, length-map vs value, c.if-values-len.true, c.len.ensures, c.len-2.ensures)))

pub returns-then-not-is_slot : goal.returns-then-not-is_slot
returns-then-not-is_slot c =
    let vs = c.args.values.now in
    let k = kernel c.args.core.now in
    let i = c.loop-slot.slot in
    let l : length (kinds k) ≡ length vs = omega (arith, count_kinds c.args.core.now, c.if-values-len.false, c.len.ensures, c.len-2.ensures) in
    let n = next_slot c.args.core.now vs i (i + 1) (kind c.kind_at.result) c.index-values-slot.result l c.loop-slot-test.true (omega arith) c.kind_at.ensures c.index-values-slot.is in
    let d = sym c.is_slot.ensures ∙ c.if-not-is_slot.true in
    sym (sym c.loop-slot.invariant ∙ n ∙ ap (λ b. b && are_slots k (i + 1) (drop (i + 1) (kinds k)) (drop (i + 1) (map value vs))) d)

pub loop-slot-preserved : goal.loop-slot-preserved
loop-slot-preserved c =
    let vs = c.args.values.now in
    let k = kernel c.args.core.now in
    let i = c.loop-slot.slot in
    let l : length (kinds k) ≡ length vs = omega (arith, count_kinds c.args.core.now, c.if-values-len.false, c.len.ensures, c.len-2.ensures) in
    let n = next_slot c.args.core.now vs i (i + 1) (kind c.kind_at.result) c.index-values-slot.result l c.loop-slot-test.true (omega arith) c.kind_at.ensures c.index-values-slot.is in
    let d = sym c.is_slot.ensures ∙ c.if-not-is_slot.false in
    sym (ap (λ b. b && are_slots k (i + 1) (drop (i + 1) (kinds k)) (drop (i + 1) (map value vs))) d) ∙ sym n ∙ c.loop-slot.invariant
