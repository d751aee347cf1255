use Rattle.std.proofs.Common.{rules, ◌≡◌, ◌<◌, ◌≤◌, ◌+◌, ◌-◌, ◌∙◌, ap, refl, sym, arith, map, length}
use Rattle.std.proofs.lemmas.List.{length-map, with_items_is}
use Rattle.std.specs.Vec.{with_items}
use Rattle.launch.specs.View.{buffer}
use Rattle.words.specs.View.{value_of}
use Rattle.write_log.specs.Elements.{border}
use Rattle.write_log.specs.Written.{put_bits, words_of}
use Rattle.write_log.proofs.Stretches.{border-is, border-within}
use Rattle.write_log.proofs.Writing.{length-put_bits, row-is, written-inside, written-outside}
use Rattle.write_log.proofs.log.write_stretch.Goals as goal

pub write_bits-requires : goal.write_bits-requires
write_bits-requires c =
    let list = c.args.list.now in
    let n = length list.bits.items in
    let t = c.index-stretch.result.now in
    let up = list.laid.apart c.args.number c.requires in
    let starts = border-is list.stretches.items n c.args.number t c.requires in
    let t_is = c.index-stretch.ensures in
    let start : t.start ≡ border list.stretches.items n c.args.number = ap (λ s. s.start) t_is ∙ sym starts in
    let end = c.border-end.ensures in
    let within = border-within list.stretches.items n (c.args.number + 1) list.laid.apart in
    let count : length c.as_slice.result.now ≡ n = ap length c.as_slice.ensures.value in
    (omega (arith, up, start, end), omega (arith, within, end, count))

pub returns-in-Some : goal.returns-in-Some
returns-in-Some c = λ bs e.
    let list = c.args.list.now in
    let n = length list.bits.items in
    let t = c.index-stretch.result.now in
    let vs = c.args.buffers.now.words.items in
    let v = c.in-Some.words.now in
    let w = c.write_bits.new.words in
    let there : t.buffer < length vs = search rules in
    let bits = list.bits.items in
    let row = put_bits t bits (border list.stretches.items n (c.args.number + 1) - t.start) in
    let wrote : map value_of w ≡ row (map value_of v.items) =
    c.write_bits.ensures ∙ rw (c.as_slice.ensures.value, c.as_mut_slice.ensures.value, c.border-end.ensures) refl in
    let long : length w ≡ length v.items =
    sym (length-map w value_of) ∙ ap length wrote ∙ length-put_bits t bits (border list.stretches.items n (c.args.number + 1) - t.start) (map value_of v.items) ∙ length-map v.items value_of in
    let all : length w ≡ v.len = search rules in
    let new = row-is vs t.buffer v (with_items v w) row there c.in-Some.ensures.value (ap (map value_of) (with_items_is v w all) ∙ wrote) in
    let count = length-map vs buffer in
    written-inside list.stretches.items bits list.laid.apart c.args.number c.requires t c.index-stretch.ensures bs (words_of c.args.buffers.now) _ e (omega (arith, there, count)) new

pub returns-in_default : goal.returns-in_default
returns-in_default c = λ bs e.
    let list = c.args.list.now in
    let past : length c.args.buffers.now.words.items ≤ c.index-stretch.result.now.buffer = search rules in
    let count = length-map c.args.buffers.now.words.items buffer in
    written-outside list.stretches.items list.bits.items list.laid.apart c.args.number c.requires c.index-stretch.result.now c.index-stretch.ensures bs (words_of c.args.buffers.now) e (omega (arith, past, count))
