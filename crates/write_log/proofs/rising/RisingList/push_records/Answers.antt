use Rattle.std.proofs.Common.{rules, suc, ◌≡◌, ◌<◌, ◌+◌, ◌∷◌, ◌++◌, [], ◌∙◌, ap₂, subst, arith}
use Rattle.write_log.specs.Elements.{first_entries}
use Rattle.write_log.proofs.Stretches.{entry-in, has-bits, index-in}
use Rattle.write_log.proofs.rising.RisingList.push_records.Goals as goal

pub index-requires : goal.index-requires
index-requires c =
    let list = c.args.self.now in
    let to = subst (λ n. c.loop-place.place < n) c.border-place-end.ensures c.loop-place-test.true in
    let inside = has-bits list.stretches.items list.bits.items list.laid.apart c.args.number c.requires.number c.index-stretch.result.now c.index-stretch.ensures c.loop-place.place c.loop-place.auto.place to in
    search rules

pub entry-requires-clause-fits : goal.entry-requires-clause-fits
entry-requires-clause-fits c =
    let list = c.args.self.now in
    let to = subst (λ n. c.loop-place.place < n) c.border-place-end.ensures c.loop-place-test.true in
    index-in list.stretches.items list.bits.items list.laid.apart c.args.number c.requires.number c.index-stretch.result.now c.index-stretch.ensures c.loop-place.place c.loop-place.auto.place to 4294967296 list.laid.fits

pub loop-place-preserved : goal.loop-place-preserved
loop-place-preserved c =
    let list = c.args.self.now in
    let ts = list.stretches.items in
    let bits = list.bits.items in
    let place = c.loop-place.place in
    let to = subst (λ n. place < n) c.border-place-end.ensures c.loop-place-test.true in
    let entry = c.entry.ensures ∙ entry-in ts bits list.laid.apart c.args.number c.requires.number c.index-stretch.result.now c.index-stretch.ensures place c.loop-place.auto.place to c.index.result.now c.index.ensures in
    let next : suc place ≡ place + 1 = omega arith in
    subst (λ n. c.push.new.self.items ≡ first_entries ts bits n) next
    (c.in_ok-push.ensures.items ∙ ap₂ (λ es e. es ++ e ∷ []) c.loop-place.invariant entry)
