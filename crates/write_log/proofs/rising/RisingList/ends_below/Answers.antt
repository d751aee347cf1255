use Rattle.std.proofs.Common.{rules, is_lt, true, ◌≡◌, ◌<◌, ◌+◌, ◌-◌, Some, sym, ap, ◌∙◌, subst, length, slice_get, arith}
use Rattle.write_log.specs.Elements.{by_element, entry_at, first_entries}
use Rattle.write_log.specs.declared.stretch.Stretch.{Stretch}
use Rattle.write_log.proofs.RisingEntries.{rises-entry, rises-alone}
use Rattle.write_log.proofs.Stretches.{at-last, last-entry, no-place, starts-below}
use Rattle.write_log.proofs.rising.RisingList.ends_below.Goals as goal

pub overflow_sub-place : goal.overflow_sub-place
overflow_sub-place c =
    let list = c.args.self.now in
    let places : c.len-place.result ≡ length list.bits.items = search rules in
    let last : Some c.in-Some.last.now ≡ slice_get list.stretches.items (length list.stretches.items - 1) = rw (← c.deref.ensures.value) c.in-Some.ensures.value in
    let l = starts-below list.stretches.items (length list.bits.items) list.laid.apart c.in-Some.last.now last in
    omega (arith, places, l)

pub index-requires : goal.index-requires
index-requires c =
    let list = c.args.self.now in
    let places : c.len-place.result ≡ length list.bits.items = search rules in
    let last : Some c.in-Some.last.now ≡ slice_get list.stretches.items (length list.stretches.items - 1) = rw (← c.deref.ensures.value) c.in-Some.ensures.value in
    let l = starts-below list.stretches.items (length list.bits.items) list.laid.apart c.in-Some.last.now last in
    let below : c.len-place.result - 1 < c.len-place.result = omega (arith, places, l) in
    search rules

pub entry-word-requires-clause-from : goal.entry-word-requires-clause-from
entry-word-requires-clause-from c =
    let list = c.args.self.now in
    let places : c.len-place.result ≡ length list.bits.items = search rules in
    let last : Some c.in-Some.last.now ≡ slice_get list.stretches.items (length list.stretches.items - 1) = rw (← c.deref.ensures.value) c.in-Some.ensures.value in
    let l = starts-below list.stretches.items (length list.bits.items) list.laid.apart c.in-Some.last.now last in
    omega (arith, places, l)

pub entry-word-requires-clause-fits : goal.entry-word-requires-clause-fits
entry-word-requires-clause-fits c =
    let list = c.args.self.now in
    let n = length list.bits.items in
    let places : c.len-place.result ≡ n = search rules in
    let last : Some c.in-Some.last.now ≡ slice_get list.stretches.items (length list.stretches.items - 1) = rw (← c.deref.ensures.value) c.in-Some.ensures.value in
    let l = starts-below list.stretches.items n list.laid.apart c.in-Some.last.now last in
    let here = at-last list.stretches.items n list.laid.apart c.in-Some.last.now last in
    rw places (subst (λ (s : Stretch). s.first + (n - 1 - s.start) < 4294967296) here (list.laid.fits (n - 1) (omega (arith, l))))

pub returns-in-Some : goal.returns-in-Some
returns-in-Some c = λ below.
    let list = c.args.self.now in
    let ts = list.stretches.items in
    let n = length list.bits.items in
    let places : c.len-place.result ≡ n = search rules in
    let last : Some c.in-Some.last.now ≡ slice_get ts (length ts - 1) = rw (← c.deref.ensures.value) c.in-Some.ensures.value in
    let l = starts-below ts n list.laid.apart c.in-Some.last.now last in
    let here = at-last ts n list.laid.apart c.in-Some.last.now last in
    let bits = list.bits.items in
    let key : c.entry-word.result.0 ≡ (entry_at ts bits (n - 1)).0 =
    ap (λ e. e.0) c.entry-word.ensures ∙ rw places (ap (λ (s : Stretch). (s.buffer, s.first + (n - 1 - s.start))) (sym here)) in
    rises-entry (first_entries ts bits n) (entry_at ts bits (n - 1)) c.args.at list.laid.rising (last-entry ts bits n (omega (arith, l))) (subst (λ k. is_lt (by_element k c.args.at) ≡ true) key (sym c.is_below.ensures ∙ below))

pub returns-in-None : goal.returns-in-None
returns-in-None c = λ _.
    let list = c.args.self.now in
    let none = no-place list.stretches.items (length list.bits.items) list.laid.begins (rw (← c.deref.ensures.value) c.in-None.ensures.value) in
    rw none (rises-alone c.args.at)
