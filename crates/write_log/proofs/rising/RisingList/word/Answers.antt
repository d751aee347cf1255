use Rattle.std.proofs.Common.{rules, ◌≡◌, ◌<◌, ◌-◌, ◌∙◌, Some, true, false, is_lt, sym, ap, subst, length, get_or, arith}
use Rattle.std.proofs.lemmas.Option.{get_or_from_slice_get, slice_get-get_or}
use Rattle.write_log.specs.Elements.{border, by_element, head_of, nowhere, read_word}
use Rattle.write_log.specs.declared.stretch.Stretch.{Stretch}
use Rattle.write_log.proofs.Finding.{found_in, none_in, none_up_to, place_within}
use Rattle.write_log.proofs.rising.RisingList.word.Goals as goal

pub returns-then-heads-eq0 : goal.returns-then-heads-eq0
returns-then-heads-eq0 c =
    let list = c.args.self.now in
    let heads = c.if-heads-eq0.true in
    sym (none_up_to list.stretches.items list.bits.items list.laid.rising list.laid.begins list.laid.apart c.args.at (subst (λ n. n < length list.stretches.items → is_lt (by_element c.args.at (head_of list.stretches.items n)) ≡ true) heads c.heads_up_to-heads.ensures.above))

pub index-requires-in-Some : goal.index-requires-in-Some
index-requires-in-Some c =
    let list = c.args.self.now in
    let ts = list.stretches.items in
    let heads = c.heads_up_to-heads.result in
    let to : c.in-Some.place < border ts (length list.bits.items) heads = subst (λ n. c.in-Some.place < n) c.border.ensures c.in-Some.ensures.3 in
    let inside : c.in-Some.place < length list.bits.items = place_within ts list.bits.items list.laid.rising list.laid.begins list.laid.apart c.args.at heads c.in-Some.place to in
    search rules

pub returns-in-Some : goal.returns-in-Some
returns-in-Some c =
    let list = c.args.self.now in
    let ts = list.stretches.items in
    let heads = c.heads_up_to-heads.result in
    let t = c.index.result.now in
    let some_ : 0 < heads = search rules in
    let inside : heads - 1 < length ts = omega (arith, some_, c.heads_up_to-heads.ensures.count) in
    let is : get_or ts (heads - 1) nowhere ≡ t = get_or_from_slice_get ts (heads - 1) t nowhere (slice_get-get_or ts (heads - 1) t inside ∙ ap (λ s. Some s) (sym c.index.ensures)) in
    let found = c.in-Some.ensures in
    let place = c.in-Some.place in
    let bits = list.bits.items in
    let to : place < border ts (length bits) heads = subst (λ n. place < n) c.border.ensures found.3 in
    let within = place_within ts bits list.laid.rising list.laid.begins list.laid.apart c.args.at heads place to in
    let b = c.index-in-Some.result.now in
    let bits_are : get_or bits place 0 ≡ b = get_or_from_slice_get bits place b 0 (slice_get-get_or bits place b within ∙ ap (λ x. Some x) (sym c.index-in-Some.ensures)) in
    ap (λ w. Some w) c.read_word.ensures
    ∙ ap (λ x. Some (read_word t.kind x)) (sym bits_are)
    ∙ sym (found_in ts bits list.laid.rising list.laid.begins list.laid.apart c.args.at heads some_ c.heads_up_to-heads.ensures.count t is place found.2 to found.0 found.1)

pub returns-in-None : goal.returns-in-None
returns-in-None c =
    let list = c.args.self.now in
    let ts = list.stretches.items in
    let heads = c.heads_up_to-heads.result in
    let t = c.index.result.now in
    let some_ : 0 < heads = search rules in
    let inside : heads - 1 < length ts = omega (arith, some_, c.heads_up_to-heads.ensures.count) in
    let is : get_or ts (heads - 1) nowhere ≡ t = get_or_from_slice_get ts (heads - 1) t nowhere (slice_get-get_or ts (heads - 1) t inside ∙ ap (λ s. Some s) (sym c.index.ensures)) in
    let end : c.border.result ≡ border ts (length list.bits.items) heads = c.border.ensures in
    let begins : is_lt (by_element c.args.at (t.buffer, t.first)) ≡ false = subst (λ (s : Stretch). is_lt (by_element c.args.at (s.buffer, s.first)) ≡ false) is (c.heads_up_to-heads.ensures.below some_) in
    sym (none_in ts list.bits.items list.laid.rising list.laid.begins list.laid.apart c.args.at heads some_ c.heads_up_to-heads.ensures.count t is begins (rw (← end) c.in-None.ensures) c.heads_up_to-heads.ensures.above)
