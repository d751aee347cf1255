use Rattle.std.proofs.Common.{◌≡◌, ◌<◌, ◌≤◌, ◌+◌, rules, length, subst, sym, ap, ◌∙◌, ◌++◌}
use Rattle.std.proofs.lemmas.List.{length-map}
use Rattle.write_log.specs.Elements.{GoesOn, entries_in, read_word, read_words, run}
use Rattle.write_log.proofs.Growing.{without_error, grown_all, grown_laid, more_words}
use Rattle.write_log.proofs.rising.RisingList.push_run.Goals as goal

pub invariant_of-self-else-is_err : goal.invariant_of-self-else-is_err
invariant_of-self-else-is_err c =
    let self = c.args.self.now in
    let old = self.stretches.items in
    let new = c.go_on.new.stretches.items in
    let more = c.args.bits.now in
    let count = sym (length-map more (read_word c.args.kind)) in
    let places : c.len-places.result ≡ length self.bits.items = search rules in
    let g = subst (λ n. GoesOn old new n c.args.at c.args.kind) places (without_error c.go_on.result c.go_on.ensures.ok c.if-is_err.ensures.value) in
    let some_ : 0 < length more = search rules in
    rw c.in_ok-extend_from_slice.ensures.items (record {
      laid = grown_laid old new self.bits.items _ c.args.at c.args.kind (read_words c.args.kind more) g (more_words self.bits.items more c.args.kind) self.laid c.requires.above (subst (λ n. 0 < n) count some_)
          (subst (λ n. c.args.at.1 + n ≤ 4294967296) count c.requires.fits);
    })

pub returns : goal.returns
returns c =
    let self = c.args.self.now in
    let old = self.stretches.items in
    let new = c.go_on.new.stretches.items in
    let more = c.args.bits.now in
    let places : c.len-places.result ≡ length self.bits.items = search rules in
    let g = subst (λ n. GoesOn old new n c.args.at c.args.kind) places (without_error c.go_on.result c.go_on.ensures.ok c.if-is_err.ensures.value) in
    rw c.in_ok-extend_from_slice.ensures.items (grown_all old new self.bits.items _ c.args.at c.args.kind (read_words c.args.kind more) g (more_words self.bits.items more c.args.kind)
    ∙ ap (λ n. entries_in old self.bits.items ++ run c.args.at.0 c.args.at.1 (read_words c.args.kind more) n) (length-map more (read_word c.args.kind)))
