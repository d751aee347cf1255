use Rattle.std.proofs.Common.{◌≡◌, ◌<◌, ◌∷◌, [], rules, length, subst, ◌∙◌, arith}
use Rattle.write_log.specs.Elements.{GoesOn, entries_in}
use Rattle.write_log.proofs.Growing.{without_error, grown_all, grown_laid, one_run, one_word}
use Rattle.write_log.proofs.rising.RisingList.push.Goals as goal

pub invariant_of-self-else-is_err : goal.invariant_of-self-else-is_err
invariant_of-self-else-is_err c =
    let self = c.args.self.now in
    let old = self.stretches.items in
    let new = c.go_on.new.stretches.items in
    let kind = c.parts_of-kind.result.0 in
    let places : c.len-places.result ≡ length self.bits.items = search rules in
    let g = subst (λ n. GoesOn old new n c.args.at kind) places (without_error c.go_on.result c.go_on.ensures.ok c.if-is_err.ensures.value) in
    let more = one_word self.bits.items c.parts_of-kind.result.1 kind c.args.word c.parts_of-kind.ensures in
    let fits : c.args.at.1 < 4294967296 = search rules in
    rw c.in_ok-push.ensures.items (record { laid = grown_laid old new self.bits.items _ c.args.at kind (c.args.word ∷ []) g more self.laid c.requires (omega arith) (omega (arith, fits)) })

pub returns : goal.returns
returns c =
    let self = c.args.self.now in
    let old = self.stretches.items in
    let new = c.go_on.new.stretches.items in
    let kind = c.parts_of-kind.result.0 in
    let places : c.len-places.result ≡ length self.bits.items = search rules in
    let g = subst (λ n. GoesOn old new n c.args.at kind) places (without_error c.go_on.result c.go_on.ensures.ok c.if-is_err.ensures.value) in
    let more = one_word self.bits.items c.parts_of-kind.result.1 kind c.args.word c.parts_of-kind.ensures in
    rw c.in_ok-push.ensures.items (grown_all old new self.bits.items _ c.args.at kind (c.args.word ∷ []) g more ∙ one_run (entries_in old self.bits.items) c.args.at c.args.word)
