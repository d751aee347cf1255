use Rattle.std.proofs.Common.{rules, ◌≡◌, ap, subst, sym, ◌∙◌, true, false, cond, ◌++◌, ◌∷◌, []}
use Rattle.std.specs.Option.{is_none}
use Rattle.semantics.specs.Setup.{group_size}
use Rattle.semantics.specs.Memory.{same_cell}
use Rattle.clashes.specs.View.{access}
use Rattle.clashes.specs.Marks.{seen_meets, seen_after}
use Rattle.clashes.specs.Knowledge.{mark}
use Rattle.clashes.specs.Elements.{seen_of}
use Rattle.clashes.specs.Histories.{ClashesFirst}
use Rattle.clashes.proofs.Clashing.{watched, known, still_first, clashes_now, goes_on}
use Rattle.clashes.proofs.watch.Watch.note.Goals as goal

pub returns-then-meets : goal.returns-then-meets
returns-then-meets c = λ s h n p w next.
    let old = c.args.self.now in
    let x = access c.args.access in
    let none : is_none old.first ≡ true = search rules in
    let meets : seen_meets (group_size s) (seen_of old x.at) (mark x) x.is_store ≡ true =
    sym (c.meets.ensures ∙ ap (λ m. seen_meets c.args.size c.seen_at-seen.result m x.is_store) c.mark-mark.ensures ∙ ap (λ y. seen_meets c.args.size y (mark x) x.is_store) c.seen_at-seen.ensures ∙ ap (λ k. seen_meets k (seen_of old x.at) (mark x) x.is_store) (sym n)) ∙ c.if-meets.true in
    subst (ClashesFirst s _) p (clashes_now s h old x (watched s h old none w) meets)

pub returns-else-meets : goal.returns-else-meets
returns-else-meets c = λ s h n p w next.
    let old = c.args.self.now in
    let x = access c.args.access in
    let none : is_none old.first ≡ true = search rules in
    let meets : seen_meets (group_size s) (seen_of old x.at) (mark x) x.is_store ≡ false =
    sym (c.meets.ensures ∙ ap (λ m. seen_meets c.args.size c.seen_at-seen.result m x.is_store) c.mark-mark.ensures ∙ ap (λ y. seen_meets c.args.size y (mark x) x.is_store) c.seen_at-seen.ensures ∙ ap (λ k. seen_meets k (seen_of old x.at) (mark x) x.is_store) (sym n)) ∙ c.if-meets.false in
    let same = c.put.ensures.first in
    let more = goes_on s h old x (watched s h old none w) next meets c.put.new.self (λ y. c.put.ensures.seen y ∙ ap (λ z. cond (same_cell y x.at) z (seen_of old y)) (c.with.ensures ∙ ap (λ m. seen_after c.args.size c.seen_at-seen.result m x.is_store) c.mark-mark.ensures ∙ ap (λ z. seen_after c.args.size z (mark x) x.is_store) c.seen_at-seen.ensures ∙ ap (λ k. seen_after k (seen_of old x.at) (mark x) x.is_store) (sym n))) in
    known s (h ++ x ∷ []) c.put.new.self (ap is_none same ∙ none) more

pub returns-else-is_none : goal.returns-else-is_none
returns-else-is_none c = λ s h n p w next. still_first s h c.args.self.now (access c.args.access) (search rules) w
