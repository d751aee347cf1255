use Rattle.std.proofs.Common.{rules, ◌≡◌, ◌<◌, subst, ap, sym, ◌∙◌, arith, inl, inr, false, length}
use Rattle.std.specs.Prelude.{slice_index_or}
use Rattle.std.proofs.lemmas.Bool.{cases_eq}
use Rattle.std.proofs.lemmas.List.{get_or_default}
use Rattle.semantics.specs.Tests.{clashes}
use Rattle.clashes.specs.View.{access}
use Rattle.clashes.specs.Histories.{clash_at}
use Rattle.clashes.proofs.Clashing.{no_access}
use Rattle.clashes.proofs.watch.earlier.Goals as goal

pub loop-k-preserved : goal.loop-k-preserved
loop-k-preserved c = λ s d n k l.
    let h = c.args.history.now in
    let i = c.loop-k.k in
    let place = c.args.place in
    let il : i < length h = search rules in
    let here : clash_at s h d i place ≡ false =
    ap (λ y. clashes s (access y) (access (slice_index_or h place d))) (get_or_default h i d no_access il) ∙ ap (λ y. clashes s (access (slice_index_or h i no_access)) (access y)) (get_or_default h place d no_access c.requires.place)
    ∙ sym (c.clashes.ensures s n) ∙ c.if-clashes.false in
    elim (cases_eq k i) [ inl same ↦ subst (λ m. clash_at s h d m place ≡ false) (sym same) here | inr other ↦ c.loop-k.invariant s d n k (omega (arith, l, other)) ]
