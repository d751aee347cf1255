use Rattle.std.proofs.Common.{Bool, true, false, Ok, ap, refl, subst, ◌∙◌}
use Rattle.words.specs.View.{kind}
use Rattle.semantics.specs.Core as core
use Rattle.core_code.specs.View.{term, operator, direction, relation, site}
use Rattle.walk_trees.specs.Values as values
use Rattle.walk_trees.specs.Walks.{State, Onward, unknown}
use Rattle.walk_trees.specs.Terms.{walk, chosen, pick}
use Rattle.walk_trees.specs.Tests.{split_number}
use Rattle.path_steps.specs.View.{followed, value, setting as seen}
use Rattle.path_steps.specs.Leads.{Leads}
use Rattle.path_walk.specs.Parts.{both_values, binary_at, compare_values, shift_values, unknown_behind}
use Rattle.path_walk.proofs.Then.{then_goes, then_halts, two_go, two_halt}
use Rattle.path_walk.proofs.Operating.{turn_leads}
use Rattle.path_walk.proofs.AtSites.{turn_refused_behind}
use Rattle.path_walk.proofs.Numbers.{pair_is, triple_is, by_number}
use Rattle.path_walk.proofs.terms.+terms.Goals as goal

pub compared-returns : goal.compared-returns
compared-returns g t c =
    let s = seen g.D.Domain c.args.setting.now in
    let a = term c.args.left.now in
    let b = term c.args.right.now in
    two_go (both_values s a b) (compare_values s (relation c.args.relation) (kind c.args.kind)) (walk s (core.Compare (relation c.args.relation) (kind c.args.kind) a b)).test (followed c.args.path.now) (followed c.both_values.new.path) (λ h. h) c.compare_values.result refl (followed c.compare_values.new.path) (value c.in_ok-first.first) (value c.in_ok-first.second) c.in_ok-first.ensures c.compare_values.ensures

pub compared-returns-in_err-first : goal.compared-returns-in_err-first
compared-returns-in_err-first g t c =
    let s = seen g.D.Domain c.args.setting.now in
    let a = term c.args.left.now in
    let b = term c.args.right.now in
    two_halt (both_values s a b) (compare_values s (relation c.args.relation) (kind c.args.kind)) (walk s (core.Compare (relation c.args.relation) (kind c.args.kind) a b)).test (followed c.args.path.now) (followed c.both_values.new.path) (λ h. h) c.from_residual.result refl c.in_err-first.field-0.0 c.from_residual.ensures c.in_err-first.ensures

pub test_of-returns-in_ok-value-in_default : goal.test_of-returns-in_ok-value-in_default
test_of-returns-in_ok-value-in_default g t c =
    let s = seen g.D.Domain c.args.setting.now in
    let u = term c.args.term.now in
    let d = by_number s c.args.term.now c.in_default.not-Compare c.in_default.not-Not c.in_default.not-And c.in_default.not-Or in
    then_goes (walk s u).value (λ (x : values.Value). split_number s x.form) (walk s u).test (followed c.args.path.now) (followed c.value_of.new.path) (λ h. h) c.split_number.result d (followed c.split_number.new.path) (value c.in_ok-value-in_default.value) c.in_ok-value-in_default.ensures c.split_number.ensures

pub test_of-returns-in_err-value-in_default : goal.test_of-returns-in_err-value-in_default
test_of-returns-in_err-value-in_default g t c =
    let s = seen g.D.Domain c.args.setting.now in
    let u = term c.args.term.now in
    let d = by_number s c.args.term.now c.in_default.not-Compare c.in_default.not-Not c.in_default.not-And c.in_default.not-Or in
    then_halts (walk s u).value (λ (x : values.Value). split_number s x.form) (walk s u).test (followed c.args.path.now) (followed c.value_of.new.path) (λ h. h) c.from_residual-in_err-value-in_default.result d c.in_err-value-in_default.field-0.0 c.from_residual-in_err-value-in_default.ensures c.in_err-value-in_default.ensures

pub value_of-returns-in_ok-first-in-Binary : goal.value_of-returns-in_ok-first-in-Binary
value_of-returns-in_ok-first-in-Binary g t c =
    let s = seen g.D.Domain c.args.setting.now in
    let a = term c.deref-in-Binary.result.now in
    let b = term c.deref-in-Binary-2.result.now in
    let e = ap term c.in-Binary.is ∙ pair_is (core.Binary (operator c.in-Binary.operator) (kind c.in-Binary.kind) (site c.in-Binary.site)) c.deref-in-Binary.result.now c.deref-in-Binary-2.result.now c.in-Binary.left.value c.in-Binary.right.value c.deref-in-Binary.ensures c.deref-in-Binary-2.ensures in
    two_go (both_values s a b) (binary_at s (operator c.in-Binary.operator) (kind c.in-Binary.kind) (site c.in-Binary.site)) (walk s (term c.args.term.now)).value (followed c.args.path.now) (followed c.both_values.new.path) value c.binary_at.result (ap (λ u. (walk s u).value) e) (followed c.binary_at.new.path) (value c.in_ok-first-in-Binary.first) (value c.in_ok-first-in-Binary.second) c.in_ok-first-in-Binary.ensures c.binary_at.ensures

pub value_of-returns-in_err-first-in-Binary : goal.value_of-returns-in_err-first-in-Binary
value_of-returns-in_err-first-in-Binary g t c =
    let s = seen g.D.Domain c.args.setting.now in
    let a = term c.deref-in-Binary.result.now in
    let b = term c.deref-in-Binary-2.result.now in
    let e = ap term c.in-Binary.is ∙ pair_is (core.Binary (operator c.in-Binary.operator) (kind c.in-Binary.kind) (site c.in-Binary.site)) c.deref-in-Binary.result.now c.deref-in-Binary-2.result.now c.in-Binary.left.value c.in-Binary.right.value c.deref-in-Binary.ensures c.deref-in-Binary-2.ensures in
    two_halt (both_values s a b) (binary_at s (operator c.in-Binary.operator) (kind c.in-Binary.kind) (site c.in-Binary.site)) (walk s (term c.args.term.now)).value (followed c.args.path.now) (followed c.both_values.new.path) value c.from_residual-in_err-first-in-Binary.result (ap (λ u. (walk s u).value) e) c.in_err-first-in-Binary.field-0.0 c.from_residual-in_err-first-in-Binary.ensures c.in_err-first-in-Binary.ensures

pub value_of-returns-in_ok-first-in-Minimum : goal.value_of-returns-in_ok-first-in-Minimum
value_of-returns-in_ok-first-in-Minimum g t c =
    let s = seen g.D.Domain c.args.setting.now in
    let a = term c.deref-in-Minimum.result.now in
    let b = term c.deref-in-Minimum-2.result.now in
    let e = ap term c.in-Minimum.is ∙ pair_is core.Minimum c.deref-in-Minimum.result.now c.deref-in-Minimum-2.result.now c.in-Minimum.left.value c.in-Minimum.right.value c.deref-in-Minimum.ensures c.deref-in-Minimum-2.ensures in
    two_go (both_values s a b) (λ x y. pick s false y x y x) (walk s (term c.args.term.now)).value (followed c.args.path.now) (followed c.both_values-in-Minimum.new.path) value c.smaller.result (ap (λ u. (walk s u).value) e) (followed c.smaller.new.path) (value c.in_ok-first-in-Minimum.first) (value c.in_ok-first-in-Minimum.second) c.in_ok-first-in-Minimum.ensures c.smaller.ensures

pub value_of-returns-in_err-first-in-Minimum : goal.value_of-returns-in_err-first-in-Minimum
value_of-returns-in_err-first-in-Minimum g t c =
    let s = seen g.D.Domain c.args.setting.now in
    let a = term c.deref-in-Minimum.result.now in
    let b = term c.deref-in-Minimum-2.result.now in
    let e = ap term c.in-Minimum.is ∙ pair_is core.Minimum c.deref-in-Minimum.result.now c.deref-in-Minimum-2.result.now c.in-Minimum.left.value c.in-Minimum.right.value c.deref-in-Minimum.ensures c.deref-in-Minimum-2.ensures in
    two_halt (both_values s a b) (λ x y. pick s false y x y x) (walk s (term c.args.term.now)).value (followed c.args.path.now) (followed c.both_values-in-Minimum.new.path) value c.from_residual-in_err-first-in-Minimum.result (ap (λ u. (walk s u).value) e) c.in_err-first-in-Minimum.field-0.0 c.from_residual-in_err-first-in-Minimum.ensures c.in_err-first-in-Minimum.ensures

pub value_of-returns-in_ok-first-in-Maximum : goal.value_of-returns-in_ok-first-in-Maximum
value_of-returns-in_ok-first-in-Maximum g t c =
    let s = seen g.D.Domain c.args.setting.now in
    let a = term c.deref-in-Maximum.result.now in
    let b = term c.deref-in-Maximum-2.result.now in
    let e = ap term c.in-Maximum.is ∙ pair_is core.Maximum c.deref-in-Maximum.result.now c.deref-in-Maximum-2.result.now c.in-Maximum.left.value c.in-Maximum.right.value c.deref-in-Maximum.ensures c.deref-in-Maximum-2.ensures in
    two_go (both_values s a b) (λ x y. pick s true x y y x) (walk s (term c.args.term.now)).value (followed c.args.path.now) (followed c.both_values-in-Maximum.new.path) value c.larger.result (ap (λ u. (walk s u).value) e) (followed c.larger.new.path) (value c.in_ok-first-in-Maximum.first) (value c.in_ok-first-in-Maximum.second) c.in_ok-first-in-Maximum.ensures c.larger.ensures

pub value_of-returns-in_err-first-in-Maximum : goal.value_of-returns-in_err-first-in-Maximum
value_of-returns-in_err-first-in-Maximum g t c =
    let s = seen g.D.Domain c.args.setting.now in
    let a = term c.deref-in-Maximum.result.now in
    let b = term c.deref-in-Maximum-2.result.now in
    let e = ap term c.in-Maximum.is ∙ pair_is core.Maximum c.deref-in-Maximum.result.now c.deref-in-Maximum-2.result.now c.in-Maximum.left.value c.in-Maximum.right.value c.deref-in-Maximum.ensures c.deref-in-Maximum-2.ensures in
    two_halt (both_values s a b) (λ x y. pick s true x y y x) (walk s (term c.args.term.now)).value (followed c.args.path.now) (followed c.both_values-in-Maximum.new.path) value c.from_residual-in_err-first-in-Maximum.result (ap (λ u. (walk s u).value) e) c.in_err-first-in-Maximum.field-0.0 c.from_residual-in_err-first-in-Maximum.ensures c.in_err-first-in-Maximum.ensures

pub value_of-returns-in_ok-first-in-Shift : goal.value_of-returns-in_ok-first-in-Shift
value_of-returns-in_ok-first-in-Shift g t c =
    let s = seen g.D.Domain c.args.setting.now in
    let a = term c.deref-in-Shift.result.now in
    let b = term c.deref-in-Shift-2.result.now in
    let e = ap term c.in-Shift.is ∙ pair_is (core.Shift (direction c.in-Shift.direction) (kind c.in-Shift.kind)) c.deref-in-Shift.result.now c.deref-in-Shift-2.result.now c.in-Shift.value.value c.in-Shift.count.value c.deref-in-Shift.ensures c.deref-in-Shift-2.ensures in
    two_go (both_values s a b) (shift_values s (direction c.in-Shift.direction) (kind c.in-Shift.kind)) (walk s (term c.args.term.now)).value (followed c.args.path.now) (followed c.both_values-in-Shift.new.path) value c.shift_values.result (ap (λ u. (walk s u).value) e) (followed c.shift_values.new.path) (value c.in_ok-first-in-Shift.first) (value c.in_ok-first-in-Shift.second) c.in_ok-first-in-Shift.ensures c.shift_values.ensures

pub value_of-returns-in_err-first-in-Shift : goal.value_of-returns-in_err-first-in-Shift
value_of-returns-in_err-first-in-Shift g t c =
    let s = seen g.D.Domain c.args.setting.now in
    let a = term c.deref-in-Shift.result.now in
    let b = term c.deref-in-Shift-2.result.now in
    let e = ap term c.in-Shift.is ∙ pair_is (core.Shift (direction c.in-Shift.direction) (kind c.in-Shift.kind)) c.deref-in-Shift.result.now c.deref-in-Shift-2.result.now c.in-Shift.value.value c.in-Shift.count.value c.deref-in-Shift.ensures c.deref-in-Shift-2.ensures in
    two_halt (both_values s a b) (shift_values s (direction c.in-Shift.direction) (kind c.in-Shift.kind)) (walk s (term c.args.term.now)).value (followed c.args.path.now) (followed c.both_values-in-Shift.new.path) value c.from_residual-in_err-first-in-Shift.result (ap (λ u. (walk s u).value) e) c.in_err-first-in-Shift.field-0.0 c.from_residual-in_err-first-in-Shift.ensures c.in_err-first-in-Shift.ensures

pub value_of-returns-in_err-holds-in-Select : goal.value_of-returns-in_err-holds-in-Select
value_of-returns-in_err-holds-in-Select g t c =
    let s = seen g.D.Domain c.args.setting.now in
    let x = c.deref-in-Select.result.now in
    let y = c.in-Select.taken.value in
    let z = c.in-Select.skipped.value in
    let e = ap term c.in-Select.is ∙ triple_is core.Select x y z c.in-Select.test.value c.in-Select.taken.value c.in-Select.skipped.value c.deref-in-Select.ensures refl refl in
    let two = λ (b : Bool) (st : State g.row.D.Denot) (go : Onward g.row.D.Denot). chosen b ((walk s (term y)).value st go) ((walk s (term z)).value st go) in
    then_halts (walk s (term x)).test two (walk s (term c.args.term.now)).value (followed c.args.path.now) (followed c.test_of-in-Select.new.path) value c.from_residual-in_err-holds-in-Select.result (ap (λ u. (walk s u).value) e) c.in_err-holds-in-Select.field-0.0 c.from_residual-in_err-holds-in-Select.ensures c.in_err-holds-in-Select.ensures

pub value_of-returns-then-holds : goal.value_of-returns-then-holds
value_of-returns-then-holds g t c =
    let s = seen g.D.Domain c.args.setting.now in
    let x = c.deref-in-Select.result.now in
    let y = c.deref-then-holds.result.now in
    let z = c.in-Select.skipped.value in
    let e = ap term c.in-Select.is ∙ triple_is core.Select x y z c.in-Select.test.value c.in-Select.taken.value c.in-Select.skipped.value c.deref-in-Select.ensures c.deref-then-holds.ensures refl in
    let two = λ (b : Bool) (st : State g.row.D.Denot) (go : Onward g.row.D.Denot). chosen b ((walk s (term y)).value st go) ((walk s (term z)).value st go) in
    let h = subst (λ b. Leads (followed c.args.path.now) (followed c.test_of-in-Select.new.path) (walk s (term x)).test b) c.if-holds.true c.in_ok-holds-in-Select.ensures in
    then_goes (walk s (term x)).test two (walk s (term c.args.term.now)).value (followed c.args.path.now) (followed c.test_of-in-Select.new.path) value c.value_of-then-holds.result (ap (λ u. (walk s u).value) e) (followed c.value_of-then-holds.new.path) true h c.value_of-then-holds.ensures

pub value_of-returns-else-holds : goal.value_of-returns-else-holds
value_of-returns-else-holds g t c =
    let s = seen g.D.Domain c.args.setting.now in
    let x = c.deref-in-Select.result.now in
    let y = c.in-Select.taken.value in
    let z = c.deref-else-holds.result.now in
    let e = ap term c.in-Select.is ∙ triple_is core.Select x y z c.in-Select.test.value c.in-Select.taken.value c.in-Select.skipped.value c.deref-in-Select.ensures refl c.deref-else-holds.ensures in
    let two = λ (b : Bool) (st : State g.row.D.Denot) (go : Onward g.row.D.Denot). chosen b ((walk s (term y)).value st go) ((walk s (term z)).value st go) in
    let h = subst (λ b. Leads (followed c.args.path.now) (followed c.test_of-in-Select.new.path) (walk s (term x)).test b) c.if-holds.false c.in_ok-holds-in-Select.ensures in
    then_goes (walk s (term x)).test two (walk s (term c.args.term.now)).value (followed c.args.path.now) (followed c.test_of-in-Select.new.path) value c.value_of-else-holds.result (ap (λ u. (walk s u).value) e) (followed c.value_of-else-holds.new.path) false h c.value_of-else-holds.ensures

pub value_of-returns-in_err-both_values-in-Opaque : goal.value_of-returns-in_err-both_values-in-Opaque
value_of-returns-in_err-both_values-in-Opaque g t c =
    let s = seen g.D.Domain c.args.setting.now in
    let k = kind c.in-Opaque.kind in
    let x = c.deref-in-Opaque.result.now in
    let y = c.deref-in-Opaque-2.result.now in
    let z = c.in-Opaque.third.value in
    let e = ap term c.in-Opaque.is ∙ triple_is (core.Opaque c.in-Opaque.operation c.in-Opaque.place k) x y z c.in-Opaque.first.value c.in-Opaque.second.value c.in-Opaque.third.value c.deref-in-Opaque.ensures c.deref-in-Opaque-2.ensures refl in
    let two = λ (p q : values.Value). unknown_behind s k (term z) in
    let next = λ (p : values.Value). unknown s k in
    two_halt (both_values s (term x) (term y)) two (walk s (term c.args.term.now)).value (followed c.args.path.now) (followed c.both_values-in-Opaque.new.path) value c.from_residual-in_err-both_values-in-Opaque.result (ap (λ u. (walk s u).value) e) c.in_err-both_values-in-Opaque.field-0.0 c.from_residual-in_err-both_values-in-Opaque.ensures c.in_err-both_values-in-Opaque.ensures

pub value_of-returns-in_err-value_of-in-Opaque : goal.value_of-returns-in_err-value_of-in-Opaque
value_of-returns-in_err-value_of-in-Opaque g t c =
    let s = seen g.D.Domain c.args.setting.now in
    let k = kind c.in-Opaque.kind in
    let x = c.deref-in-Opaque.result.now in
    let y = c.deref-in-Opaque-2.result.now in
    let z = c.deref-in-Opaque-3.result.now in
    let e = ap term c.in-Opaque.is ∙ triple_is (core.Opaque c.in-Opaque.operation c.in-Opaque.place k) x y z c.in-Opaque.first.value c.in-Opaque.second.value c.in-Opaque.third.value c.deref-in-Opaque.ensures c.deref-in-Opaque-2.ensures c.deref-in-Opaque-3.ensures in
    let two = λ (p q : values.Value). unknown_behind s k (term z) in
    let next = λ (p : values.Value). unknown s k in
    let inner = then_halts (walk s (term z)).value next (unknown_behind s k (term z)) (followed c.both_values-in-Opaque.new.path) (followed c.value_of-in-Opaque.new.path) value c.from_residual-in_err-value_of-in-Opaque.result refl c.in_err-value_of-in-Opaque.field-0.0 c.from_residual-in_err-value_of-in-Opaque.ensures c.in_err-value_of-in-Opaque.ensures in
    two_go (both_values s (term x) (term y)) two (walk s (term c.args.term.now)).value (followed c.args.path.now) (followed c.both_values-in-Opaque.new.path) value c.from_residual-in_err-value_of-in-Opaque.result (ap (λ u. (walk s u).value) e) (followed c.value_of-in-Opaque.new.path) (value c.in_ok-both_values-in-Opaque.field-0.0) (value c.in_ok-both_values-in-Opaque.field-0.1) c.in_ok-both_values-in-Opaque.ensures inner

pub value_of-returns-in_err-value-in-Opaque : goal.value_of-returns-in_err-value-in-Opaque
value_of-returns-in_err-value-in-Opaque g t c =
    let s = seen g.D.Domain c.args.setting.now in
    let k = kind c.in-Opaque.kind in
    let x = c.deref-in-Opaque.result.now in
    let y = c.deref-in-Opaque-2.result.now in
    let z = c.deref-in-Opaque-3.result.now in
    let e = ap term c.in-Opaque.is ∙ triple_is (core.Opaque c.in-Opaque.operation c.in-Opaque.place k) x y z c.in-Opaque.first.value c.in-Opaque.second.value c.in-Opaque.third.value c.deref-in-Opaque.ensures c.deref-in-Opaque-2.ensures c.deref-in-Opaque-3.ensures in
    let two = λ (p q : values.Value). unknown_behind s k (term z) in
    let next = λ (p : values.Value). unknown s k in
    let inner = turn_refused_behind (walk s (term z)).value next (value c.in_ok-value_of-in-Opaque.field-0) (followed c.both_values-in-Opaque.new.path) (followed c.value_of-in-Opaque.new.path) (followed c.unknown.new.path) value c.from_residual-in_err-value-in-Opaque.result c.in_err-value-in-Opaque.field-0.0 c.from_residual-in_err-value-in-Opaque.ensures c.in_ok-value_of-in-Opaque.ensures c.in_err-value-in-Opaque.ensures in
    two_go (both_values s (term x) (term y)) two (walk s (term c.args.term.now)).value (followed c.args.path.now) (followed c.both_values-in-Opaque.new.path) value c.from_residual-in_err-value-in-Opaque.result (ap (λ u. (walk s u).value) e) (followed c.unknown.new.path) (value c.in_ok-both_values-in-Opaque.field-0.0) (value c.in_ok-both_values-in-Opaque.field-0.1) c.in_ok-both_values-in-Opaque.ensures inner

pub value_of-returns-in_ok-value-in-Opaque : goal.value_of-returns-in_ok-value-in-Opaque
value_of-returns-in_ok-value-in-Opaque g t c =
    let s = seen g.D.Domain c.args.setting.now in
    let k = kind c.in-Opaque.kind in
    let x = c.deref-in-Opaque.result.now in
    let y = c.deref-in-Opaque-2.result.now in
    let z = c.deref-in-Opaque-3.result.now in
    let e = ap term c.in-Opaque.is ∙ triple_is (core.Opaque c.in-Opaque.operation c.in-Opaque.place k) x y z c.in-Opaque.first.value c.in-Opaque.second.value c.in-Opaque.third.value c.deref-in-Opaque.ensures c.deref-in-Opaque-2.ensures c.deref-in-Opaque-3.ensures in
    let two = λ (p q : values.Value). unknown_behind s k (term z) in
    let next = λ (p : values.Value). unknown s k in
    let inner = turn_leads (walk s (term z)).value next (value c.in_ok-value_of-in-Opaque.field-0) (value c.in_ok-value-in-Opaque.value) (followed c.both_values-in-Opaque.new.path) (followed c.value_of-in-Opaque.new.path) (followed c.unknown.new.path) c.in_ok-value_of-in-Opaque.ensures c.in_ok-value-in-Opaque.ensures in
    two_go (both_values s (term x) (term y)) two (walk s (term c.args.term.now)).value (followed c.args.path.now) (followed c.both_values-in-Opaque.new.path) value (Ok c.in_ok-value-in-Opaque.value) (ap (λ u. (walk s u).value) e) (followed c.unknown.new.path) (value c.in_ok-both_values-in-Opaque.field-0.0) (value c.in_ok-both_values-in-Opaque.field-0.1) c.in_ok-both_values-in-Opaque.ensures inner
