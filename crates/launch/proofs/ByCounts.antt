-- A launch whose buffers have these lengths, and hold what they may, meets the conditions where nothing is unmet by the counts.
use Rattle.std.proofs.Common.{◌≡◌, ℕ, List, [], ◌∷◌, length, map, slice_index_or, Option, Some, None, Result, Ok, Err, IsOk, refl, sym, ◌∙◌, ap, arith}
use Rattle.std.proofs.lemmas.List.{length-map}
use Rattle.std.specs.Prelude.{ℤ, pos, ◌+ℤ◌, ◌*ℤ◌, int_le}
use Rattle.std.specs.List.{All}
use Rattle.semantics.specs.Launch.{Launch, Machine}
use Rattle.semantics.specs.Conditions.{Factor, ArgumentFactor, GroupsFactor, Summand, Constant, Argument, Groups, Product, factor_value, summand_value, sum_value, IsHeld, Meets}
use Rattle.launch.specs.View.{length_sum, requirement, content, conditions}
use Rattle.launch.specs.declared.error.ConditionError.{ConditionError}
use Rattle.launch.specs.declared.conditions.Length.{Length}
use Rattle.launch.specs.declared.conditions.Requirement.{Requirement}
use Rattle.launch.specs.declared.conditions.Conditions.{Conditions}
use Rattle.launch.specs.Unmet.{answer, unless, then, unmet_groups, unmet_arguments, unmet_lengths, unmet_counts, unmet_requirements, unmet_contents, unmet_by, with_buffers}
use Rattle.launch.proofs.Unmet.{then-none, none-then, met-contents, unmet-none}

factor-alike : (l : Launch) (bs : List (List ℤ)) (f : ℕ) (m : Machine) (x : Factor) → factor_value (with_buffers l bs f m) x ≡ factor_value l x
factor-alike l bs f m (ArgumentFactor n) = refl
factor-alike l bs f m (GroupsFactor d) = refl

summand-alike : (l : Launch) (bs : List (List ℤ)) (f : ℕ) (m : Machine) (x : Summand) → summand_value (with_buffers l bs f m) x ≡ summand_value l x
summand-alike l bs f m (Constant n) = refl
summand-alike l bs f m (Argument c n) = refl
summand-alike l bs f m (Groups c d) = refl
summand-alike l bs f m (Product c a b) =
    ap (λ (z : ℤ). c *ℤ (z *ℤ factor_value (with_buffers l bs f m) b)) (factor-alike l bs f m a) ∙ ap (λ (z : ℤ). c *ℤ (factor_value l a *ℤ z)) (factor-alike l bs f m b)

sum-alike : (l : Launch) (bs : List (List ℤ)) (f : ℕ) (m : Machine) (xs : List Summand) → sum_value (with_buffers l bs f m) xs ≡ sum_value l xs
sum-alike l bs f m [] = refl
sum-alike l bs f m (x ∷ xs) =
    ap (λ (z : ℤ). z +ℤ sum_value (with_buffers l bs f m) xs) (summand-alike l bs f m x) ∙ ap (λ (z : ℤ). summand_value l x +ℤ z) (sum-alike l bs f m xs)

lengths-alike : (l : Launch) (all : List (List ℤ)) (f : ℕ) (m : Machine) (ns : List Length) (bs : List (List ℤ)) → unmet_lengths (with_buffers l all f m) ns bs ≡ unmet_counts l ns (map (λ (b : List ℤ). length b) bs)
lengths-alike l all f m [] bs = refl
lengths-alike l all f m (n ∷ ns) [] = refl
lengths-alike l all f m (n ∷ ns) (b ∷ bs) =
    ap (λ (z : ℤ). unless (int_le z (pos (length b))) n.line (unmet_lengths (with_buffers l all f m) ns bs)) (sum-alike l all f m (length_sum n))
    ∙ ap (unless (int_le (sum_value l (length_sum n)) (pos (length b))) n.line) (lengths-alike l all f m ns bs)

requirements-alike : (l : Launch) (all : List (List ℤ)) (f : ℕ) (m : Machine) (rs : List Requirement) → unmet_requirements (with_buffers l all f m) rs ≡ unmet_requirements l rs
requirements-alike l all f m [] = refl
requirements-alike l all f m (r ∷ rs) =
    ap (λ (z : ℤ). unless (int_le z (sum_value (with_buffers l all f m) (requirement r).left)) r.line (unmet_requirements (with_buffers l all f m) rs)) (sum-alike l all f m (requirement r).right)
    ∙ ap (λ (z : ℤ). unless (int_le (sum_value l (requirement r).right) z) r.line (unmet_requirements (with_buffers l all f m) rs)) (sum-alike l all f m (requirement r).left)
    ∙ ap (unless (int_le (sum_value l (requirement r).right) (sum_value l (requirement r).left)) r.line) (requirements-alike l all f m rs)

none-of-ok : (r : Result (Unit {0}) ConditionError) → IsOk r → answer r ≡ None
none-of-ok (Ok u) h = refl
none-of-ok (Err e) h = cc

pub met-by-counts : (c : Conditions) (l : Launch) (cs : List ℕ) (r : Result (Unit {0}) ConditionError) → length c.arguments.items ≡ length l.arguments → length c.lengths.items ≡ length cs → answer r ≡ unmet_by c l cs → IsOk r
    → (bs : List (List ℤ)) (f : ℕ) (m : Machine) → map (λ (b : List ℤ). length b) bs ≡ cs → All (IsHeld (with_buffers l bs f m)) (map content c.contents.items) → Meets (conditions c) (with_buffers l bs f m)
met-by-counts c l cs r p q told ok bs f m e held =
    let l' : Launch = with_buffers l bs f m in
    let none : unmet_by c l cs ≡ None = sym told ∙ none-of-ok r ok in
    let a = then-none (unmet_groups c l) (then (unmet_arguments c.arguments.items l.arguments) (then (unmet_counts l c.lengths.items cs) (unmet_requirements l c.requirements.items))) none in
    let b = then-none (unmet_arguments c.arguments.items l.arguments) (then (unmet_counts l c.lengths.items cs) (unmet_requirements l c.requirements.items)) a.1 in
    let d = then-none (unmet_counts l c.lengths.items cs) (unmet_requirements l c.requirements.items) b.1 in
    let long : unmet_lengths l' c.lengths.items bs ≡ None = lengths-alike l bs f m c.lengths.items bs ∙ ap (unmet_counts l c.lengths.items) e ∙ d.0 in
    let required : unmet_requirements l' c.requirements.items ≡ None = requirements-alike l bs f m c.requirements.items ∙ d.1 in
    let kept : unmet_contents l' c.contents.items ≡ None = met-contents l' c.contents.items held in
    let q' : length c.lengths.items ≡ length bs = q ∙ sym (ap (λ (xs : List ℕ). length xs) e) ∙ length-map bs (λ (b : List ℤ). length b) in
    let last = none-then (unmet_requirements l' c.requirements.items) (unmet_contents l' c.contents.items) required kept in
    let third = none-then (unmet_lengths l' c.lengths.items bs) (then (unmet_requirements l' c.requirements.items) (unmet_contents l' c.contents.items)) long last in
    let second = none-then (unmet_arguments c.arguments.items l'.arguments) (then (unmet_lengths l' c.lengths.items bs) (then (unmet_requirements l' c.requirements.items) (unmet_contents l' c.contents.items))) b.0 third in
    unmet-none c l' p q' (none-then (unmet_groups c l') (then (unmet_arguments c.arguments.items l'.arguments) (then (unmet_lengths l' c.lengths.items bs) (then (unmet_requirements l' c.requirements.items) (unmet_contents l' c.contents.items)))) a.0 second)
