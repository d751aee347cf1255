-- Nothing is unmet exactly where all conditions are met.
use Rattle.std.proofs.Common.{◌≡◌, ℕ, List, [], ◌∷◌, length, map, slice_index_or, Bool, true, false, Option, Some, None, Result, Ok, Err, IsOk, ◌↔◌, refl, sym, rules, arith}
use Rattle.std.specs.Prelude.{ℤ, pos, ◌≤ℤ◌, ◌&&◌, int_le}
use Rattle.std.specs.List.{All, AllZip}
use Rattle.std.proofs.lemmas.List.Elements.{All-nil, All-cons, All-head, All-tail}
use Rattle.std.proofs.lemmas.Int.{ints}
use Rattle.semantics.specs.Word.{Word}
use Rattle.semantics.specs.Launch.{Launch}
use Rattle.semantics.specs.Conditions as meaning
use Rattle.semantics.specs.Conditions.{Range, IsIn, IsLongEnough, IsRequired, IsBounded, IsContent, IsHeld, Meets, sum_value}
use Rattle.launch.specs.View.{argument_range, count_range, length_sum, requirement, content, conditions}
use Rattle.launch.specs.declared.error.ConditionError.{ConditionError}
use Rattle.launch.specs.Unmet.{answer, is_in, unless, then, may_hold, may_hold_all, is_held, unmet_groups, unmet_arguments, unmet_lengths, unmet_requirements, unmet_contents, unmet}
use Rattle.launch.specs.declared.conditions.ArgumentRange.{ArgumentRange}
use Rattle.launch.specs.declared.conditions.Length.{Length}
use Rattle.launch.specs.declared.conditions.Requirement.{Requirement}
use Rattle.launch.specs.declared.conditions.Content.{Content}
use Rattle.launch.specs.declared.conditions.Conditions.{Conditions}

pub le-true : (a b : ℤ) → int_le a b ≡ true → a ≤ℤ b
le-true a b h = grind (arith, ints)

pub le-met : (a b : ℤ) → a ≤ℤ b → int_le a b ≡ true
le-met a b h = grind (arith, ints)

both-true : (a b : Bool) → (a && b) ≡ true → (a ≡ true) × (b ≡ true)
both-true true true h = (refl, refl)
both-true true false h = cc
both-true false b h = cc

true-both : (a b : Bool) → a ≡ true → b ≡ true → (a && b) ≡ true
true-both true true h k = refl
true-both true false h k = cc
true-both false b h k = cc

in-true : (r : Range) (z : ℤ) → is_in r z ≡ true → IsIn r z
in-true r z h = let k = both-true (int_le r.low z) (int_le z r.high) h in (le-true r.low z k.0, le-true z r.high k.1)

in-met : (r : Range) (z : ℤ) → IsIn r z → is_in r z ≡ true
in-met r z h = true-both (int_le r.low z) (int_le z r.high) (le-met r.low z h.0) (le-met z r.high h.1)

unless-none : (b : Bool) (n : ℕ) (others : Option ℕ) → unless b n others ≡ None → (b ≡ true) × (others ≡ None)
unless-none true n others h = (refl, h)
unless-none false n others h = cc

none-unless : (b : Bool) (n : ℕ) (others : Option ℕ) → b ≡ true → others ≡ None → unless b n others ≡ None
none-unless true n others h k = k
none-unless false n others h k = cc

pub then-none : (a b : Option ℕ) → then a b ≡ None → (a ≡ None) × (b ≡ None)
then-none None b h = (refl, h)
then-none (Some n) b h = cc

pub none-then : (a b : Option ℕ) → a ≡ None → b ≡ None → then a b ≡ None
none-then None b h k = k
none-then (Some n) b h k = cc

arguments-met : (rs : List ArgumentRange) (ws : List Word) → length rs ≡ length ws → unmet_arguments rs ws ≡ None → AllZip (λ (r : Range) (w : Word). IsIn r w.value) (map argument_range rs) ws
arguments-met [] [] e h = tt
arguments-met [] (w ∷ ws) e h = absurd (omega arith)
arguments-met (r ∷ rs) [] e h = absurd (omega arith)
arguments-met (r ∷ rs) (w ∷ ws) e h =
    let k = unless-none (is_in (argument_range r) w.value) r.line (unmet_arguments rs ws) h in
    (in-true (argument_range r) w.value k.0, arguments-met rs ws (omega arith) k.1)

met-arguments : (rs : List ArgumentRange) (ws : List Word) → AllZip (λ (r : Range) (w : Word). IsIn r w.value) (map argument_range rs) ws → unmet_arguments rs ws ≡ None
met-arguments [] ws h = refl
met-arguments (r ∷ rs) [] h = refl
met-arguments (r ∷ rs) (w ∷ ws) h =
    none-unless (is_in (argument_range r) w.value) r.line (unmet_arguments rs ws) (in-met (argument_range r) w.value h.0) (met-arguments rs ws h.1)

lengths-met : (l : Launch) (ns : List Length) (bs : List (List ℤ)) → length ns ≡ length bs → unmet_lengths l ns bs ≡ None → AllZip (IsLongEnough l) (map length_sum ns) bs
lengths-met l [] [] e h = tt
lengths-met l [] (b ∷ bs) e h = absurd (omega arith)
lengths-met l (n ∷ ns) [] e h = absurd (omega arith)
lengths-met l (n ∷ ns) (b ∷ bs) e h =
    let k = unless-none (int_le (sum_value l (length_sum n)) (pos (length b))) n.line (unmet_lengths l ns bs) h in
    (le-true (sum_value l (length_sum n)) (pos (length b)) k.0, lengths-met l ns bs (omega arith) k.1)

met-lengths : (l : Launch) (ns : List Length) (bs : List (List ℤ)) → AllZip (IsLongEnough l) (map length_sum ns) bs → unmet_lengths l ns bs ≡ None
met-lengths l [] bs h = refl
met-lengths l (n ∷ ns) [] h = refl
met-lengths l (n ∷ ns) (b ∷ bs) h =
    none-unless (int_le (sum_value l (length_sum n)) (pos (length b))) n.line (unmet_lengths l ns bs) (le-met (sum_value l (length_sum n)) (pos (length b)) h.0) (met-lengths l ns bs h.1)

pub requirements-met : (l : Launch) (rs : List Requirement) → unmet_requirements l rs ≡ None → All (IsRequired l) (map requirement rs)
requirements-met l [] h = All-nil (IsRequired l)
requirements-met l (r ∷ rs) h =
    let k = unless-none (int_le (sum_value l (requirement r).right) (sum_value l (requirement r).left)) r.line (unmet_requirements l rs) h in
    All-cons (IsRequired l) (requirement r) (map requirement rs) (le-true (sum_value l (requirement r).right) (sum_value l (requirement r).left) k.0) (requirements-met l rs k.1)

met-requirements : (l : Launch) (rs : List Requirement) → All (IsRequired l) (map requirement rs) → unmet_requirements l rs ≡ None
met-requirements l [] h = refl
met-requirements l (r ∷ rs) h =
    none-unless (int_le (sum_value l (requirement r).right) (sum_value l (requirement r).left)) r.line (unmet_requirements l rs) (le-met (sum_value l (requirement r).right) (sum_value l (requirement r).left) (All-head (IsRequired l) (requirement r) (map requirement rs) h)) (met-requirements l rs (All-tail (IsRequired l) (requirement r) (map requirement rs) h))

hold-true : (u : Bool) (sum z : ℤ) → may_hold u sum z ≡ true → IsBounded u sum z
hold-true true sum z h = le-true z sum h
hold-true false sum z h = le-true sum z h

hold-met : (u : Bool) (sum z : ℤ) → IsBounded u sum z → may_hold u sum z ≡ true
hold-met true sum z h = le-met z sum h
hold-met false sum z h = le-met sum z h

all-true : (u : Bool) (sum : ℤ) (zs : List ℤ) → may_hold_all u sum zs ≡ true → All (IsBounded u sum) zs
all-true u sum [] h = All-nil (IsBounded u sum)
all-true u sum (z ∷ zs) h =
    let k = both-true (may_hold u sum z) (may_hold_all u sum zs) h in
    All-cons (IsBounded u sum) z zs (hold-true u sum z k.0) (all-true u sum zs k.1)

all-met : (u : Bool) (sum : ℤ) (zs : List ℤ) → All (IsBounded u sum) zs → may_hold_all u sum zs ≡ true
all-met u sum [] h = refl
all-met u sum (z ∷ zs) h =
    true-both (may_hold u sum z) (may_hold_all u sum zs) (hold-met u sum z (All-head (IsBounded u sum) z zs h)) (all-met u sum zs (All-tail (IsBounded u sum) z zs h))

held-true : (l : Launch) (x : meaning.Content) → is_held l x ≡ true → IsHeld l x
held-true l x h = all-true x.is_upper (sum_value l x.sum) (slice_index_or l.buffers x.buffer []) h

held-met : (l : Launch) (x : meaning.Content) → IsHeld l x → is_held l x ≡ true
held-met l x h = all-met x.is_upper (sum_value l x.sum) (slice_index_or l.buffers x.buffer []) h

pub contents-met : (l : Launch) (xs : List Content) → unmet_contents l xs ≡ None → All (IsHeld l) (map content xs)
contents-met l [] h = All-nil (IsHeld l)
contents-met l (x ∷ xs) h =
    let k = unless-none (is_held l (content x)) x.line (unmet_contents l xs) h in
    All-cons (IsHeld l) (content x) (map content xs) (held-true l (content x) k.0) (contents-met l xs k.1)

pub met-contents : (l : Launch) (xs : List Content) → All (IsHeld l) (map content xs) → unmet_contents l xs ≡ None
met-contents l [] h = refl
met-contents l (x ∷ xs) h =
    none-unless (is_held l (content x)) x.line (unmet_contents l xs) (held-met l (content x) (All-head (IsHeld l) (content x) (map content xs) h)) (met-contents l xs (All-tail (IsHeld l) (content x) (map content xs) h))

pub unmet-none : (c : Conditions) (l : Launch) → length c.arguments.items ≡ length l.arguments → length c.lengths.items ≡ length l.buffers → unmet c l ≡ None → Meets (conditions c) l
unmet-none c l p q h =
    let a = then-none (unmet_groups c l) (then (unmet_arguments c.arguments.items l.arguments) (then (unmet_lengths l c.lengths.items l.buffers) (then (unmet_requirements l c.requirements.items) (unmet_contents l c.contents.items)))) h in
    let b = then-none (unmet_arguments c.arguments.items l.arguments) (then (unmet_lengths l c.lengths.items l.buffers) (then (unmet_requirements l c.requirements.items) (unmet_contents l c.contents.items))) a.1 in
    let d = then-none (unmet_lengths l c.lengths.items l.buffers) (then (unmet_requirements l c.requirements.items) (unmet_contents l c.contents.items)) b.1 in
    let e = then-none (unmet_requirements l c.requirements.items) (unmet_contents l c.contents.items) d.1 in
    let x = is_in (count_range c.groups.x) (pos l.groups.x) in
    let y = is_in (count_range c.groups.y) (pos l.groups.y) in
    let z = is_in (count_range c.groups.z) (pos l.groups.z) in
    let g = both-true x (y && z) (unless-none (x && (y && z)) c.groups_line None a.0).0 in
    let g' = both-true y z g.1 in
    record {
      groups_x = in-true (count_range c.groups.x) (pos l.groups.x) g.0;
      groups_y = in-true (count_range c.groups.y) (pos l.groups.y) g'.0;
      groups_z = in-true (count_range c.groups.z) (pos l.groups.z) g'.1;
      arguments = arguments-met c.arguments.items l.arguments p b.0;
      lengths = lengths-met l c.lengths.items l.buffers q d.0;
      requires = requirements-met l c.requirements.items e.0;
      contents = contents-met l c.contents.items e.1;
    }

pub none-unmet : (c : Conditions) (l : Launch) → Meets (conditions c) l → unmet c l ≡ None
none-unmet c l m =
    let x = is_in (count_range c.groups.x) (pos l.groups.x) in
    let y = is_in (count_range c.groups.y) (pos l.groups.y) in
    let z = is_in (count_range c.groups.z) (pos l.groups.z) in
    let g : (x && (y && z)) ≡ true = true-both x (y && z) (in-met (count_range c.groups.x) (pos l.groups.x) m.groups_x) (true-both y z (in-met (count_range c.groups.y) (pos l.groups.y) m.groups_y) (in-met (count_range c.groups.z) (pos l.groups.z) m.groups_z)) in
    none-then (unmet_groups c l) (then (unmet_arguments c.arguments.items l.arguments) (then (unmet_lengths l c.lengths.items l.buffers) (then (unmet_requirements l c.requirements.items) (unmet_contents l c.contents.items)))) (none-unless (x && (y && z)) c.groups_line None g refl)
    (none-then (unmet_arguments c.arguments.items l.arguments) (then (unmet_lengths l c.lengths.items l.buffers) (then (unmet_requirements l c.requirements.items) (unmet_contents l c.contents.items))) (met-arguments c.arguments.items l.arguments m.arguments)
    (none-then (unmet_lengths l c.lengths.items l.buffers) (then (unmet_requirements l c.requirements.items) (unmet_contents l c.contents.items)) (met-lengths l c.lengths.items l.buffers m.lengths)
    (none-then (unmet_requirements l c.requirements.items) (unmet_contents l c.contents.items) (met-requirements l c.requirements.items m.requires) (met-contents l c.contents.items m.contents))))

pub met-iff : (c : Conditions) (l : Launch) (r : Result (Unit {0}) ConditionError) → length c.arguments.items ≡ length l.arguments → length c.lengths.items ≡ length l.buffers → answer r ≡ unmet c l → IsOk r ↔ Meets (conditions c) l
met-iff c l (Ok u) p q e = (λ h. unmet-none c l p q (sym e), λ m. search rules)
met-iff c l (Err x) p q e = (λ h. search rules, λ m. let k = none-unmet c l m in cc)
