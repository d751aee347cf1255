-- The first condition that a launch does not meet, by its line, in the order of the text: group counts, arguments, lengths,
-- requirements, what buffers hold.
use Rattle.std.specs.Prelude.{ℕ, ℤ, pos, List, [], ◌∷◌, length, slice_index_or, Bool, true, false, ◌&&◌, int_le, Option, Some, None, Result, Ok, Err}
use Rattle.semantics.specs.Conditions as meaning
use Rattle.semantics.specs.Word.{Word}
use Rattle.semantics.specs.Launch as launches
use Rattle.launch.specs.View.{count_range, argument_range, length_sum, requirement, content}
use Rattle.launch.specs.declared.conditions.ArgumentRange.{ArgumentRange}
use Rattle.launch.specs.declared.conditions.Length.{Length}
use Rattle.launch.specs.declared.conditions.Requirement.{Requirement}
use Rattle.launch.specs.declared.conditions.Content.{Content}
use Rattle.launch.specs.declared.conditions.Conditions.{Conditions}
use Rattle.launch.specs.declared.error.ConditionError.{ConditionError}

-- the code's answer as a line
abbrev pub answer : Result (Unit {0}) ConditionError → Option ℕ
answer (Ok u) = None
answer (Err e) = Some e.line

abbrev pub is_in : meaning.Range → ℤ → Bool
is_in r z = int_le r.low z && int_le z r.high

-- a condition's line where it is not met, else what is first among the others
abbrev pub unless : Bool → (line : ℕ) → Option ℕ → Option ℕ
unless true line others = others
unless false line others = Some line

abbrev pub then : Option ℕ → Option ℕ → Option ℕ
then (Some line) others = Some line
then None others = others

abbrev pub unmet_groups : Conditions → launches.Launch → Option ℕ
unmet_groups c l =
    unless (is_in (count_range c.groups.x) (pos l.groups.x) && (is_in (count_range c.groups.y) (pos l.groups.y) && is_in (count_range c.groups.z) (pos l.groups.z))) c.groups_line None

abbrev pub unmet_arguments : List ArgumentRange → List Word → Option ℕ
unmet_arguments [] ws = None
unmet_arguments (r ∷ rs) [] = None
unmet_arguments (r ∷ rs) (w ∷ ws) = unless (is_in (argument_range r) w.value) r.line (unmet_arguments rs ws)

abbrev pub unmet_lengths : launches.Launch → List Length → List (List ℤ) → Option ℕ
unmet_lengths l [] bs = None
unmet_lengths l (n ∷ ns) [] = None
unmet_lengths l (n ∷ ns) (b ∷ bs) = unless (int_le (meaning.sum_value l (length_sum n)) (pos (length b))) n.line (unmet_lengths l ns bs)

-- the same of lengths, by the numbers of elements alone
abbrev pub unmet_counts : launches.Launch → List Length → List ℕ → Option ℕ
unmet_counts l [] cs = None
unmet_counts l (n ∷ ns) [] = None
unmet_counts l (n ∷ ns) (c ∷ cs) = unless (int_le (meaning.sum_value l (length_sum n)) (pos c)) n.line (unmet_counts l ns cs)

abbrev pub unmet_requirements : launches.Launch → List Requirement → Option ℕ
unmet_requirements l [] = None
unmet_requirements l (r ∷ rs) =
    unless (int_le (meaning.sum_value l (requirement r).right) (meaning.sum_value l (requirement r).left)) r.line (unmet_requirements l rs)

-- whether a line lets its buffer hold a number
abbrev pub may_hold : (is_upper : Bool) → (sum z : ℤ) → Bool
may_hold true sum z = int_le z sum
may_hold false sum z = int_le sum z

-- and each of these
abbrev pub may_hold_all : (is_upper : Bool) → (sum : ℤ) → List ℤ → Bool
may_hold_all is_upper sum [] = true
may_hold_all is_upper sum (z ∷ zs) = may_hold is_upper sum z && may_hold_all is_upper sum zs

abbrev pub is_held : launches.Launch → meaning.Content → Bool
is_held l x = may_hold_all x.is_upper (meaning.sum_value l x.sum) (slice_index_or l.buffers x.buffer [])

abbrev pub unmet_contents : launches.Launch → List Content → Option ℕ
unmet_contents l [] = None
unmet_contents l (x ∷ xs) = unless (is_held l (content x)) x.line (unmet_contents l xs)

abbrev pub unmet : Conditions → launches.Launch → Option ℕ
unmet c l =
    then (unmet_groups c l) (then (unmet_arguments c.arguments.items l.arguments) (
    then (unmet_lengths l c.lengths.items l.buffers) (then (unmet_requirements l c.requirements.items) (unmet_contents l c.contents.items))))

-- a launch with these buffers, this fill word and this machine in the place of its own
abbrev pub with_buffers : launches.Launch → List (List ℤ) → ℕ → launches.Machine → launches.Launch
with_buffers l bs f m = record { groups = l.groups; arguments = l.arguments; buffers = bs; fill = f; machine = m }

-- the first condition that no launch with these group counts, arguments and numbers of elements meets, but for what buffers hold
abbrev pub unmet_by : Conditions → launches.Launch → List ℕ → Option ℕ
unmet_by c l cs =
    then (unmet_groups c l) (then (unmet_arguments c.arguments.items l.arguments) (then (unmet_counts l c.lengths.items cs) (unmet_requirements l c.requirements.items)))
