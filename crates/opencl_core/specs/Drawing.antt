-- Expressions with effects, drawn out: what they store is written in front of the statement in which they stand, left to right, and their
-- values are kept in variables, which are found by the sorts and places of their operators (C99 6.5, 5.1.2.3). Where C leaves the order of
-- two operands open, and it matters, they are left out (6.5p2 and p3). Where nothing has an effect nothing is written.
use Rattle.std.specs.Prelude.{ℕ, List, [], ◌∷◌, ◌++◌, pos, Bool, true, false, cond, not, ◌||◌, None, Some, Ok}
use Rattle.semantics.specs.Word as word
use Rattle.semantics.specs.Word.{Kind}
use Rattle.semantics.specs.Core as core
use Rattle.semantics.specs.Core.{Site}
use Rattle.kernel_names.specs.NameMap.{Other}
use Rattle.texts.specs.Surface.{AssignSign, Plain, InfixSign, LogicalAnd, LogicalOr}
use Rattle.opencl_tree.specs.Tree.{StepSign, Side, Before, Behind, Expression, Integer, Real, Name, Call, Index, Member, Prefix, Step, Cast, Vector, Infix, Conditional, Assign, Comma, SizeofType, SizeofOf, Expressions, nothing, also}
use Rattle.opencl_terms.specs.Types.{Scalar, Int, Value, kind_of, is_unsettled}
use Rattle.opencl_effects.specs.Effects.{is_helper, has_effect, clash, clash_among, clash_assigned, stores_twice}
use Rattle.opencl_effects.specs.Marks.{Sort, OfStep, OfAssign, OfComma, OfLogical, OfChoice, places_are_apart}
use Rattle.opencl_values.specs.Faults.{Checked, LeftOut, Effect, Long, refused, when, then}
use Rattle.opencl_values.specs.Singles.{Single, single, alone, as_scalar, as_test, scalar_of_both}
use Rattle.opencl_values.specs.Wholes.{whole, only, places}
use Rattle.opencl_values.specs.Operations.{infix_of}
use Rattle.opencl_values.specs.Values.{value_of}
use Rattle.opencl_core.specs.Sites.{begin_of}
use Rattle.opencl_core.specs.Rooms as rooms
use Rattle.opencl_core.specs.Rooms.{Room, Part, known, counted, set, next_slot, made_up, next_slots, all_made_up, with_drawn, apart, part_of, rejoined, join}
use Rattle.opencl_core.specs.Parts.{part, no_part, put_if}
use Rattle.opencl_core.specs.Components.{set_picked}
use Rattle.opencl_core.specs.Calling.{draw_call}
use Rattle.opencl_core.specs.Assigning.{Change, assigned, change, step_sign, is_void, effect}

-- a value, kept in variables that are made up, with the first one's slot
abbrev pub keep : Site → Value → Room → Checked (ℕ × Room)
keep at v r =
    then (next_slots at v.type.width r) (λ slot. then (set_picked at slot v 0 (places v.type.width) r) (λ w.
    Ok (slot, all_made_up at (kind_of r.ids v.type.scalar) v.type.width w)))

abbrev pub keep_drawn : Sort → Site → Value → Room → Checked Room
keep_drawn sort at v r = then (keep at v r) (λ k. Ok (with_drawn sort at v.type k.0 k.1))

-- the value of an expression as that of what stands at a site
abbrev pub draw_value : Sort → Site → Expression → Room → Checked Room
draw_value sort at e r = then (value_of (known r) e) (λ v. keep_drawn sort at v r)

-- a value that is not used: what it loads is loaded
abbrev pub dropped : Expression → Room → Checked Room
dropped e r = then (value_of (known r) e) (λ v. then (keep (begin_of e) v r) (λ k. Ok k.1))

abbrev pub ordered : (clashes : Bool) → Site → Room → Checked Room
ordered clashes at r = when (not clashes) (LeftOut Effect) at r

abbrev pub assign_change : Site → AssignSign → (target value : Expression) → Change
assign_change at sign x e = record { at = begin_of x; sign = sign; sign_site = at; value = Some e }

abbrev pub step_begin : Site → Side → (target : Expression) → Site
step_begin at Before x = at
step_begin at Behind x = begin_of x

abbrev pub step_change : Site → Side → StepSign → (target : Expression) → Change
step_change at side sign x = record { at = step_begin at side x; sign = step_sign sign; sign_site = at; value = None }

-- what is stored is the value that was kept for the whole assignment
abbrev pub storing_kept : Change → (of : Expression) → Change
storing_kept c e = record c { sign = Plain; value = Some e }

-- the value of an assignment is that of its target behind it, in the target's type (6.5.16p3)
abbrev pub new_value : Change → (target : Expression) → Room → Checked Value
new_value c x r = then (value_of (known r) x) (λ old. assigned c old.type old r)

abbrev pub draw_new : Sort → Change → (of target : Expression) → Room → Checked Room
draw_new sort c e x r = then (new_value c x r) (λ v. then (keep_drawn sort c.sign_site v r) (change (storing_kept c e) x))

-- the value of `x++` is that of `x` in front of it (6.5.2.4p2)
abbrev pub draw_old : Change → (target : Expression) → Room → Checked Room
draw_old c x r = then (draw_value OfStep c.sign_site x r) (change c x)

abbrev pub draw_step : Change → Side → (of target : Expression) → Room → Checked Room
draw_step c Before e x r = draw_new OfStep c e x r
draw_step c Behind e x r = draw_old c x r

-- `&&` and `||`: the sign, and a right operand behind which only the left one counts
abbrev pub logical_sign : (is_and : Bool) → InfixSign
logical_sign true = LogicalAnd
logical_sign false = LogicalOr

abbrev pub neutral : (is_and : Bool) → Single
neutral true = single Int (core.Literal word.Int (pos 1))
neutral false = single Int (core.Literal word.Int (pos 0))

-- an operand as 0 or 1
abbrev pub tested : (is_and : Bool) → Site → Expression → Room → Checked Single
tested is_and at e r =
    then (value_of (known r) e) (λ v. then (only at v) (λ s. infix_of r.ids (logical_sign is_and) at s (neutral is_and)))

abbrev pub keep_tested : (is_and : Bool) → Site → Expression → Room → Checked (ℕ × Room)
keep_tested is_and at e r = then (tested is_and at e r) (λ v. keep at (whole v) r)

abbrev pub set_tested : (is_and : Bool) → Site → Expression → (slot : ℕ) → Room → Checked Room
set_tested is_and at e slot r = then (tested is_and at e r) (λ v. set slot v.term at r)

abbrev pub right_part : (draws : Room → Checked Room) → (is_and : Bool) → Site → Expression → (slot : ℕ) → Room → Checked (Part × Room)
right_part draws is_and at e slot r = part (λ a. then (draws a) (set_tested is_and at e slot)) r

-- the right operand of `&&` is evaluated where the left one is not 0, that of `||` where it is (6.5.13p4, 6.5.14p4)
abbrev pub put_right : (is_and : Bool) → Site → (number slot : ℕ) → Part → Room → Room
put_right true at n slot p r = put_if at n (core.Variable slot) p no_part r
put_right false at n slot p r = put_if at n (core.Variable slot) no_part p r

abbrev pub draw_right : (draws : Room → Checked Room) → (is_and : Bool) → Site → Expression → (slot : ℕ) → Room → Checked Room
draw_right draws is_and at e slot r =
    then (counted at r) (λ c. then (right_part draws is_and at e slot c) (λ p. Ok (put_right is_and at r.next slot p.0 p.1)))

-- `draws` draws the right operand, `l` is drawn
abbrev pub draw_logical : (draws : Room → Checked Room) → (is_and : Bool) → Site → (l e : Expression) → Room → Checked Room
draw_logical draws is_and at l e r =
    then (keep_tested is_and at l r) (λ k. then (draw_right draws is_and at e k.0 k.1) (λ d. Ok (with_drawn OfLogical at (alone Int) k.0 d)))

abbrev pub logical_drawn : (draws : Room → Checked Room) → (is_and : Bool) → Site → (l e : Expression) → Room → Checked Room
logical_drawn draws is_and at l e r = cond (has_effect r.helpers e) (draw_logical draws is_and at l e r) (Ok r)

unfoldable pub draw_infix : (left right : Room → Checked Room) → Site → InfixSign → (l e : Expression) → Room → Checked Room
draw_infix left right at LogicalAnd l e r = then (left r) (logical_drawn right true at l e)
draw_infix left right at LogicalOr l e r = then (left r) (logical_drawn right false at l e)
draw_infix left right at sign l e r = then (ordered (clash r.helpers l e) at r) (λ a. then (left a) right)

-- an arm of `?:`, apart: its value, and the number of the statement that is to keep it
pub record Arm : Type 0 where
  pub part : Part
  pub value : Single
  pub number : ℕ

abbrev pub arm_of : (before : Part) → Single → (number : ℕ) → Room → Arm × Room
arm_of before v n r = (record { part = part_of r; value = v; number = n }, rejoined before r)

abbrev pub arm_value : Site → Expression → Room → Checked Single
arm_value at e r = then (value_of (known r) e) (only at)

abbrev pub draw_arm : (draws : Room → Checked Room) → Site → Expression → Room → Checked (Arm × Room)
draw_arm draws at e r =
    then (draws (apart r)) (λ d. then (arm_value at e d) (λ v. then (counted at d) (λ c. Ok (arm_of (part_of r) v d.next c))))

-- a part with one statement more
abbrev pub with_last : core.Statement → Site → Part → Part
with_last s at p = record {
  statements = join p.statements (rooms.single s);
  standings = p.standings ++ rooms.standing (core.number s) at Other (core.number s) ∷ [];
}

abbrev pub arm_kept : (ids : Kind) → Site → (to : Scalar) → (slot : ℕ) → Arm → Part
arm_kept ids at to slot a = with_last (core.Set a.number slot (as_scalar ids to at a.value)) at a.part

abbrev pub put_choice : Site → (number : ℕ) → core.Term → (to : Scalar) → (slot : ℕ) → (a b : Arm) → Room → Room
put_choice at n t to slot a b r = put_if at n t (arm_kept r.ids at to slot a) (arm_kept r.ids at to slot b) r

abbrev pub keep_choice : Site → (number : ℕ) → core.Term → (to : Scalar) → (a b : Arm) → Room → Checked Room
keep_choice at n t to a b r =
    then (next_slot at r) (λ slot. Ok (with_drawn OfChoice at (alone to) slot (made_up at (kind_of r.ids to) (put_choice at n t to slot a b r))))

-- a test as a term: not 0 where it holds (6.8.4.1p2)
abbrev pub test_of : Expression → Room → Checked core.Term
test_of e r = then (value_of (known r) e) (λ v. then (only (begin_of e) v) (λ s. Ok (as_test r.ids (begin_of e) s)))

-- the number and the test of an `if`
abbrev pub counted_test : Site → Expression → Room → Checked (ℕ × core.Term × Room)
counted_test at test r = then (counted at r) (λ c. then (test_of test c) (λ t. Ok (r.next, t, c)))

abbrev pub both_arms : (taken skipped : Room → Checked Room) → Site → (a b : Expression) → Room → Checked (Arm × Arm × Room)
both_arms taken skipped at a b r = then (draw_arm taken at a r) (λ x. then (draw_arm skipped at b x.1) (λ y. Ok (x.0, y.0, y.1)))

-- one arm of `?:` is evaluated, and converted to the type of both (6.5.15p4 and p5); vectors are left out. `t` is drawn
abbrev pub draw_choice : (taken skipped : Room → Checked Room) → Site → (t a b : Expression) → Room → Checked Room
draw_choice taken skipped at t a b r =
    then (counted_test at t r) (λ c. then (both_arms taken skipped at a b c.2) (λ x.
    cond (is_unsettled x.0.value.scalar x.1.value.scalar) (refused (LeftOut Long) at)
    (keep_choice at c.0 c.1 (scalar_of_both x.0.value x.1.value) x.0 x.1 x.2)))

abbrev pub choice_drawn : (taken skipped : Room → Checked Room) → Site → (t a b : Expression) → Room → Checked Room
choice_drawn taken skipped at t a b r =
    cond (has_effect r.helpers a || has_effect r.helpers b) (draw_choice taken skipped at t a b r) (Ok r)

-- the arguments of a call, or the parts of a vector
abbrev pub draw_listed : (draws : Room → Checked Room) → Site → Expressions → Room → Checked Room
draw_listed draws at es r = then (ordered (clash_among r.helpers es) at r) draws

unfoldable mutual
  pub draw : Expression → Room → Checked Room
  draw (Integer at k n) r = Ok r
  draw (Real at spelling) r = Ok r
  draw (Name at name) r = Ok r
  draw (Call at name es) r = then (draw_listed (draw_all es) at es r) (draw_call at name es)
  draw (Index at e i) r = then (ordered (clash r.helpers e i) at r) (λ a. then (draw e a) (draw i))
  draw (Member at e name) r = draw e r
  draw (Prefix at sign e) r = draw e r
  draw (Step at side sign x) r = then (ordered (stores_twice x x) at r) (λ a. then (draw x a)
      (draw_step (step_change at side sign x) side (Step at side sign x) x))
  draw (Cast at t e) r = draw e r
  draw (Vector at t es) r = draw_listed (draw_all es) at es r
  draw (Infix at sign l e) r = draw_infix (draw l) (draw e) at sign l e r
  draw (Conditional at t a b) r = then (draw t r) (choice_drawn (draw a) (draw b) at t a b)
  draw (Assign at sign x e) r =
      then (ordered (clash_assigned r.helpers sign x e) at r) (λ a. then (draw x a) (λ b. then (draw e b) (λ c.
      draw_new OfAssign (assign_change at sign x e) (Assign at sign x e) x c)))
  draw (Comma at a b) r = then (draw a r) (λ d. then (dropped a d) (λ f. then (draw b f) (draw_value OfComma at b)))
  draw (SizeofType at t) r = Ok r
  draw (SizeofOf at e) r = Ok r

  pub draw_all : Expressions → Room → Checked Room
  draw_all nothing r = Ok r
  draw_all (also e es) r = then (draw e r) (draw_all es)

-- what was drawn for other expressions is forgotten
abbrev pub begun : Room → Room
begun r = record r { drawn = [] }

-- what is drawn is found by its sort and its place, so that each needs one of its own
abbrev pub apart_in : Expression → Room → Checked Room
apart_in e r = ordered (not (places_are_apart r.helpers e)) (begin_of e) r

-- a whole expression (6.8p4)
abbrev pub draw_apart : Expression → Room → Checked Room
draw_apart e r = then (apart_in e r) (draw e)

abbrev pub draw_whole : Expression → Room → Checked Room
draw_whole e r = cond (has_effect r.helpers e) (draw_apart e (begun r)) (Ok (begun r))

-- whether something within an expression that stands alone has an effect
abbrev pub has_inner : Room → Expression → Bool
has_inner r (Assign at sign x e) = has_effect r.helpers x || has_effect r.helpers e
has_inner r (Step at side sign x) = has_effect r.helpers x
has_inner r (Comma at a b) = has_inner r a || has_inner r b
has_inner r (Cast at t e) = has_inner r e
has_inner r e = has_effect r.helpers e

abbrev pub draw_dropped : Expression → Room → Checked Room
draw_dropped e r = then (draw e r) (dropped e)

-- an expression whose value is not used (6.8.3p2)
abbrev pub perform : Expression → Room → Checked Room
perform (Assign at sign x e) r =
    then (ordered (clash_assigned r.helpers sign x e) at r) (λ a. then (draw x a) (λ b. then (draw e b) (change (assign_change at sign x e) x)))
perform (Step at side sign x) r =
    then (ordered (stores_twice x x) at r) (λ a. then (draw x a) (change (step_change at side sign x) x))
perform (Comma at a b) r = then (perform a r) (perform b)
perform (Cast at t e) r = cond (is_void t.base t.stars) (perform e r) (draw_dropped (Cast at t e) r)
perform (Call at name es) r = cond (is_helper r.helpers name) (draw (Call at name es) r) (draw_dropped (Call at name es) r)
perform e r = draw_dropped e r

abbrev pub perform_apart : Expression → Room → Checked Room
perform_apart e r = then (apart_in e r) (perform e)

-- whether there is one that stores nothing: it is evaluated all the same (6.8.3p2)
abbrev pub is_plain : Expression → Bool
is_plain (Assign at sign x e) = false
is_plain (Step at side sign x) = false
is_plain (Comma at a b) = is_plain a || is_plain b
is_plain (Cast at t e) = is_plain e
is_plain e = true

abbrev pub evaluate_begun : Expression → Room → Checked Room
evaluate_begun e r = cond (has_inner r e || is_plain e) (perform_apart e r) (effect e r)

abbrev pub evaluate : Expression → Room → Checked Room
evaluate e r = evaluate_begun e (begun r)
