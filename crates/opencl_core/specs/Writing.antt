-- The core statements that statements stand for, written out one behind the other (C99 6.8). Core statements are numbered from 1 in the
-- order in which they stand there: an `If` before its parts, a `Loop` before its body and its update.
use Rattle.std.specs.Prelude.{ℕ, List, ◌++◌, pos, Bool, true, false, cond, Option, Some, None, Ok}
use Rattle.semantics.specs.Word as word
use Rattle.semantics.specs.Core as core
use Rattle.semantics.specs.Core.{Site}
use Rattle.kernel_names.specs.NameMap.{Turning, Other}
use Rattle.opencl_tree.specs.Tree.{Expression, Call, Expressions, First, FirstAbsent, FirstDeclares, FirstEvaluates, Statement, Declare, Typedef, Evaluate, If, While, Do, For, Switch, Case, Default, Break, Continue, Return, Block, Empty, Statements, none, one}
use Rattle.opencl_effects.specs.Effects.{has_effect, is_helper}
use Rattle.opencl_values.specs.Faults.{Checked, WrongType, JumpOutside, LeftOut, Repetition, refused, then, Effect, when}
use Rattle.opencl_values.specs.Wholes.{places}
use Rattle.opencl_values.specs.Vectors.{converted_to}
use Rattle.opencl_values.specs.Values.{value_of}
use Rattle.opencl_core.specs.Sites.{begin_of}
use Rattle.opencl_core.specs.Templates.{Returned, Returning, OfKernel, OfFunction}
use Rattle.opencl_core.specs.Rooms.{Room, known, Part, counted, put, write, opened, scope_of, closed}
use Rattle.opencl_core.specs.Flags.{called}
use Rattle.opencl_core.specs.Components.{set_picked}
use Rattle.opencl_core.specs.Parts.{part, no_part, put_if, are_assignments}
use Rattle.opencl_core.specs.Drawing.{test_of, counted_test, begun, draw_whole, evaluate}
use Rattle.opencl_core.specs.Choosing.{write_choice}
use Rattle.opencl_core.specs.Declaring.{write_declaration, write_typedef}

-- where a statement stands: outside all loops, or in loops, the innermost of which has the number, and may test behind its body
pub data Around : Type 0 where
  Outside : Around
  InLoop : (number : ℕ) (tests_last : Bool) → Around

-- what is written as a block: its names end with it
abbrev pub block : (Room → Checked Room) → Room → Checked Room
block go r = then (go (opened r)) (λ s. Ok (closed (scope_of r) s))

abbrev pub put_loop : Site → (number : ℕ) → core.Term → (body update : Part) → Room → Room
put_loop at n t b u r = put (core.Loop n t b.statements u.statements) at Turning (b.standings ++ u.standings) r

-- the number and the test of an `if`, of which the effects stand in front of it
abbrev pub drawn_test : Site → Expression → Room → Checked (ℕ × core.Term × Room)
drawn_test at test r = then (draw_whole test r) (counted_test at test)

-- the first part of an `if` that was counted, with its test
abbrev pub branch_of : Site → (number : ℕ) → core.Term → (taken : Room → Checked Room) → Room → Checked (Site × ℕ × core.Term × Part × Room)
branch_of at n t taken r = then (part (block taken) r) (λ a. Ok (at, n, t, a.0, a.1))

-- the second part of an `if`
abbrev pub otherwise : Site → (number : ℕ) → core.Term → (taken : Part) → (skipped : Room → Checked Room) → Room → Checked Room
otherwise at n t a skipped r = then (part (block skipped) r) (λ b. Ok (put_if at n t a b.0 b.1))

abbrev pub choice_of : Site → Expression → (taken skipped : Room → Checked Room) → Room → Checked Room
choice_of at test taken skipped r =
    then (drawn_test at test r) (λ c. then (branch_of at c.0 c.1 taken c.2) (λ b. otherwise b.0 b.1 b.2 b.3 skipped b.4))

-- a loop that was counted, with its test
abbrev pub turned : Site → (number : ℕ) → core.Term → (body update : Room → Checked Room) → Room → Checked Room
turned at n t body update r =
    then (part (block body) r) (λ b. then (part update b.1) (λ u. Ok (put_loop at n t b.0 u.0 u.1)))

-- a loop that tests in front of its body, which knows the loop's number (C99 6.8.5.1, 6.8.5.3)
abbrev pub loop_of : Site → (test : Room → Checked core.Term) → (body : (number : ℕ) → Room → Checked Room) → (update : Room → Checked Room) → Room → Checked Room
loop_of at test body update r = then (counted at (begun r)) (λ c. then (test c) (λ t. turned at r.next t (body r.next) update c))

-- a `for` without a test turns until it is left (6.8.5.3p2)
abbrev pub always : core.Term
always = core.Literal word.Int (pos 1)

abbrev pub maybe_test : Option Expression → Room → Checked core.Term
maybe_test None r = Ok always
maybe_test (Some e) r = test_of e r

-- the update of a loop, of which nothing else is written: what does not only assign is left out
abbrev pub maybe_effect : Option Expression → Room → Checked Room
maybe_effect None r = Ok r
maybe_effect (Some e) r = then (evaluate e r) (λ w. when (are_assignments w.written) (LeftOut Effect) (begin_of e) w)

abbrev pub first_written : First → Room → Checked Room
first_written FirstAbsent r = Ok r
first_written (FirstDeclares d) r = write_declaration d r
first_written (FirstEvaluates e) r = evaluate e r

abbrev pub break_of : Site → (loop : ℕ) → Room → Checked Room
break_of at loop r = write (λ n. core.Break n loop) at Other r

-- a loop is left where its test does not hold: at the end of the body of a `do`, and in front of a body where the test has effects
abbrev pub left_unless : Site → Expression → (loop : ℕ) → Room → Checked Room
left_unless at test loop r =
    then (drawn_test at test r) (λ c. then (part (break_of at loop) c.2) (λ b. Ok (put_if at c.0 c.1 no_part b.0 b.1)))

-- the body of a loop whose test has effects
abbrev pub tested_body : Site → (number : ℕ) → Expression → (body : Room → Checked Room) → Room → Checked Room
tested_body at n test body r = then (left_unless at test n r) body

-- it turns until its body leaves it
abbrev pub inner_loop : Site → Expression → (body : (number : ℕ) → Room → Checked Room) → (update : Room → Checked Room) → Room → Checked Room
inner_loop at test body update r =
    then (counted at r) (λ c. turned at r.next always (tested_body at r.next test (body r.next)) update c)

abbrev pub plain_while : Site → Expression → (body : (number : ℕ) → Room → Checked Room) → Room → Checked Room
plain_while at test body r = then (drawn_test at test r) (λ c. turned at c.0 c.1 (body c.0) (maybe_effect None) c.2)

unfoldable pub while_of : Site → Expression → (body : (number : ℕ) → Room → Checked Room) → Room → Checked Room
while_of at test body r =
    cond (has_effect r.helpers test) (inner_loop at test body (maybe_effect None) r) (plain_while at test body r)

abbrev pub for_of : Site → Option Expression → (body : (number : ℕ) → Room → Checked Room) → (update : Room → Checked Room) → Room → Checked Room
for_of at None body update r = loop_of at (maybe_test None) body update r
for_of at (Some e) body update r =
    cond (has_effect r.helpers e) (inner_loop at e body update r) (loop_of at (maybe_test (Some e)) body update r)

unfoldable pub for_whole : Site → First → (test : Option Expression) → (body : (number : ℕ) → Room → Checked Room) → (update : Option Expression) → Room → Checked Room
for_whole at first test body update r =
    block (λ o. then (first_written first o) (for_of at test body (maybe_effect update))) r

abbrev pub continue_of : Site → (loop : ℕ) → Room → Checked Room
continue_of at loop r = write (λ n. core.Continue n loop) at Other r

abbrev pub do_body : Site → (loop : ℕ) → (body : Room → Checked Room) → (test : Expression) → Room → Checked Room
do_body at loop body test r = then (block body r) (left_unless at test loop)

-- a loop that tests behind its body (6.8.5.2)
abbrev pub do_loop : Site → (body : (number : ℕ) → Room → Checked Room) → (test : Expression) → Room → Checked Room
do_loop at body test r =
    then (counted at r) (λ c. then (part (do_body at r.next (body r.next) test) c) (λ b. Ok (put_loop at r.next always b.0 no_part b.1)))

-- `break` and `continue` are of the innermost loop around them (6.8.6.2p2, 6.8.6.3p2). One that goes on to a test behind the body is left
-- out
abbrev pub left : Site → Around → Room → Checked Room
left at Outside r = refused JumpOutside at
left at (InLoop loop tests_last) r = break_of at loop r

abbrev pub goes_on : Site → Around → Room → Checked Room
goes_on at Outside r = refused JumpOutside at
goes_on at (InLoop loop true) r = refused (LeftOut Repetition) at
goes_on at (InLoop loop false) r = continue_of at loop r

abbrev pub put_return : Site → Room → Checked Room
put_return at r = write core.Return at Other r

-- the value that a function returns goes into its slots, as by an assignment (6.8.6.4p3)
abbrev pub return_value : Site → Returned → Expression → Room → Checked Room
return_value at x e r =
    then (draw_whole e r) (λ d. then (value_of (known d) e) (λ v. then (converted_to d.ids at x.type v) (λ w.
    set_picked at x.slot w 0 (places x.type.width) d)))

-- a kernel returns nothing, and so does a function of `void` (6.8.6.4p1)
abbrev pub returned_by : Returning → Site → Option Expression → Room → Checked Room
returned_by OfKernel at None r = put_return at r
returned_by OfKernel at (Some e) r = refused WrongType at
returned_by (OfFunction None) at None r = Ok r
returned_by (OfFunction None) at (Some e) r = refused WrongType at
returned_by (OfFunction (Some x)) at None r = refused WrongType at
returned_by (OfFunction (Some x)) at (Some e) r = return_value at x e r

abbrev pub returned : Site → Option Expression → Room → Checked Room
returned at e r = returned_by r.returns at e r

-- a call of a built-in function, whose arguments are drawn
unfoldable pub called_behind : (of : Expression) → Site → (name : List ℕ) → Expressions → Room → Checked Room
called_behind e at name es r = then (draw_whole e r) (called at name es)

-- a call `of` a function, whose value is not used
unfoldable pub call_evaluated : (of : Expression) → Site → (name : List ℕ) → Expressions → Room → Checked Room
call_evaluated e at name es r = cond (is_helper r.helpers name) (evaluate e r) (called_behind e at name es r)

abbrev pub evaluated : Expression → Room → Checked Room
evaluated (Call at name es) r = call_evaluated (Call at name es) at name es r
evaluated e r = evaluate e r

unfoldable mutual
  pub write_statement : Around → Statement → Room → Checked Room
  write_statement around (Declare d) r = write_declaration d r
  write_statement around (Typedef d) r = write_typedef d r
  write_statement around (Evaluate n at e) r = evaluated e r
  write_statement around (If n at test taken skipped) r = choice_of at test (write_all around taken) (write_all around skipped) r
  write_statement around (While n at test body) r = while_of at test (λ loop. write_all (InLoop loop false) body) r
  write_statement around (Do n at body test) r = do_loop at (λ loop. write_all (InLoop loop true) body) test r
  write_statement around (For n at first test update body) r =
      for_whole at first test (λ loop. write_all (InLoop loop false) body) update r
  write_statement around (Switch n at test labels) r = write_choice at test labels r
  write_statement around (Case n at value) r = refused JumpOutside at
  write_statement around (Default n at) r = refused JumpOutside at
  write_statement around (Break n at) r = left at around r
  write_statement around (Continue n at) r = goes_on at around r
  write_statement around (Return n at value) r = returned at value r
  write_statement around (Block n at body) r = block (write_all around body) r
  write_statement around (Empty n at) r = Ok r

  pub write_all : Around → Statements → Room → Checked Room
  write_all around none r = Ok r
  write_all around (one s ss) r = then (write_statement around s r) (write_all around ss)
