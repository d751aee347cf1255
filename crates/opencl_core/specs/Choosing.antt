-- What a `switch` goes by, where its labels stand alone: its test is evaluated once, promoted, and kept in a variable; labels are numbers
-- of the text, none of which stands twice (C99 6.8.4.2p1, p3 and p5). A `switch` with other statements in it is left out.
use Rattle.std.specs.Prelude.{ℕ, List, [], ◌∷◌, ◌++◌, Bool, true, false, not, ◌&&◌, ◌||◌, nat_eq, Option, None, Some, Ok}
use Rattle.semantics.specs.Word as word
use Rattle.semantics.specs.Word.{UnaryOperator}
use Rattle.semantics.specs.Core as core
use Rattle.semantics.specs.Core.{Site}
use Rattle.opencl_tree.specs.Tree.{Expression, Statement, Case, Default, Statements, none, one}
use Rattle.opencl_terms.specs.Types.{promoted, is_float}
use Rattle.opencl_jumps.specs.Made.{choice_name}
use Rattle.opencl_values.specs.Faults.{Checked, NameTwice, WrongType, LeftOut, Choice, refused, then, when, found}
use Rattle.opencl_values.specs.Singles.{Single, single, alone}
use Rattle.opencl_values.specs.Wholes.{only}
use Rattle.opencl_values.specs.Values.{value_of}
use Rattle.opencl_core.specs.Sites.{begin_of}
use Rattle.opencl_core.specs.Constants.{constant_of}
use Rattle.opencl_core.specs.Rooms.{Room, known, set, next_slot, variable_declared}
use Rattle.opencl_core.specs.Drawing.{draw_whole}

-- a number below 2^31, perhaps with a sign
pub record Label : Type 0 where
  pub below : Bool
  pub size : ℕ

abbrev pub above : Option ℕ → Option Label
above None = None
above (Some n) = Some (record { below = false; size = n })

abbrev pub negated : Option ℕ → Option Label
negated None = None
negated (Some n) = Some (record { below = not (nat_eq n 0); size = n })

abbrev pub signed : UnaryOperator → Option ℕ → Option Label
signed word.Negate n = negated n
signed op n = None

abbrev pub label_in : core.Term → Option Label
label_in (core.Unary op kind site t) = signed op (constant_of t)
label_in t = above (constant_of t)

abbrev pub is_same_sign : (a b : Bool) → Bool
is_same_sign a b = (a && b) || (not a && not b)

abbrev pub is_same : Label → Label → Bool
is_same a b = is_same_sign a.below b.below && nat_eq a.size b.size

abbrev pub is_among : List Label → Label → Bool
is_among [] l = false
is_among (m ∷ ms) l = is_same m l || is_among ms l

-- the values of integer types alone
abbrev pub whole_single : Site → Single → Checked Single
whole_single at v = when (not (is_float v.scalar)) WrongType at v

abbrev pub single_of : Expression → Room → Checked Single
single_of e r = then (value_of (known r) e) (λ v. then (only (begin_of e) v) (whole_single (begin_of e)))

abbrev pub label_of : Expression → Room → Checked Label
label_of e r = then (single_of e r) (λ v. found (label_in v.term) (LeftOut Choice) (begin_of e))

-- labels that were met, and whether `default` was
pub record Met : Type 0 where
  pub labels : List Label
  pub others : Bool

abbrev pub met_case : Site → Label → Met → Checked Met
met_case at l m = when (not (is_among m.labels l)) NameTwice at (record m { labels = m.labels ++ l ∷ [] })

abbrev pub met_default : Site → Met → Checked Met
met_default at m = when (not m.others) NameTwice at (record m { others = true })

abbrev pub meet : Site → Statement → Room → Met → Checked Met
meet at (Case n s e) r m = then (label_of e r) (λ l. met_case s l m)
meet at (Default n s) r m = met_default s m
meet at s r m = refused (LeftOut Choice) at

abbrev pub meet_all : Site → Statements → Room → Met → Checked Met
meet_all at none r m = Ok m
meet_all at (one s ss) r m = then (meet at s r m) (meet_all at ss r)

abbrev pub none_met : Met
none_met = record { labels = []; others = false }

-- (what is narrower than `int` is an `int` term already)
abbrev pub keep_choice : Site → Single → Room → Checked Room
keep_choice at v r =
    then (next_slot at r) (λ slot. then (set slot v.term at r) (variable_declared at choice_name (alone (promoted v.scalar)) true))

abbrev pub choose : Site → Expression → Room → Checked Room
choose at t r = then (draw_whole t r) (λ d. then (single_of t d) (λ v. keep_choice at v d))

unfoldable pub write_choice : Site → Expression → Statements → Room → Checked Room
write_choice at t labels r = then (meet_all at labels r none_met) (λ m. choose at t r)
