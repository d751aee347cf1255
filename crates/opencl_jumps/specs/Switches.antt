-- A `switch` whose labels stand directly in its body (C99 6.8.4.2): its labels alone, which say that its test is kept in a variable, then an
-- `if` for the statements behind each row of labels, those of `default` last. Where it is no such one it stays. A `do` without `continue`.
use Rattle.std.specs.Prelude.{ℕ, List, [], ◌∷◌, ◌++◌, Bool, true, false, cond, Option, Some, None}
use Rattle.semantics.specs.Word.{Equal}
use Rattle.semantics.specs.Core.{Site}
use Rattle.texts.specs.Surface.{Comparison, LogicalOr}
use Rattle.opencl_tree.specs.Tree.{Expression, Name, Infix, Statement, If, While, Do, For, Switch, Case, Default, Block, Statements, none, one}
use Rattle.opencl_jumps.specs.Exits.{Breaking, Continuing, fits}
use Rattle.opencl_jumps.specs.Made.{choice_name}
use Rattle.opencl_jumps.specs.Labels.{copy, may_write}
use Rattle.opencl_jumps.specs.Leaving.{region}

-- statements behind a row of labels, with what tells that one of these is met; the statements of `default` have no need of it
pub record Group : Type 0 where
  pub is_default : Bool
  pub test : Option Expression
  pub body : Statements

-- a body, cut at its labels, from its end on: what stands behind the last label that was met, whether nothing stands in front of that one,
-- the group of that one, those behind it, and what stands at `default`
pub record Cut : Type 0 where
  pub front : Statements
  pub is_row : Bool
  pub group : Group
  pub groups : List Group
  pub others : Statements
  pub labels : Statements

abbrev pub no_group : Group
no_group = record { is_default = false; test = None; body = none }

abbrev pub not_cut : Cut
not_cut = record { front = none; is_row = false; group = no_group; groups = []; others = none; labels = none }

abbrev pub is_met : Site → Expression → Expression
is_met at e = Infix at (Comparison Equal) (Name at choice_name) (copy at e)

abbrev pub either : Site → Expression → Option Expression → Expression
either at e None = e
either at e (Some other) = Infix at LogicalOr e other

abbrev pub with_case : Site → Expression → Group → Group
with_case at e g = record g { test = Some (either at (is_met at e) g.test) }

abbrev pub with_default : Group → Group
with_default g = record g { is_default = true }

-- the group is whole
abbrev pub closed : Cut → Cut
closed c =
    cond c.group.is_default (record c { others = c.group.body; group = no_group }) (record c { groups = c.groups ++ c.group ∷ []; group = no_group })

abbrev pub behind_row : Cut → Cut
behind_row c = record c { front = none; is_row = true; group = record { is_default = false; test = None; body = c.front } }

-- the row of labels to which one more belongs
abbrev pub row : Cut → Cut
row c = cond c.is_row c (behind_row (closed c))

abbrev pub case_at : (number : ℕ) → Site → Expression → Cut → Cut
case_at n at e c = record c { group = with_case at e c.group; labels = one (Case n at e) c.labels }

abbrev pub default_at : (number : ℕ) → Site → Cut → Cut
default_at n at c = record c { group = with_default c.group; labels = one (Default n at) c.labels }

abbrev pub in_front : Statement → Cut → Cut
in_front s c = record c { front = one s c.front; is_row = false }

abbrev pub cut_at : Statement → Cut → Cut
cut_at (Case n at e) c = case_at n at e (row c)
cut_at (Default n at) c = default_at n at (row c)
cut_at s c = in_front s c

abbrev pub cut : Statements → Cut
cut none = not_cut
cut (one s ss) = cut_at s (cut ss)

-- an `if`, with what is done where its test does not hold
abbrev pub linked_by : Site → Option Expression → (body skipped : Statements) → Statements
linked_by at None body skipped = skipped
linked_by at (Some t) body skipped = one (If 0 at t (region Breaking at body) skipped) none

abbrev pub linked : Site → Group → (skipped : Statements) → Statements
linked at g skipped = linked_by at g.test g.body skipped

abbrev pub chain : Site → List Group → (so : Statements) → Statements
chain at [] so = so
chain at (g ∷ gs) so = chain at gs (linked at g so)

abbrev pub chosen : Site → Cut → Statements
chosen at c = chain at c.groups (region Breaking at c.others)

abbrev pub written : (number : ℕ) → Site → Expression → Cut → Statement
written n at t c = Block n at (one (Switch n at t c.labels) (chosen at (closed c)))

abbrev pub switch_of : (number : ℕ) → Site → Expression → Statements → Statement
switch_of n at t body = cond (may_write body) (written n at t (cut body)) (Switch n at t body)

abbrev pub do_body : Site → Statements → Statements
do_body at body = cond (fits Continuing body) (region Continuing at body) body

abbrev mutual
  pub rewritten : Statement → Statement
  rewritten (If n at t a b) = If n at t (all_rewritten a) (all_rewritten b)
  rewritten (While n at t body) = While n at t (all_rewritten body)
  rewritten (Do n at body t) = Do n at (do_body at (all_rewritten body)) t
  rewritten (For n at first t update body) = For n at first t update (all_rewritten body)
  rewritten (Switch n at t body) = switch_of n at t (all_rewritten body)
  rewritten (Block n at body) = Block n at (all_rewritten body)
  rewritten s = s

  pub all_rewritten : Statements → Statements
  all_rewritten none = none
  all_rewritten (one s ss) = one (rewritten s) (all_rewritten ss)
