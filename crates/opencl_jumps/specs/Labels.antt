-- Labels of a `switch` (C99 6.8.1, 6.8.4.2). What stands at one is told of twice, so it has to be of numbers, names and operators.
use Rattle.std.specs.Prelude.{Bool, true, false, not, ◌||◌, ◌&&◌}
use Rattle.semantics.specs.Core.{Site}
use Rattle.opencl_tree.specs.Tree.{Expression, Integer, Name, Prefix, Infix, Statement, Declare, Typedef, If, While, Do, For, Case, Default, Block, Statements, none, one}
use Rattle.opencl_jumps.specs.Exits.{Breaking, ends_with, is_none, is_label, fits}
use Rattle.opencl_jumps.specs.Made.{number}

abbrev pub is_copied : Expression → Bool
is_copied (Integer at k n) = true
is_copied (Name at x) = true
is_copied (Prefix at sign e) = is_copied e
is_copied (Infix at sign l r) = is_copied l && is_copied r
is_copied e = false

-- it once more; of others nothing is made
abbrev pub copy : Site → Expression → Expression
copy s (Integer at k n) = Integer at k n
copy s (Name at x) = Name at x
copy s (Prefix at sign e) = Prefix at sign (copy s e)
copy s (Infix at sign l r) = Infix at sign (copy s l) (copy s r)
copy s e = number s 0

-- whether there is a label in it
abbrev mutual
  pub labels_in : Statement → Bool
  labels_in (Case n at e) = true
  labels_in (Default n at) = true
  labels_in (If n at t a b) = has_label a || has_label b
  labels_in (While n at t body) = has_label body
  labels_in (Do n at body t) = has_label body
  labels_in (For n at first t update body) = has_label body
  labels_in (Block n at body) = has_label body
  labels_in s = false

  pub has_label : Statements → Bool
  has_label none = false
  has_label (one s ss) = labels_in s || has_label ss

abbrev pub is_declaration : Statement → Bool
is_declaration (Declare d) = true
is_declaration (Typedef d) = true
is_declaration s = false

abbrev pub begins_with_label : Statements → Bool
begins_with_label none = false
begins_with_label (one s ss) = is_label s

abbrev pub is_label_copied : Statement → Bool
is_label_copied (Case n at e) = is_copied e
is_label_copied s = true

-- labels stand directly in the body; in front of one all is left, unless another one stands there; what is declared in front of one is not
-- seen behind it (6.8.4.2p7)
abbrev pub label_fits : Statement → Bool
label_fits s = is_label s && is_label_copied s

abbrev pub other_fits : Statement → (behind : Statements) → Bool
other_fits s ss = not (labels_in s) && ((not (is_declaration s) || not (has_label ss)) && (not (begins_with_label ss) || ends_with s))

abbrev pub body_fits : Statements → Bool
body_fits none = true
body_fits (one s ss) = (label_fits s || other_fits s ss) && body_fits ss

abbrev pub may_write : Statements → Bool
may_write ss = (is_none ss || begins_with_label ss) && (body_fits ss && fits Breaking ss)
